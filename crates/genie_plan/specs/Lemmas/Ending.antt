-- Loans that end.
use Rattle.std.proofs.Common.{map, drop, drop-cons, add-one, ◌≡◌, ◌≢◌, ℕ, ◌+◌, ◌-◌, ◌<◌, ◌≤◌, Bool, true, false, List, [], ◌∷◌, ◌++◌, length, zero, suc, refl, ap, sym, ◌∙◌, subst, arith, get_or, set, rules, inl, inr, ◌⊎◌, length-set}
use Rattle.std.specs.Prelude.{◌==◌, ◌&&◌, count_by, if◌then◌else◌}
use Rattle.std.proofs.lemmas.List.{get_or-set_same, get_or-set_other, set-set, drop_all, get_or-map, length-map}
use Rattle.std.proofs.lemmas.List.Sums.{sum_by-cons, sum_by-append}
use Rattle.genie_base.specs.Lemmas.Places.{same_or, num}
use Rattle.genie_frame.specs.declared.frame.OutLoan.{OutLoan}
use Rattle.genie_frame.specs.declared.frame.Owner.{Owner}
use Rattle.genie_frame.specs.declared.frame.Owner.TheVariants.{Free, Page, System, Pool, Nobody}
use Rattle.genie_frame.specs.declared.frame.Counts.{Counts}
use Rattle.genie_frame.specs.FrameTable.{FrameTable, owner_at, counts_at, no_counts, is_lent, is_owned, is_system, set_owner, set_counts, IsShaped}
use Rattle.genie_frame.specs.Frames.{unowned, left_to, loan_ended, outputs}
use Rattle.genie_plan.specs.Loans.{LoanKind, Strong, Weak, Input, Loan, loan_times, is_kind, amount, one_less, less, AreOut, let_go, ended, all_ended, Ended, output_kind, output_loan, output_loans}
use Rattle.genie_plan.specs.Ending.{LeavesOthersOut}
use Rattle.genie_plan.specs.Lemmas.Ranges.{counted_there}

-- how many loans are on a frame
abbrev pub frame_times : List Loan → ℕ → ℕ
frame_times loans f = count_by (λ (loan : Loan). loan.frame == f) loans

pub loan_cons : (loan : Loan) (loans : List Loan) (kind : LoanKind) (f : ℕ) → loan_times (loan ∷ loans) kind f ≡ num (is_kind kind loan.kind && (loan.frame == f)) + loan_times loans kind f
loan_cons loan loans kind f = sum_by-cons (λ (x : Loan). num (is_kind kind x.kind && (x.frame == f))) loan loans

pub frame_cons : (loan : Loan) (loans : List Loan) (f : ℕ) → frame_times (loan ∷ loans) f ≡ num (loan.frame == f) + frame_times loans f
frame_cons loan loans f = sum_by-cons (λ (x : Loan). num (x.frame == f)) loan loans

pub some_or : (n : ℕ) → (0 < n) ⊎ (n ≡ 0)
some_or zero = inr refl
some_or (suc n) = inl (omega arith)

pub same_test : (f g : ℕ) → f ≡ g → (f == g) ≡ true
same_test f g e = grind (arith, rules)

pub other_test : (f g : ℕ) → f ≢ g → (f == g) ≡ false
other_test f g e = grind (arith, rules)

-- one loan less, by kinds
amount_less : (kind k : LoanKind) (c : Counts) → amount kind (one_less k c) ≡ amount kind c - num (is_kind kind k)
amount_less Strong Strong c = refl
amount_less Strong Weak c = omega arith
amount_less Strong Input c = omega arith
amount_less Weak Strong c = omega arith
amount_less Weak Weak c = refl
amount_less Weak Input c = omega arith
amount_less Input Strong c = omega arith
amount_less Input Weak c = omega arith
amount_less Input Input c = refl

wires_less : (k : LoanKind) (c : Counts) → (one_less k c).wires ≡ c.wires
wires_less Strong c = refl
wires_less Weak c = refl
wires_less Input c = refl

and_true : (b : Bool) → num (b && true) ≡ num b
and_true true = refl
and_true false = refl

and_false : (b : Bool) → num (b && false) ≡ 0
and_false true = refl
and_false false = refl

-- how many loans of a kind are on a frame, with one loan on it or elsewhere
pub times_here : (loan : Loan) (loans : List Loan) (kind : LoanKind) (f : ℕ) → f ≡ loan.frame → loan_times (loan ∷ loans) kind f ≡ num (is_kind kind loan.kind) + loan_times loans kind f
times_here loan loans kind f e = loan_cons loan loans kind f ∙ ap (λ b. num (is_kind kind loan.kind && b) + loan_times loans kind f) (same_test loan.frame f (sym e)) ∙ ap (λ n. n + loan_times loans kind f) (and_true (is_kind kind loan.kind))

pub times_else : (loan : Loan) (loans : List Loan) (kind : LoanKind) (f : ℕ) → f ≢ loan.frame → loan_times (loan ∷ loans) kind f ≡ loan_times loans kind f
times_else loan loans kind f n =
    let zeroed : num (is_kind kind loan.kind && (loan.frame == f)) ≡ 0 = ap (λ b. num (is_kind kind loan.kind && b)) (other_test loan.frame f (λ e. n (sym e))) ∙ and_false (is_kind kind loan.kind) in
    omega (arith, loan_cons loan loans kind f, zeroed)

pub frames_here : (loan : Loan) (loans : List Loan) (f : ℕ) → f ≡ loan.frame → frame_times (loan ∷ loans) f ≡ 1 + frame_times loans f
frames_here loan loans f e = frame_cons loan loans f ∙ ap (λ b. num b + frame_times loans f) (same_test loan.frame f (sym e))

pub frames_else : (loan : Loan) (loans : List Loan) (f : ℕ) → f ≢ loan.frame → frame_times (loan ∷ loans) f ≡ frame_times loans f
frames_else loan loans f n = let zeroed : num (loan.frame == f) ≡ 0 = ap num (other_test loan.frame f (λ e. n (sym e))) in omega (arith, frame_cons loan loans f, zeroed)

kind_once : (k : LoanKind) → num (is_kind Strong k) + num (is_kind Weak k) + num (is_kind Input k) ≡ 1
kind_once Strong = refl
kind_once Weak = refl
kind_once Input = refl

-- each loan is of one kind
pub kinds_sum : (loans : List Loan) (f : ℕ) → frame_times loans f ≡ loan_times loans Strong f + loan_times loans Weak f + loan_times loans Input f
kinds_sum [] f = refl
kinds_sum (loan ∷ loans) f = elim (same_or f loan.frame) [
  | inl e ↦ omega (arith, frames_here loan loans f e, times_here loan loans Strong f e, times_here loan loans Weak f e, times_here loan loans Input f e, kind_once loan.kind, kinds_sum loans f)
  | inr n ↦ omega (arith, frames_else loan loans f n, times_else loan loans Strong f n, times_else loan loans Weak f n, times_else loan loans Input f n, kinds_sum loans f)
]

less_same : (loans more : List Loan) (f : ℕ) (b c : Counts) → b.strong - loan_times loans Strong f ≡ c.strong - loan_times more Strong f → b.weak - loan_times loans Weak f ≡ c.weak - loan_times more Weak f → b.input - loan_times loans Input f ≡ c.input - loan_times more Input f → b.wires ≡ c.wires → less loans f b ≡ less more f c
less_same loans more f b c s w n q = λ i. record { strong = s i; weak = w i; input = n i; wires = q i }

pub less_here : (loan : Loan) (loans : List Loan) (f : ℕ) (c : Counts) → f ≡ loan.frame → less loans f (one_less loan.kind c) ≡ less (loan ∷ loans) f c
less_here loan loans f c e = less_same loans (loan ∷ loans) f (one_less loan.kind c) c
    (omega (arith, amount_less Strong loan.kind c, times_here loan loans Strong f e))
    (omega (arith, amount_less Weak loan.kind c, times_here loan loans Weak f e))
    (omega (arith, amount_less Input loan.kind c, times_here loan loans Input f e))
    (wires_less loan.kind c)

pub less_else : (loan : Loan) (loans : List Loan) (f : ℕ) (c : Counts) → f ≢ loan.frame → less loans f c ≡ less (loan ∷ loans) f c
less_else loan loans f c n = less_same loans (loan ∷ loans) f c c
    (omega (arith, times_else loan loans Strong f n))
    (omega (arith, times_else loan loans Weak f n))
    (omega (arith, times_else loan loans Input f n))
    refl

less_none : (loans : List Loan) (f : ℕ) (c : Counts) → frame_times loans f ≡ 0 → less loans f c ≡ c
less_none loans f c z =
    let k = kinds_sum loans f in
    let s : c.strong - loan_times loans Strong f ≡ c.strong = omega arith in
    let w : c.weak - loan_times loans Weak f ≡ c.weak = omega arith in
    let n : c.input - loan_times loans Input f ≡ c.input = omega arith in
    λ i. record { strong = s i; weak = w i; input = n i; wires = c.wires }

-- a loan of a plan ends: its frame
module _ (t : FrameTable) (kind : LoanKind) (f : ℕ) (s : IsShaped t.page t.owners t.counts t.bytes) (out : 0 < amount kind (counts_at t f)) where
  amount_none : (k : LoanKind) → amount k no_counts ≡ 0
  amount_none Strong = refl
  amount_none Weak = refl
  amount_none Input = refl

  pub loan_there : f < length t.counts
  loan_there = counted_there t.counts f (λ e. absurd (omega (arith, ap (amount kind) e, amount_none kind)))

  pub loan_owned : f < length t.owners
  loan_owned = omega (arith, loan_there, s.counted)

-- the two ways in which a loan ends
pub ended_plain : (t : FrameTable) (f : ℕ) (left : Counts) → is_system (owner_at t f) ≡ false → loan_ended t f left ≡ set_owner (set_counts t f left) f (let_go (owner_at t f) left)
ended_plain t f left e = ap (set_owner (set_counts t f left) f) (plain (owner_at t f) e)
  where
    plain : (o : Owner) → is_system o ≡ false → left_to o left ≡ let_go o left
    plain Free e = refl
    plain (Page p) e = refl
    plain (System t) e = cc
    plain (Pool d) e = cc
    plain Nobody e = refl

stays_owned : (o : Owner) (left : Counts) → is_system o ≡ true → left_to o left ≡ o
stays_owned Free left e = cc
stays_owned (Page p) left e = cc
stays_owned (System t) left e = refl
stays_owned (Pool d) left e = refl
stays_owned Nobody left e = cc

buffer_owned : (o : Owner) → is_system o ≡ true → is_owned o ≡ true
buffer_owned Free e = cc
buffer_owned (Page p) e = cc
buffer_owned (System t) e = refl
buffer_owned (Pool d) e = refl
buffer_owned Nobody e = cc

buffer_goes : (o : Owner) (left : Counts) → is_system o ≡ true → unowned left ≡ let_go o left
buffer_goes Free left e = cc
buffer_goes (Page p) left e = cc
buffer_goes (System t) left e = refl
buffer_goes (Pool d) left e = refl
buffer_goes Nobody left e = cc

module _ (t : FrameTable) (f : ℕ) (left : Counts) (owned : f < length t.owners) (counted : f < length t.counts) (e : is_system (owner_at t f) ≡ true) where
  left_owner : owner_at (loan_ended t f left) f ≡ owner_at t f
  left_owner = get_or-set_same t.owners f _ Free owned ∙ stays_owned (owner_at t f) left e

  pub buffer_still : is_owned (owner_at (loan_ended t f left) f) ≡ true
  buffer_still = ap is_owned left_owner ∙ buffer_owned (owner_at t f) e

  pub ended_buffer : set_owner (loan_ended t f left) f (unowned (counts_at (loan_ended t f left) f)) ≡ set_owner (set_counts t f left) f (let_go (owner_at t f) left)
  ended_buffer =
      let c : counts_at (loan_ended t f left) f ≡ left = get_or-set_same t.counts f left no_counts counted in
      let o : unowned (counts_at (loan_ended t f left) f) ≡ let_go (owner_at t f) left = ap unowned c ∙ buffer_goes (owner_at t f) left e in
      λ k. record t { owners = (set-set t.owners f (left_to (owner_at t f) left) (unowned (counts_at (loan_ended t f left) f)) ∙ ap (set t.owners f) o) k; counts = set t.counts f left }

lent_by : (c : Counts) → 0 < c.strong + c.weak + c.input → is_lent c ≡ true
lent_by c h = grind (arith, rules)

go_unowned : (b : Bool) (c d : Counts) → b ≡ true → let_go (if b then Nobody else Free) d ≡ unowned d
go_unowned true c d e = refl
go_unowned false c d e = cc

-- what is let go while a loan is out can be let go again
go_twice : (o : Owner) (c d : Counts) → is_lent c ≡ true → let_go (let_go o c) d ≡ let_go o d
go_twice Free c d l = refl
go_twice (Page p) c d l = refl
go_twice (System t) c d l = go_unowned (is_lent c) c d l
go_twice (Pool p) c d l = go_unowned (is_lent c) c d l
go_twice Nobody c d l = go_unowned (is_lent c) c d l

abbrev pub IsTable : FrameTable → Type 0
IsTable t = IsShaped t.page t.owners t.counts t.bytes

both : (t : FrameTable) (f g : ℕ) (c d : Counts) → f ≡ g → c ≡ d → let_go (owner_at t g) d ≡ let_go (owner_at t f) c
both t f g c d e h = sym (λ k. let_go (owner_at t (e k)) (h k))

-- one loan of a plan ends, and the others are out
module _ (t : FrameTable) (loan : Loan) (loans : List Loan) (s : IsTable t) (out : AreOut t (loan ∷ loans)) where
  own : is_kind loan.kind loan.kind ≡ true
  own = by_kind loan.kind
    where
      by_kind : (k : LoanKind) → is_kind k k ≡ true
      by_kind Strong = refl
      by_kind Weak = refl
      by_kind Input = refl

  pub first_out : 0 < amount loan.kind (counts_at t loan.frame)
  first_out = let one = ap num own in omega (arith, out loan.kind loan.frame, times_here loan loans loan.kind loan.frame refl, one)

  there : loan.frame < length t.counts
  there = loan_there t loan.kind loan.frame s first_out

  owned : loan.frame < length t.owners
  owned = loan_owned t loan.kind loan.frame s first_out

  counts_here : counts_at (ended t loan) loan.frame ≡ one_less loan.kind (counts_at t loan.frame)
  counts_here = get_or-set_same t.counts loan.frame _ no_counts there

  counts_else : (f : ℕ) → f ≢ loan.frame → counts_at (ended t loan) f ≡ counts_at t f
  counts_else f n = get_or-set_other t.counts loan.frame f _ no_counts n

  owner_here : owner_at (ended t loan) loan.frame ≡ let_go (owner_at t loan.frame) (one_less loan.kind (counts_at t loan.frame))
  owner_here = get_or-set_same t.owners loan.frame _ Free owned

  owner_else : (f : ℕ) → f ≢ loan.frame → owner_at (ended t loan) f ≡ owner_at t f
  owner_else f n = get_or-set_other t.owners loan.frame f _ Free n

  pub rest_out : AreOut (ended t loan) loans
  rest_out kind f = elim (same_or f loan.frame) [
    | inl e ↦
        let now : amount kind (counts_at (ended t loan) f) ≡ amount kind (counts_at t f) - num (is_kind kind loan.kind) = ap (λ n. amount kind (counts_at (ended t loan) n)) e ∙ ap (amount kind) counts_here ∙ amount_less kind loan.kind (counts_at t loan.frame) ∙ ap (λ n. amount kind (counts_at t n) - num (is_kind kind loan.kind)) (sym e) in
        omega (arith, out kind f, times_here loan loans kind f e)
    | inr n ↦ omega (arith, out kind f, times_else loan loans kind f n, ap (amount kind) (counts_else f n))
  ]

  pub shaped_still : IsTable (ended t loan)
  shaped_still = record {
    size = s.size;
    some = omega (arith, length-set t.owners loan.frame (let_go (owner_at t loan.frame) (one_less loan.kind (counts_at t loan.frame))), s.some);
    most = omega (arith, length-set t.owners loan.frame (let_go (owner_at t loan.frame) (one_less loan.kind (counts_at t loan.frame))), s.most);
    counted = length-set t.counts loan.frame _ ∙ s.counted ∙ sym (length-set t.owners loan.frame _);
    filled = s.filled ∙ sym (length-set t.owners loan.frame _);
    paged = s.paged;
  }

  still_lent : (f : ℕ) → 0 < frame_times loans f → is_lent (counts_at (ended t loan) f) ≡ true
  still_lent f h = lent_by (counts_at (ended t loan) f) (omega (arith, kinds_sum loans f, rest_out Strong f, rest_out Weak f, rest_out Input f))

  pub ended_more : (u : FrameTable) → Ended loans (ended t loan) u → Ended (loan ∷ loans) t u
  ended_more u x = record {
    page = x.page;
    bytes = x.bytes;
    meters = x.meters;
    landed = x.landed;
    size = x.size ∙ length-set t.owners loan.frame _;
    counts = λ f. elim (same_or f loan.frame) [
      | inl e ↦ x.counts f ∙ ap (λ n. less loans f (counts_at (ended t loan) n)) e ∙ ap (less loans f) counts_here ∙ ap (λ n. less loans f (one_less loan.kind (counts_at t n))) (sym e) ∙ less_here loan loans f (counts_at t f) e
      | inr n ↦ x.counts f ∙ ap (less loans f) (counts_else f n) ∙ less_else loan loans f (counts_at t f) n
    ];
    owners = λ f h. elim (same_or f loan.frame) [
      | inl e ↦ elim (some_or (frame_times loans f)) [
        | inl p ↦
            let l : is_lent (one_less loan.kind (counts_at t loan.frame)) ≡ true = sym (ap is_lent counts_here) ∙ ap (λ n. is_lent (counts_at (ended t loan) n)) (sym e) ∙ still_lent f p in
            x.owners f p ∙ ap (λ n. let_go (owner_at (ended t loan) n) (counts_at u f)) e ∙ ap (λ o. let_go o (counts_at u f)) owner_here ∙ go_twice (owner_at t loan.frame) _ (counts_at u f) l ∙ ap (λ n. let_go (owner_at t n) (counts_at u f)) (sym e)
        | inr z ↦
            let left : counts_at u f ≡ one_less loan.kind (counts_at t loan.frame) = x.counts f ∙ less_none loans f (counts_at (ended t loan) f) z ∙ ap (counts_at (ended t loan)) e ∙ counts_here in
            x.others f z ∙ ap (owner_at (ended t loan)) e ∙ owner_here ∙ both t f loan.frame (counts_at u f) _ e left
      ]
      | inr n ↦ x.owners f (omega (arith, h, frames_else loan loans f n)) ∙ ap (λ o. let_go o (counts_at u f)) (owner_else f n)
    ];
    others = λ f z. elim (same_or f loan.frame) [
      | inl e ↦ absurd (omega (arith, z, frames_here loan loans f e))
      | inr n ↦ x.others f (omega (arith, z, frames_else loan loans f n)) ∙ owner_else f n
    ];
  }

pub ended_none : (t : FrameTable) → Ended [] t t
ended_none t = record { page = refl; bytes = refl; meters = refl; landed = refl; size = refl; counts = λ f. sym (less_none [] f (counts_at t f) refl); owners = λ f h. absurd (omega (arith, h)); others = λ f z. refl }

pub ended_all : (loans : List Loan) (t : FrameTable) → IsTable t → AreOut t loans → Ended loans t (all_ended t loans)
ended_all [] t s out = ended_none t
ended_all (loan ∷ loans) t s out = ended_more t loan loans s out (all_ended (ended t loan) loans) (ended_all loans (ended t loan) (shaped_still t loan loans s out) (rest_out t loan loans s out))

-- the loans that have ended so far
pub record Ending (loans : List Loan) (old now : FrameTable) (i : ℕ) : Type 0 where
  pub rest : all_ended now (drop i loans) ≡ all_ended old loans
  pub out : AreOut now (drop i loans)
  pub shaped : IsTable now

pub ending_none : (loans : List Loan) (t : FrameTable) → IsTable t → AreOut t loans → Ending loans t t 0
ending_none loans t s out = record { rest = refl; out = out; shaped = s }

next_loan : (loans : List Loan) (i : ℕ) (d : Loan) → i < length loans → drop i loans ≡ get_or loans i d ∷ drop (i + 1) loans
next_loan loans i d l = rw (add-one, drop-cons loans i d l) refl

pub ending_out : (loans : List Loan) (old now : FrameTable) (i : ℕ) (d : Loan) → Ending loans old now i → i < length loans → 0 < amount (get_or loans i d).kind (counts_at now (get_or loans i d).frame)
ending_out loans old now i d x l = first_out now (get_or loans i d) (drop (i + 1) loans) x.shaped (subst (AreOut now) (next_loan loans i d l) x.out)

pub ending_more : (loans : List Loan) (old now : FrameTable) (i : ℕ) (d : Loan) → Ending loans old now i → i < length loans → Ending loans old (ended now (get_or loans i d)) (i + 1)
ending_more loans old now i d x l =
    let e = next_loan loans i d l in
    let out = subst (AreOut now) e x.out in
    record {
      rest = sym (ap (all_ended now) e) ∙ x.rest;
      out = rest_out now (get_or loans i d) (drop (i + 1) loans) x.shaped out;
      shaped = shaped_still now (get_or loans i d) (drop (i + 1) loans) x.shaped out;
    }

pub ending_last : (loans : List Loan) (old now : FrameTable) (i : ℕ) → IsTable old → AreOut old loans → length loans ≤ i → Ending loans old now i → Ended loans old now
ending_last loans old now i s out l x = let none : drop i loans ≡ [] = drop_all i loans l in subst (Ended loans old) (sym (sym (ap (all_ended now) none) ∙ x.rest)) (ended_all loans old s out)

-- the same over the loans of a plan
module _ {X : Type 0} (loan : X → Loan) (xs : List X) (old now : FrameTable) (i : ℕ) (d : X) (x : Ending (map loan xs) old now i) (l : i < length xs) where
  l' : i < length (map loan xs)
  l' = simp length-map l

  is : get_or (map loan xs) i (loan d) ≡ loan (get_or xs i d)
  is = get_or-map loan xs i d (loan d) l

  pub loan_out : 0 < amount (loan (get_or xs i d)).kind (counts_at now (loan (get_or xs i d)).frame)
  loan_out = subst (λ (y : Loan). 0 < amount y.kind (counts_at now y.frame)) is (ending_out (map loan xs) old now i (loan d) x l')

  pub loan_more : (new : FrameTable) → new ≡ ended now (loan (get_or xs i d)) → Ending (map loan xs) old new (i + 1)
  loan_more new e = subst (λ t. Ending (map loan xs) old t (i + 1)) (sym e) (subst (λ (y : Loan). Ending (map loan xs) old (ended now y) (i + 1)) is (ending_more (map loan xs) old now i (loan d) x l'))

pub loan_last : {X : Type 0} (loan : X → Loan) (xs : List X) (old now : FrameTable) (i : ℕ) → IsTable old → AreOut old (map loan xs) → length xs ≤ i → Ending (map loan xs) old now i → Ended (map loan xs) old now
loan_last loan xs old now i s out l x = ending_last (map loan xs) old now i s out (simp length-map l) x

pub outputs_are : (strong : Bool) (c : Counts) → amount (output_kind strong) c ≡ outputs strong c
outputs_are true c = refl
outputs_are false c = refl

pub output_out : (xs : List OutLoan) (old now : FrameTable) (i : ℕ) (d : OutLoan) → Ending (output_loans xs) old now i → i < length xs → 0 < outputs (get_or xs i d).strong (counts_at now (get_or xs i d).frame.0)
output_out xs old now i d x l = subst (λ n. 0 < n) (outputs_are (get_or xs i d).strong (counts_at now (get_or xs i d).frame.0)) (loan_out output_loan xs old now i d x l)

-- what is left of the loans of a kind
less_amount : (loans : List Loan) (kind : LoanKind) (f : ℕ) (c : Counts) → amount kind (less loans f c) ≡ amount kind c - loan_times loans kind f
less_amount loans Strong f c = refl
less_amount loans Weak f c = refl
less_amount loans Input f c = refl

pub leaves_others_out : LeavesOthersOut
leaves_others_out old new loans others x out kind f =
    let all : loan_times (loans ++ others) kind f ≡ loan_times loans kind f + loan_times others kind f = sum_by-append (λ (loan : Loan). num (is_kind kind loan.kind && (loan.frame == f))) loans others in
    let left = ap (amount kind) (x.counts f) ∙ less_amount loans kind f (counts_at old f) in
    omega (arith, out kind f, all, left)
