-- How many loans of a list are on a frame.
use Rattle.std.proofs.Common.{◌≡◌, ◌≢◌, ℕ, zero, suc, ◌+◌, ◌<◌, ◌≤◌, Bool, true, false, List, [], ◌∷◌, ◌++◌, length, refl, ap, ◌∙◌, subst, arith, rules, get_or, inl, inr, ◌⊎◌}
use Rattle.std.specs.Prelude.{◌==◌, ◌&&◌}
use Rattle.std.proofs.lemmas.List.Sums.{count_by-le-length}
use Rattle.std.proofs.lemmas.Grind.{common_steps}
use Rattle.genie_base.specs.Lemmas.Places.{same_or, num, count_by-push}
use Rattle.genie_frame.specs.declared.frame.Counts.{Counts}
use Rattle.genie_frame.specs.FrameTable.{is_held, is_lent}
use Rattle.genie_plan.specs.Loans.{LoanKind, Strong, Weak, Input, Loan, loan_times, is_kind, amount, one_more, more, less}
use Rattle.genie_plan.specs.Lemmas.Ending.{loan_cons, frame_cons, same_test, other_test, times_here, times_else, frames_here, frames_else}
use Rattle.genie_tcow.specs.Lending.{loans_on}

pub bool_or : (b : Bool) → (b ≡ true) ⊎ (b ≡ false)
bool_or true = inl refl
bool_or false = inr refl

and_true : (b : Bool) → num (b && true) ≡ num b
and_true true = refl
and_true false = refl

-- one loan alone, at its frame and elsewhere
one_times : (kind k : LoanKind) (g f : ℕ) → f ≡ g → loan_times (record { kind = kind; frame = g } ∷ []) k f ≡ num (is_kind k kind)
one_times kind k g f e = let t = times_here (record { kind = kind; frame = g }) [] k f e in omega (arith, t)

none_times : (kind k : LoanKind) (g f : ℕ) → f ≢ g → loan_times (record { kind = kind; frame = g } ∷ []) k f ≡ 0
none_times kind k g f n = times_else (record { kind = kind; frame = g }) [] k f n

pub on_one : (kind : LoanKind) (g f : ℕ) → ((f ≡ g) × (loans_on (record { kind = kind; frame = g } ∷ []) f ≡ 1)) ⊎ ((f ≢ g) × (loans_on (record { kind = kind; frame = g } ∷ []) f ≡ 0))
on_one kind g f = elim (same_or f g) [
  | inl e ↦ let t = frames_here (record { kind = kind; frame = g }) [] f e in inl (e, omega (arith, t))
  | inr n ↦ inr (n, frames_else (record { kind = kind; frame = g }) [] f n)
]

pub on_push : (loans : List Loan) (loan : Loan) (f : ℕ) → loans_on (loans ++ loan ∷ []) f ≡ loans_on loans f + loans_on (loan ∷ []) f
on_push loans loan f = let one = frame_cons loan [] f in omega (arith, one, count_by-push (λ (x : Loan). x.frame == f) loans loan)

times_push : (loans : List Loan) (loan : Loan) (kind : LoanKind) (f : ℕ) → loan_times (loans ++ loan ∷ []) kind f ≡ loan_times loans kind f + loan_times (loan ∷ []) kind f
times_push loans loan kind f = let one = loan_cons loan [] kind f in omega (arith, one, count_by-push (λ (x : Loan). is_kind kind x.kind && (x.frame == f)) loans loan)

pub times_most : (loans : List Loan) (kind : LoanKind) (f : ℕ) → loan_times loans kind f ≤ length loans
times_most loans kind f = count_by-le-length (λ (x : Loan). is_kind kind x.kind && (x.frame == f)) loans

kind_own : (k : LoanKind) → num (is_kind k k) ≡ 1
kind_own Strong = refl
kind_own Weak = refl
kind_own Input = refl

-- a loan of the list is counted
pub times_at : (loans : List Loan) (k : ℕ) (d : Loan) → k < length loans → 0 < loan_times loans (get_or loans k d).kind (get_or loans k d).frame
times_at [] k d l = absurd (omega arith)
times_at (x ∷ loans) zero d l =
    let one : num (is_kind x.kind x.kind && (x.frame == x.frame)) ≡ 1 = ap (λ b. num (is_kind x.kind x.kind && b)) (same_test x.frame x.frame refl) ∙ and_true (is_kind x.kind x.kind) ∙ kind_own x.kind in
    omega (arith, loan_cons x loans x.kind x.frame, one)
times_at (x ∷ loans) (suc k) d l = let l' : k < length loans = omega arith in let y = get_or loans k d in omega (arith, loan_cons x loans y.kind y.frame, times_at loans k d l')

-- a frame of the list has a loan of it
pub on_at : (loans : List Loan) (k : ℕ) (d : Loan) → k < length loans → 0 < loans_on loans (get_or loans k d).frame
on_at [] k d l = absurd (omega arith)
on_at (x ∷ loans) zero d l = omega (arith, frame_cons x loans x.frame, ap num (same_test x.frame x.frame refl))
on_at (x ∷ loans) (suc k) d l = let l' : k < length loans = omega arith in omega (arith, frame_cons x loans (get_or loans k d).frame, on_at loans k d l')

pub index_on : (loans : List Loan) (d : Loan) (f : ℕ) → 0 < loans_on loans f → (k : ℕ) × (k < length loans) × ((get_or loans k d).frame ≡ f)
index_on [] d f h = absurd (omega (arith, h))
index_on (x ∷ loans) d f h = elim (same_or x.frame f) [
  | inl e ↦ (zero, omega arith, e)
  | inr n ↦ let z = ap num (other_test x.frame f n) in let rest = index_on loans d f (omega (arith, h, frame_cons x loans f, z)) in (suc rest.0, omega (arith, rest.1), rest.2)
]

pub at_last : (loans : List Loan) (loan d : Loan) (k : ℕ) → k ≡ length loans → get_or (loans ++ loan ∷ []) k d ≡ loan
at_last loans loan d k e = grind (arith, common_steps, e)

pub at_front : (loans : List Loan) (loan d : Loan) (k : ℕ) → k < length loans → get_or (loans ++ loan ∷ []) k d ≡ get_or loans k d
at_front loans loan d k l = grind (arith, common_steps, l)

-- counts with loans more
counts_same : (a b : Counts) → a.strong ≡ b.strong → a.weak ≡ b.weak → a.input ≡ b.input → a.wires ≡ b.wires → a ≡ b
counts_same a b s w n q = λ k. record { strong = s k; weak = w k; input = n k; wires = q k }

pub amount_more : (kind : LoanKind) (loans : List Loan) (f : ℕ) (c : Counts) → amount kind (more loans f c) ≡ amount kind c + loan_times loans kind f
amount_more Strong loans f c = refl
amount_more Weak loans f c = refl
amount_more Input loans f c = refl

pub more_push : (loans : List Loan) (loan : Loan) (f : ℕ) (c : Counts) → more (loan ∷ []) f (more loans f c) ≡ more (loans ++ loan ∷ []) f c
more_push loans loan f c = counts_same (more (loan ∷ []) f (more loans f c)) (more (loans ++ loan ∷ []) f c)
    (omega (arith, times_push loans loan Strong f))
    (omega (arith, times_push loans loan Weak f))
    (omega (arith, times_push loans loan Input f))
    refl

pub more_none : (f : ℕ) (c : Counts) → c ≡ more [] f c
more_none f c = counts_same c (more [] f c) (omega arith) (omega arith) (omega arith) refl

pub less_more : (loans : List Loan) (f : ℕ) (c : Counts) → less loans f (more loans f c) ≡ c
less_more loans f c = counts_same (less loans f (more loans f c)) c (omega arith) (omega arith) (omega arith) refl

strong_one : (k : LoanKind) (c : Counts) → (one_more k c).strong ≡ c.strong + num (is_kind Strong k)
strong_one Strong c = refl
strong_one Weak c = omega arith
strong_one Input c = omega arith

weak_one : (k : LoanKind) (c : Counts) → (one_more k c).weak ≡ c.weak + num (is_kind Weak k)
weak_one Strong c = omega arith
weak_one Weak c = refl
weak_one Input c = omega arith

input_one : (k : LoanKind) (c : Counts) → (one_more k c).input ≡ c.input + num (is_kind Input k)
input_one Strong c = omega arith
input_one Weak c = omega arith
input_one Input c = refl

wires_one : (k : LoanKind) (c : Counts) → (one_more k c).wires ≡ c.wires
wires_one Strong c = refl
wires_one Weak c = refl
wires_one Input c = refl

pub one_here : (kind : LoanKind) (g f : ℕ) (c : Counts) → f ≡ g → one_more kind c ≡ more (record { kind = kind; frame = g } ∷ []) f c
one_here kind g f c e = counts_same (one_more kind c) (more (record { kind = kind; frame = g } ∷ []) f c)
    (omega (arith, strong_one kind c, one_times kind Strong g f e))
    (omega (arith, weak_one kind c, one_times kind Weak g f e))
    (omega (arith, input_one kind c, one_times kind Input g f e))
    (wires_one kind c)

pub one_else : (kind : LoanKind) (g f : ℕ) (c : Counts) → f ≢ g → c ≡ more (record { kind = kind; frame = g } ∷ []) f c
one_else kind g f c n = counts_same c (more (record { kind = kind; frame = g } ∷ []) f c)
    (omega (arith, none_times kind Strong g f n))
    (omega (arith, none_times kind Weak g f n))
    (omega (arith, none_times kind Input g f n))
    refl

pub wires_more : (kind : LoanKind) (c : Counts) → (one_more kind c).wires ≡ c.wires
wires_more kind c = wires_one kind c

held_grows : (c d : Counts) → c.weak ≤ d.weak → c.input ≤ d.input → is_held c ≡ true → is_held d ≡ true
held_grows c d w n h = grind (arith, rules)

pub held_more : (kind : LoanKind) (c : Counts) → is_held c ≡ true → is_held (one_more kind c) ≡ true
held_more kind c h = held_grows c (one_more kind c) (omega (arith, weak_one kind c)) (omega (arith, input_one kind c)) h

lent_some : (c : Counts) → 0 < c.strong + c.weak + c.input → is_lent c ≡ true
lent_some c h = grind (arith, rules)

kind_once : (k : LoanKind) → num (is_kind Strong k) + num (is_kind Weak k) + num (is_kind Input k) ≡ 1
kind_once Strong = refl
kind_once Weak = refl
kind_once Input = refl

pub lent_one_more : (kind : LoanKind) (c : Counts) → is_lent (one_more kind c) ≡ true
lent_one_more kind c = lent_some (one_more kind c) (omega (arith, strong_one kind c, weak_one kind c, input_one kind c, kind_once kind))

amount_lent : (kind : LoanKind) (c : Counts) → 0 < amount kind c → is_lent c ≡ true
amount_lent Strong c h = lent_some c (omega (arith, h))
amount_lent Weak c h = lent_some c (omega (arith, h))
amount_lent Input c h = lent_some c (omega (arith, h))

-- a frame with a loan of the list is lent
pub lent_with : (loans : List Loan) (k : ℕ) (d : Loan) (c : Counts) → k < length loans → is_lent (more loans (get_or loans k d).frame c) ≡ true
lent_with loans k d c l =
    let y = get_or loans k d in
    amount_lent y.kind (more loans y.frame c) (omega (arith, times_at loans k d l, amount_more y.kind loans y.frame c))

held_amount : (c : Counts) → 0 < c.weak → is_held c ≡ true
held_amount c h = grind (arith, rules)

pub held_with : (loans : List Loan) (k : ℕ) (d : Loan) (c : Counts) → (get_or loans k d).kind ≡ Weak → k < length loans → is_held (more loans (get_or loans k d).frame c) ≡ true
held_with loans k d c e l =
    let y = get_or loans k d in
    let t : 0 < loan_times loans Weak y.frame = subst (λ q. 0 < loan_times loans q y.frame) e (times_at loans k d l) in
    held_amount (more loans y.frame c) (omega (arith, t))

-- as many loans of a kind as loans
and_most : (a b : Bool) → num (a && b) ≤ num b
and_most true true = omega arith
and_most true false = omega arith
and_most false true = omega arith
and_most false false = omega arith

pub times_on : (loans : List Loan) (kind : LoanKind) (f : ℕ) → loan_times loans kind f ≤ loans_on loans f
times_on [] kind f = omega arith
times_on (x ∷ loans) kind f = omega (arith, loan_cons x loans kind f, frame_cons x loans f, and_most (is_kind kind x.kind) (x.frame == f), times_on loans kind f)
