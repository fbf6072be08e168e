-- A transfer gives its wires and loans back: what is left of the frames of the others, and what is seen.
use Rattle.std.proofs.Common.{◌≡◌, ◌≢◌, ℕ, ◌+◌, ◌-◌, ◌<◌, zero, suc, Bool, true, false, cond, List, [], ◌∷◌, refl, sym, ap, subst, arith, rules, ◌∙◌, ◌⊎◌, inl, inr, ⊎_elim, map, filter, length, get_or}
use Rattle.std.specs.Prelude.{Option, Some, None, All, AllPairs, IfSome, find, sum_by, if◌then◌else◌, ◌==◌, ◌&&◌, ◌||◌}
use Rattle.std.specs.List.{list_any}
use Rattle.std.proofs.lemmas.Bool.{cases_Bool}
use Rattle.std.proofs.lemmas.List.Sums.{sum_by-cons}
use Rattle.genie_base.specs.declared.semantics.Direction.{Direction}
use Rattle.genie_base.specs.declared.semantics.Direction.TheVariants as direction
use Rattle.genie_base.specs.Lemmas.Places.{num}
use Rattle.genie_device.specs.Device.{DeviceView}
use Rattle.genie_frame.specs.declared.frame.Counts.{Counts}
use Rattle.genie_frame.specs.declared.frame.InLoan.{InLoan}
use Rattle.genie_frame.specs.declared.frame.OutLoan.{OutLoan}
use Rattle.genie_frame.specs.declared.frame.Owner.{Owner}
use Rattle.genie_frame.specs.declared.frame.Owner.TheVariants.{Free, Page, System, Pool, Nobody}
use Rattle.genie_frame.specs.FrameTable.{FrameTable, IsShaped, AreLoansOwned, Agree, owner_at, counts_at, no_counts, is_held, is_lent, is_system}
use Rattle.genie_frame.specs.Frames.{unowned}
use Rattle.genie_input.specs.Pools.{PoolState}
use Rattle.genie_object.specs.declared.memory.Memory.{Memory}
use Rattle.genie_object.specs.Memory.{seen, is_kept}
use Rattle.genie_object.specs.Sound.{FitsHidden}
use Rattle.genie_plan.specs.Ending.{CanEnd, ShowsStill}
use Rattle.genie_plan.specs.Loans.{Loan, LoanKind, Ended, let_go, loan_times, is_kind, output_loan, output_loans, input_loan, input_loans}
use Rattle.genie_plan.specs.Loans as kind
use Rattle.genie_plan.specs.Plans.{times, input_frames}
use Rattle.genie_plan.specs.Wiring.{KeepsAll}
use Rattle.genie_plan.specs.Lemmas.Ended.{ends_soundly, shows_after}
use Rattle.genie_plan.specs.Lemmas.Ending.{frame_times, frame_cons, kinds_sum, some_or, loan_cons}
use Rattle.genie_plan.specs.Lemmas.Wiring.{unwires_keep_all}
use Rattle.genie_model.specs.Lemmas.Lists.{Has, all_has, has_at, has_any, find_has, pairs_head, pairs_tail}
use Rattle.genie_model.specs.Tables.{without, entry}
use Rattle.genie_kernel.specs.declared.transfer.Loans.{Loans}
use Rattle.genie_kernel.specs.declared.transfer.Loans.TheVariants.{Nothing, Outward, Inward}
use Rattle.genie_kernel.specs.declared.transfer.Transfer.{Transfer}
use Rattle.genie_kernel.specs.Calls.{has_number, number_of, is_strong_call}
use Rattle.genie_kernel.specs.Counted.{AreCounted, loans_on, wires_on, pool_on, is_wiring}
use Rattle.genie_kernel.specs.Holding.{LoansEnd}
use Rattle.genie_kernel.specs.Kept.{KeepsOwner}
use Rattle.genie_kernel.specs.Lending.{GivesBack, without_loans}
use Rattle.genie_kernel.specs.Loans.{frames_of, loans_of, has_frame}
use Rattle.genie_kernel.specs.Owners.{holders}
use Rattle.genie_kernel.specs.Owning.{LetsGo}
use Rattle.genie_kernel.specs.Planned.{ArePlanned, Lends, LendsOut, LendsIn, LendsInput, is_early_device}
use Rattle.genie_kernel.specs.Same.{ShowSame}
use Rattle.genie_kernel.specs.Lemmas.Beside.{filter_beside}
use Rattle.genie_kernel.specs.Lemmas.Lending.{counts_shrink}
use Rattle.genie_kernel.specs.Lemmas.Staying.{at_least, lent_true}
use Rattle.genie_changes.specs.Ending.{IsGivenBack, LendsSoundly, LeavesOthers, wired_frames}
use Rattle.genie_changes.specs.Pending.{OwnFramesStay}

-- a frame is lent as often as it is among the frames
abbrev one_on : ℕ → ℕ → ℕ
one_on f g = num (g == f)

frames_match : {X : Type 0} (frame : X → ℕ) (loan : X → Loan) (f : ℕ) → ((x : X) → (loan x).frame ≡ frame x) → (xs : List X) → frame_times (map loan xs) f ≡ times (map frame xs) f
frames_match frame loan f same [] = refl
frames_match frame loan f same (x ∷ xs) =
    let one = ap (one_on f) (same x) in
    omega (arith, frame_cons (loan x) (map loan xs) f, sum_by-cons (one_on f) (frame x) (map frame xs), one, frames_match frame loan f same xs)

times_of : (l : Loans) (f : ℕ) → frame_times (loans_of l) f ≡ times (frames_of l) f
times_of Nothing f = refl
times_of (Outward p) f = frames_match (λ (x : OutLoan). x.frame.0) output_loan f (λ x. refl) p.loans.items
times_of (Inward p) f = frames_match (λ (x : InLoan). x.frame.0) input_loan f (λ x. refl) p.loans.items

some_times : (f : ℕ) (xs : List ℕ) → list_any (λ g. g == f) xs ≡ true → 0 < times xs f
some_times f [] e = absurd (cc)
some_times f (x ∷ xs) e =
    let all = sum_by-cons (one_on f) x xs in
    elim (x == f) as (λ b. (x == f) ≡ b → (b || list_any (λ g. g == f) xs) ≡ true → 0 < times (x ∷ xs) f) [
      | true ↦ λ is h. let one : one_on f x ≡ 1 = ap num is in omega (arith, all, one)
      | false ↦ λ is h. omega (arith, all, some_times f xs h)
    ] refl e

no_times : (f : ℕ) (xs : List ℕ) → list_any (λ g. g == f) xs ≡ false → times xs f ≡ 0
no_times f [] e = refl
no_times f (x ∷ xs) e =
    let all = sum_by-cons (one_on f) x xs in
    elim (x == f) as (λ b. (x == f) ≡ b → (b || list_any (λ g. g == f) xs) ≡ false → times (x ∷ xs) f ≡ 0) [
      | true ↦ λ is h. absurd (cc)
      | false ↦ λ is h. let none : one_on f x ≡ 0 = ap num is in omega (arith, all, none, no_times f xs h)
    ] refl e

abbrev loan_count : Transfer → ℕ → ℕ
loan_count t f = frame_times (loans_of t.loans) f

on_frame : (t : Transfer) (f : ℕ) → has_frame f t ≡ true → 0 < loan_count t f
on_frame t f e = omega (arith, times_of t.loans f, some_times f (frames_of t.loans) e)

off_frame : (t : Transfer) (f : ℕ) → has_frame f t ≡ false → loan_count t f ≡ 0
off_frame t f e = omega (arith, times_of t.loans f, no_times f (frames_of t.loans) e)

counted_frame : (t : Transfer) (f : ℕ) → 0 < loan_count t f → has_frame f t ≡ true
counted_frame t f l = ⊎_elim (λ (yes : has_frame f t ≡ true). yes) (λ no. absurd (omega (arith, l, off_frame t f no))) (cases_Bool (has_frame f t))

uncounted_frame : (t : Transfer) (f : ℕ) → loan_count t f ≡ 0 → has_frame f t ≡ false
uncounted_frame t f z = ⊎_elim (λ (yes : has_frame f t ≡ true). absurd (omega (arith, z, on_frame t f yes))) (λ no. no) (cases_Bool (has_frame f t))

-- a weak call has no strong loan
strong_none : {X : Type 0} (loan : X → Loan) (f : ℕ) (xs : List X) → All (λ x. is_kind kind.Strong (loan x).kind ≡ false) xs → loan_times (map loan xs) kind.Strong f ≡ 0
strong_none loan f [] a = refl
strong_none loan f (x ∷ xs) a =
    let none : num (is_kind kind.Strong (loan x).kind && ((loan x).frame == f)) ≡ 0 = ap (λ b. num (b && ((loan x).frame == f))) (a zero x (omega arith)) in
    omega (arith, loan_cons (loan x) (map loan xs) kind.Strong f, none, strong_none loan f xs (λ k d l. a (suc k) d (omega (arith, l))))

weak_kind : (strong : Bool) → strong ≡ false → is_kind kind.Strong (kind.output_kind strong) ≡ false
weak_kind true e = absurd (cc)
weak_kind false e = refl

out_weak : (page f : ℕ) (t : Transfer) (l : Loans) → is_strong_call t ≡ false → LendsOut page t l → loan_times (loans_of l) kind.Strong f ≡ 0
out_weak page f t Nothing weak h = absurd h
out_weak page f t (Outward p) weak h = strong_none output_loan f p.loans.items (λ k d l. weak_kind _ (h.0 k d l ∙ weak))
out_weak page f t (Inward p) weak h = absurd h

in_weak : (f : ℕ) (page : ℕ) (t : Transfer) (l : Loans) → LendsIn page t l → loan_times (loans_of l) kind.Strong f ≡ 0
in_weak f page t Nothing h = absurd h
in_weak f page t (Outward p) h = absurd h
in_weak f page t (Inward p) h = strong_none input_loan f p.loans.items (λ k d l. refl)

weak_call : (page f : ℕ) (owners : List Owner) (early : Bool) (t : Transfer) (d : Direction) → is_strong_call t ≡ false → Lends page owners early t d → loans_on kind.Strong f t ≡ 0
weak_call page f owners early t direction.Outward weak h = out_weak page f t t.loans weak h
weak_call page f owners early t direction.Inward weak h = in_weak f page t t.loans (subst (LendsInput page owners early t) weak h)

held_some : (c : Counts) → 0 < c.weak + c.input → is_held c ≡ true
held_some c l = grind (arith, rules, l)

lent_some : (c : Counts) → 0 < c.strong + c.weak + c.input → is_lent c ≡ true
lent_some c l = grind (arith, rules, l)

-- lists
pub differs : (n : ℕ) (ts : List Transfer) (t : Transfer) → AllPairs (λ (x y : Transfer). x.id.0 < y.id.0) ts → find (has_number n) ts ≡ Some t → (x : Transfer) → Has x (without (has_number n) ts) → x.id.0 ≢ n
differs n [] t order e x h = absurd h
differs n (y ∷ ts) t order e x h = elim (has_number n y) as (λ b. has_number n y ≡ b → cond b (Some y) (find (has_number n) ts) ≡ Some t → Has x (cond b ts (y ∷ without (has_number n) ts)) → x.id.0 ≢ n) [
  | true ↦ λ is f i same.
      let number : y.id.0 ≡ n = grind (arith, rules, is) in
      let less = pairs_head (λ (a b : Transfer). a.id.0 < b.id.0) y ts order x i in
      omega (arith, number, less, same)
  | false ↦ λ is f i. ⊎_elim
      (λ (here : y ≡ x) (same : x.id.0 ≡ n).
      let number : y.id.0 ≡ x.id.0 = ap (λ (u : Transfer). u.id.0) here in
      let passes : has_number n y ≡ true = grind (arith, rules, number, same) in
      let never : false ≡ true = sym is ∙ passes in cc)
      (λ later. differs n ts t (pairs_tail (λ (a b : Transfer). a.id.0 < b.id.0) y ts order) f x later) i
] refl e h

pub has_less : {X : Type 0} (p : X → Bool) (x : X) (xs : List X) → Has x (without p xs) → Has x xs
has_less p x [] h = h
has_less p x (y ∷ ys) h = elim (p y) as (λ b. Has x (cond b ys (y ∷ without p ys)) → Has x (y ∷ ys)) [
  | true ↦ λ i. inr i
  | false ↦ λ i. ⊎_elim (λ (same : y ≡ x). inl same) (λ later. inr (has_less p x ys later)) i
] h

-- an element that passes is among those that do, and each of those is one of all
kept_has : {X : Type 0} (q : X → Bool) (x : X) (xs : List X) → Has x xs → q x ≡ true → Has x (filter q xs)
kept_has q x [] h e = absurd h
kept_has q x (y ∷ ys) h e = elim (q y) as (λ b. q y ≡ b → Has x (cond b (y ∷ filter q ys) (filter q ys))) [
  | true ↦ λ is. ⊎_elim (λ (same : y ≡ x). inl same) (λ later. inr (kept_has q x ys later e)) h
  | false ↦ λ is. ⊎_elim (λ (same : y ≡ x). let never : true ≡ false = sym e ∙ sym (ap q same) ∙ is in absurd (cc)) (λ later. kept_has q x ys later e) h
] refl

kept_was : {X : Type 0} (q : X → Bool) (x : X) (xs : List X) → Has x (filter q xs) → Has x xs
kept_was q x [] h = h
kept_was q x (y ∷ ys) h = elim (q y) as (λ b. Has x (cond b (y ∷ filter q ys) (filter q ys)) → Has x (y ∷ ys)) [
  | true ↦ λ i. ⊎_elim (λ (same : y ≡ x). inl same) (λ later. inr (kept_was q x ys later)) i
  | false ↦ λ i. inr (kept_was q x ys i)
] h

has_mapped : {X Y : Type 0} (f : X → Y) (y : Y) (xs : List X) → Has y (map f xs) → (x : X) × Has x xs × (f x ≡ y)
has_mapped f y [] h = absurd h
has_mapped f y (x ∷ xs) h = ⊎_elim (λ (here : f x ≡ y). (x, inl refl, here)) (λ later. let l = has_mapped f y xs later in (l.0, inr l.1, l.2)) h

mapped_has : {X Y : Type 0} (f : X → Y) (x : X) (xs : List X) → Has x xs → Has (f x) (map f xs)
mapped_has f x [] h = absurd h
mapped_has f x (y ∷ ys) h = ⊎_elim (λ (same : y ≡ x). inl (ap f same)) (λ later. inr (mapped_has f x ys later)) h

sum_zero : {X : Type 0} (f : X → ℕ) (xs : List X) → ((x : X) → Has x xs → f x ≡ 0) → sum_by f xs ≡ 0
sum_zero f [] h = refl
sum_zero f (x ∷ xs) h = omega (arith, sum_by-cons f x xs, h x (inl refl), sum_zero f xs (λ y i. h y (inr i)))

sum_some : {X : Type 0} (f : X → ℕ) (xs : List X) → 0 < sum_by f xs → (x : X) × Has x xs × (0 < f x)
sum_some f [] l = absurd (omega (arith, l))
sum_some f (x ∷ xs) l = ⊎_elim
    (λ (here : 0 < f x). (x, inl refl, here))
    (λ (none : f x ≡ 0). let later = sum_some f xs (omega (arith, sum_by-cons f x xs, l, none)) in (later.0, inr later.1, later.2))
    (some_or (f x))

sum_entries : (f : Option PoolState → ℕ) (xs : List (Option PoolState)) → ((d : ℕ) → f (entry xs d) ≡ 0) → sum_by f xs ≡ 0
sum_entries f [] h = refl
sum_entries f (x ∷ xs) h = omega (arith, sum_by-cons f x xs, h 0, sum_entries f xs (λ d. h (suc d)))

-- owners
owner_left : (o : Owner) (c : Counts) → is_lent c ≡ true → (let_go o c ≡ o) ⊎ (let_go o c ≡ Nobody)
owner_left Free c l = inl refl
owner_left (Page p) c l = inl refl
owner_left (System k) c l = inr (ap (λ b. if b then Nobody else Free) l)
owner_left (Pool d) c l = inr (ap (λ b. if b then Nobody else Free) l)
owner_left Nobody c l = inr (ap (λ b. if b then Nobody else Free) l)

unowned_system : (c : Counts) (k : ℕ) → unowned c ≡ System k → ⊥
unowned_system c k = elim (is_lent c) as (λ b. (if b then Nobody else Free) ≡ System k → ⊥) [ true ↦ λ e. absurd (cc) | false ↦ λ e. absurd (cc) ]

unowned_pool : (c : Counts) (k : ℕ) → unowned c ≡ Pool k → ⊥
unowned_pool c k = elim (is_lent c) as (λ b. (if b then Nobody else Free) ≡ Pool k → ⊥) [ true ↦ λ e. absurd (cc) | false ↦ λ e. absurd (cc) ]

unowned_page : (c : Counts) (k : ℕ) → unowned c ≡ Page k → ⊥
unowned_page c k = elim (is_lent c) as (λ b. (if b then Nobody else Free) ≡ Page k → ⊥) [ true ↦ λ e. absurd (cc) | false ↦ λ e. absurd (cc) ]

gone_system : (o : Owner) (c : Counts) (k : ℕ) → let_go o c ≡ System k → ⊥
gone_system Free c k e = absurd (cc)
gone_system (Page p) c k e = absurd (cc)
gone_system (System j) c k e = unowned_system c k e
gone_system (Pool d) c k e = unowned_system c k e
gone_system Nobody c k e = unowned_system c k e

gone_pool : (o : Owner) (c : Counts) (k : ℕ) → let_go o c ≡ Pool k → ⊥
gone_pool Free c k e = absurd (cc)
gone_pool (Page p) c k e = absurd (cc)
gone_pool (System j) c k e = unowned_pool c k e
gone_pool (Pool d) c k e = unowned_pool c k e
gone_pool Nobody c k e = unowned_pool c k e

gone_page : (o : Owner) (c : Counts) (p : ℕ) → let_go o c ≡ Page p → o ≡ Page p
gone_page Free c k e = absurd (cc)
gone_page (Page p) c k e = e
gone_page (System j) c k e = absurd (unowned_page c k e)
gone_page (Pool d) c k e = absurd (unowned_page c k e)
gone_page Nobody c k e = absurd (unowned_page c k e)

by_system : (o : Owner) → is_system o ≡ true → ((k : ℕ) × (o ≡ System k)) ⊎ ((d : ℕ) × (o ≡ Pool d))
by_system Free e = absurd (cc)
by_system (Page p) e = absurd (cc)
by_system (System k) e = inl (k, refl)
by_system (Pool d) e = inr (d, refl)
by_system Nobody e = absurd (cc)

-- a lent frame that isn't seen by itself has a page that no strong loan is on
unkept_page : (o : Owner) (c : Counts) → Agree o c → is_lent c ≡ true → is_kept o c ≡ false → (p : ℕ) × (o ≡ Page p) × (c.strong ≡ 0)
unkept_page Free c a l e = let no = a.free refl in absurd (cc)
unkept_page (Page p) c a l e = (p, refl, grind (arith, rules, e))
unkept_page (System k) c a l e = absurd (cc)
unkept_page (Pool d) c a l e = absurd (cc)
unkept_page Nobody c a l e = absurd (cc)

weakly_lent : (c : Counts) → is_lent c ≡ true → c.strong ≡ 0 → 0 < c.weak + c.input
weakly_lent c l e = grind (arith, rules, l, e)

held_less_true : (t : Transfer) (f : ℕ) (c : Counts) → 0 < (without_loans t f c).weak + (without_loans t f c).input → is_held c ≡ true
held_less_true t f c l = held_some c (omega (arith, l))

held_parts : (c : Counts) → is_held c ≡ true → 0 < c.weak + c.input
held_parts c e = grind (arith, rules, e)

held_less_false : (t : Transfer) (f : ℕ) (c : Counts) → is_held c ≡ false → is_held (without_loans t f c) ≡ false
held_less_false t f c e = ⊎_elim
    (λ (yes : is_held (without_loans t f c) ≡ true). let was = held_less_true t f c (held_parts (without_loans t f c) yes) in let never : false ≡ true = sym e ∙ was in absurd (cc))
    (λ no. no)
    (cases_Bool (is_held (without_loans t f c)))

page_kept : (o : Owner) (c : Counts) (p : ℕ) → o ≡ Page p → c.strong ≡ 0 → is_kept o c ≡ false
page_kept o c p e z = ap (λ (x : Owner). is_kept x c) e ∙ grind (arith, rules, z)

unlent_zero : (w : ℕ) → is_lent (record { strong = 0; weak = 0; input = 0; wires = w }) ≡ false
unlent_zero w = refl

pub in_frames : (fs : List ℕ) (j d : ℕ) → j < length fs → list_any (λ g. g == get_or fs j d) fs ≡ true
in_frames fs j d l = has_any (λ g. g == get_or fs j d) (get_or fs j d) fs (has_at fs j d l) (grind (arith, rules))

-- a device holds each frame of a weak call
pub held_by_weak : (page : ℕ) (owners : List Owner) (counts : List Counts) (devices : List (Option DeviceView)) (us : List Transfer) (pools : List (Option PoolState)) → AreCounted counts us pools → ArePlanned page owners devices us → (u : Transfer) (f : ℕ) → Has u us → is_strong_call u ≡ false → has_frame f u ≡ true → is_held (get_or counts f no_counts) ≡ true
held_by_weak page owners counts devices us pools counted planned u f there weak on =
    let some = on_frame u f on in
    let plan : Lends page owners (is_early_device (entry devices u.dev)) u u.dir = all_has (λ (x : Transfer). Lends page owners (is_early_device (entry devices x.dev)) x x.dir) us planned u there in
    let none = weak_call page f owners (is_early_device (entry devices u.dev)) u u.dir weak plan in
    held_some (get_or counts f no_counts) (subst (λ (c : Counts). 0 < c.weak + c.input) (sym (counted f)) (omega (arith, some, none, kinds_sum (loans_of u.loans) f, at_least (loans_on kind.Weak f) us u there, at_least (loans_on kind.Input f) us u there)))

module _ (page : ℕ) (m : Memory) (devices : List (Option DeviceView)) (n : ℕ) (t : Transfer) (ts : List Transfer) (pools : List (Option PoolState)) (new : FrameTable) (lends : LendsSoundly page m devices n ts pools) (found : find (has_number n) ts ≡ Some t) (shaped : IsShaped new.page new.owners new.counts new.bytes) (agree : AreLoansOwned new.owners new.counts) (back : IsGivenBack t m.frames new) where
  abbrev us : List Transfer
  us = without (has_number n) ts

  abbrev mid : Memory
  mid = record m { frames = back.unwired }

  abbrev after : Memory
  after = record m { frames = new }

  unwired_all : KeepsAll m mid
  unwired_all = unwires_keep_all m back.unwired (wired_frames t) lends.sound back.wires

  wires_match : (f : ℕ) → times (wired_frames t) f ≡ wires_on f t
  wires_match f = elim (is_wiring t) as (λ b. times (if b then frames_of t.loans else []) f ≡ (if b then times (frames_of t.loans) f else 0)) [ true ↦ refl | false ↦ refl ]

  counts : GivesBack t m.frames.counts new.counts
  counts f = back.loans.counts f ∙ ap (kind.less (loans_of t.loans) f) (back.wires.counts f) ∙ (λ i. record (kind.less (loans_of t.loans) f (counts_at m.frames f)) { wires = (counts_at m.frames f).wires - wires_match f i })

  counted : AreCounted new.counts us pools
  counted = counts_shrink (has_number n) t ts pools m.frames.counts new.counts found counts lends.counted

  here : Has t ts
  here = (find_has (has_number n) ts t found).0

  numbered : t.id.0 ≡ n
  numbered = let is = (find_has (has_number n) ts t found).1 in grind (arith, rules, is)

  -- a transfer with a loan on the frame of a system buffer is its own one
  one_holder : (u : Transfer) (f k : ℕ) → Has u ts → has_frame f u ≡ true → owner_at m.frames f ≡ System k → u.id.0 ≡ k
  one_holder u f k there on is =
      let among : Has u.id.0 (holders ts f) = mapped_has number_of u (filter (has_frame f) ts) (kept_has (has_frame f) u ts there on) in
      ⊎_elim (λ (same : k ≡ u.id.0). sym same) (λ never. absurd never) (subst (Has u.id.0) (lends.owners.system f k is) among)

  no_pool : (f d : ℕ) → has_frame f t ≡ true → owner_at m.frames f ≡ Pool d → ⊥
  no_pool f d on is = subst (Has t.id.0) (lends.owners.spare f d is) (mapped_has number_of t (filter (has_frame f) ts) (kept_has (has_frame f) t ts here on))

  -- whose the frame is afterwards
  owner_after : (f : ℕ) → ((has_frame f t ≡ true) × (owner_at new f ≡ let_go (owner_at m.frames f) (counts_at new f))) ⊎ ((has_frame f t ≡ false) × (owner_at new f ≡ owner_at m.frames f))
  owner_after f =
      let same : owner_at back.unwired f ≡ owner_at m.frames f = ap (λ (l : List Owner). get_or l f Free) back.wires.only.owners in
      ⊎_elim
      (λ (on : 0 < loan_count t f). inl (counted_frame t f on, back.loans.owners f on ∙ ap (λ (o : Owner). let_go o (counts_at new f)) same))
      (λ (off : loan_count t f ≡ 0). inr (uncounted_frame t f off, back.loans.others f off ∙ same))
      (some_or (loan_count t f))

  not_own : (f : ℕ) → has_frame f t ≡ false → owner_at m.frames f ≡ System n → ⊥
  not_own f off is =
      let same : filter (has_frame f) us ≡ filter (has_frame f) ts = filter_beside (has_number n) t (has_frame f) ts found off in
      let among : Has n (map number_of (filter (has_frame f) us)) = subst (Has n) (sym (ap (map number_of) same ∙ lends.owners.system f n is)) (inl refl) in
      let one = has_mapped number_of n (filter (has_frame f) us) among in
      differs n ts t lends.rise found one.0 (kept_was (has_frame f) one.0 us one.1) one.2

  lets_go : LetsGo n m.frames.owners new.owners
  lets_go = record {
    system = λ f k is. ⊎_elim
        (λ (on : (has_frame f t ≡ true) × (owner_at new f ≡ let_go (owner_at m.frames f) (counts_at new f))). absurd (gone_system (owner_at m.frames f) (counts_at new f) k (sym on.1 ∙ is)))
        (λ (off : (has_frame f t ≡ false) × (owner_at new f ≡ owner_at m.frames f)). let was : owner_at m.frames f ≡ System k = sym off.1 ∙ is in (was, λ same. not_own f off.0 (was ∙ ap (λ j. System j) same)))
        (owner_after f);
    pool = λ f d is. ⊎_elim
        (λ (on : (has_frame f t ≡ true) × (owner_at new f ≡ let_go (owner_at m.frames f) (counts_at new f))). absurd (gone_pool (owner_at m.frames f) (counts_at new f) d (sym on.1 ∙ is)))
        (λ (off : (has_frame f t ≡ false) × (owner_at new f ≡ owner_at m.frames f)). sym off.1 ∙ is)
        (owner_after f);
    pool_kept = pool_stays;
  } where
    pool_stays : (f d : ℕ) → owner_at m.frames f ≡ Pool d → owner_at new f ≡ Pool d
    pool_stays f d is = ⊎_elim
        (λ (on : (has_frame f t ≡ true) × (owner_at new f ≡ let_go (owner_at m.frames f) (counts_at new f))). absurd (no_pool f d on.0 is))
        (λ (off : (has_frame f t ≡ false) × (owner_at new f ≡ owner_at m.frames f)). off.1 ∙ is)
        (owner_after f)

  own_stay : OwnFramesStay m.frames.owners new.owners us
  own_stay i d l f is =
      let u : Transfer = get_or us i d in
      let there = has_at us i d l in
      ⊎_elim
      (λ (on : (has_frame f t ≡ true) × (owner_at new f ≡ let_go (owner_at m.frames f) (counts_at new f))). absurd (differs n ts t lends.rise found u there (sym (one_holder t f u.id.0 here on.0 is) ∙ numbered)))
      (λ (off : (has_frame f t ≡ false) × (owner_at new f ≡ owner_at m.frames f)). off.1 ∙ is)
      (owner_after f)

  loans_end : LoansEnd m after
  loans_end = record {
    entries = λ o i f e. e;
    nobody = λ f held is. ⊎_elim
        (λ (on : (has_frame f t ≡ true) × (owner_at new f ≡ let_go (owner_at m.frames f) (counts_at new f))). on.1 ∙ ap (λ (o : Owner). let_go o (counts_at new f)) is ∙ ap (λ b. if b then Nobody else Free) (lent_true (counts_at new f) held))
        (λ (off : (has_frame f t ≡ false) × (owner_at new f ≡ owner_at m.frames f)). off.1 ∙ is)
        (owner_after f);
  }

  hidden : (objects : List ℕ) → FitsHidden m objects → FitsHidden after objects
  hidden objects h = record {
    cached = λ k l. let c = h.cached k l in record { there = c.there; own = c.own; frame = c.frame; in_frame = c.in_frame; unheld = λ i p e. subst (λ (x : Counts). is_held x ≡ false) (sym (counts (c.frame i p e).0)) (held_less_false t (c.frame i p e).0 (counts_at m.frames (c.frame i p e).0) (c.unheld i p e)) };
    apart = h.apart;
  }

  -- a frame of another transfer is still lent, and held where that one is weak
  total : (u : Transfer) (f : ℕ) → Has u us → has_frame f u ≡ true → 0 < (counts_at new f).strong + (counts_at new f).weak + (counts_at new f).input
  total u f there on =
      let some = on_frame u f on in
      subst (λ (c : Counts). 0 < c.strong + c.weak + c.input) (sym (counted f)) (omega (arith, some, kinds_sum (loans_of u.loans) f, at_least (loans_on kind.Strong f) us u there, at_least (loans_on kind.Weak f) us u there, at_least (loans_on kind.Input f) us u there))

  still_lent : (u : Transfer) (f : ℕ) → Has u us → has_frame f u ≡ true → is_lent (counts_at new f) ≡ true
  still_lent u f there on = lent_some (counts_at new f) (total u f there on)

  still_held : (u : Transfer) (f : ℕ) → Has u us → has_frame f u ≡ true → is_strong_call u ≡ false → is_held (counts_at new f) ≡ true
  still_held u f there on weak = held_by_weak page m.frames.owners new.counts devices us pools counted lends.others u f there weak on

  -- what is wired is held by a weak call
  wired_by : (u : Transfer) (f : ℕ) → 0 < wires_on f u → (is_strong_call u ≡ false) × (has_frame f u ≡ true)
  wired_by u f l = ⊎_elim
      (λ (yes : is_wiring u ≡ true).
      let some : 0 < times (frames_of u.loans) f = subst (λ b. 0 < (if b then times (frames_of u.loans) f else 0)) yes l in
      (grind (arith, rules, yes), counted_frame u f (omega (arith, some, times_of u.loans f))))
      (λ (no : is_wiring u ≡ false). let none : 0 < 0 = subst (λ b. 0 < (if b then times (frames_of u.loans) f else 0)) no l in absurd (omega (arith, none)))
      (cases_Bool (is_wiring u))

  wired_held : (f : ℕ) → 0 < (counts_at new f).wires → is_held (counts_at new f) ≡ true
  wired_held f l =
      let some : 0 < sum_by (wires_on f) us = subst (λ (c : Counts). 0 < c.wires) (counted f) l in
      let one = sum_some (wires_on f) us some in
      let by = wired_by one.0 f one.2 in
      still_held one.0 f one.1 by.1 by.0

  -- a frame of its own carries nothing else
  own_unlent : (f : ℕ) → 0 < loan_count t f → is_system (owner_at m.frames f) ≡ true → is_lent (counts_at new f) ≡ false
  own_unlent f on system =
      let ours = counted_frame t f on in
      ⊎_elim
      (λ (o : (k : ℕ) × (owner_at m.frames f ≡ System k)).
      let is : n ≡ o.0 = sym numbered ∙ one_holder t f o.0 here ours o.1 in
      let off : (u : Transfer) → Has u us → loan_count u f ≡ 0 = λ u there. off_frame u f (⊎_elim
      (λ (yes : has_frame f u ≡ true). absurd (differs n ts t lends.rise found u there (one_holder u f o.0 (has_less (has_number n) u ts there) yes o.1 ∙ sym is)))
      (λ no. no)
      (cases_Bool (has_frame f u))) in
      let strong : sum_by (loans_on kind.Strong f) us ≡ 0 = sum_zero (loans_on kind.Strong f) us (λ u there. omega (arith, off u there, kinds_sum (loans_of u.loans) f)) in
      let weak : sum_by (loans_on kind.Weak f) us ≡ 0 = sum_zero (loans_on kind.Weak f) us (λ u there. omega (arith, off u there, kinds_sum (loans_of u.loans) f)) in
      let inputs : sum_by (loans_on kind.Input f) us ≡ 0 = sum_zero (loans_on kind.Input f) us (λ u there. omega (arith, off u there, kinds_sum (loans_of u.loans) f)) in
      let pooled : sum_by (pool_on f) pools ≡ 0 = sum_entries (pool_on f) pools (λ d. ⊎_elim
      (λ (yes : 0 < pool_on f (entry pools d)). let clash : Pool d ≡ System o.0 = sym (lends.owners.pool_frames f d yes) ∙ o.1 in absurd (cc))
      (λ no. no)
      (some_or (pool_on f (entry pools d)))) in
      let input : sum_by (loans_on kind.Input f) us + sum_by (pool_on f) pools ≡ 0 = omega (arith, inputs, pooled) in
      ap is_lent (counted f ∙ (λ i. record { strong = strong i; weak = weak i; input = input i; wires = sum_by (wires_on f) us })))
      (λ (o : (d : ℕ) × (owner_at m.frames f ≡ Pool d)). absurd (no_pool f o.0 ours o.1))
      (by_system (owner_at m.frames f) system)

  can_end : CanEnd (loans_of t.loans) back.unwired new
  can_end = record {
    wired = wired_held;
    buffers = λ f on system. own_unlent f on (ap (λ (l : List Owner). is_system (get_or l f Free)) (sym back.wires.only.owners) ∙ system);
  }

  shows : ShowsStill mid after
  shows = shows_after mid new (loans_of t.loans) back.loans

  keeps_owner : (f : ℕ) → is_lent (counts_at new f) ≡ true → KeepsOwner (owner_at m.frames f) (owner_at new f)
  keeps_owner f lent = record {
    owner = ⊎_elim
        (λ (on : (has_frame f t ≡ true) × (owner_at new f ≡ let_go (owner_at m.frames f) (counts_at new f))). ⊎_elim (λ same. inl (on.1 ∙ same)) (λ nobody. inr (on.1 ∙ nobody)) (owner_left (owner_at m.frames f) (counts_at new f) lent))
        (λ (off : (has_frame f t ≡ false) × (owner_at new f ≡ owner_at m.frames f)). inl off.1)
        (owner_after f);
    unfreed = λ free. let no : is_lent (counts_at new f) ≡ false = (agree f).free free in let never : true ≡ false = sym lent ∙ no in absurd (cc);
  }

  page_was : (f p : ℕ) → owner_at new f ≡ Page p → owner_at m.frames f ≡ Page p
  page_was f p is = ⊎_elim
      (λ (on : (has_frame f t ≡ true) × (owner_at new f ≡ let_go (owner_at m.frames f) (counts_at new f))). gone_page (owner_at m.frames f) (counts_at new f) p (sym on.1 ∙ is))
      (λ (off : (has_frame f t ≡ false) × (owner_at new f ≡ owner_at m.frames f)). sym off.1 ∙ is)
      (owner_after f)

  -- a frame that is still lent shows what it showed
  lent_shows : (slots : ℕ → List ℕ) (f : ℕ) → is_lent (counts_at new f) ≡ true → (seen after slots).kept_bytes f ≡ (seen m slots).kept_bytes f
  lent_shows slots f lent = ⊎_elim
      (λ (kept : is_kept (owner_at new f) (counts_at new f) ≡ true). shows.still slots f kept ∙ ap (λ s. s.kept_bytes f) (unwired_all.is_seen slots))
      (λ (unkept : is_kept (owner_at new f) (counts_at new f) ≡ false).
      let page_is = unkept_page (owner_at new f) (counts_at new f) (agree f) lent unkept in
      let was = page_was f page_is.0 page_is.1 in
      let weak : 0 < (without_loans t f (counts_at m.frames f)).weak + (without_loans t f (counts_at m.frames f)).input = subst (λ (c : Counts). 0 < c.weak + c.input) (counts f) (weakly_lent (counts_at new f) lent page_is.2) in
      let held = held_less_true t f (counts_at m.frames f) weak in
      let unlent : (counts_at m.frames f).strong ≡ 0 = lends.sound.held.unlent f (ap is_system was) held in
      let none : is_kept (owner_at m.frames f) (counts_at m.frames f) ≡ false = page_kept (owner_at m.frames f) (counts_at m.frames f) page_is.0 was unlent in
      shows.gone slots f unkept ∙ sym (ap (λ b. if b then get_or m.frames.bytes f [] else []) none))
      (cases_Bool (is_kept (owner_at new f) (counts_at new f)))

  pool_after : (d f : ℕ) → 0 < pool_on f (entry pools d) → owner_at new f ≡ Pool d
  pool_after d f on = lets_go.pool_kept f d (lends.owners.pool_frames f d on)

  pool_shows : (slots : ℕ → List ℕ) (d f : ℕ) → 0 < pool_on f (entry pools d) → (seen after slots).kept_bytes f ≡ (seen m slots).kept_bytes f
  pool_shows slots d f on = shows.still slots f (ap (λ (o : Owner). is_kept o (counts_at new f)) (pool_after d f on)) ∙ ap (λ s. s.kept_bytes f) (unwired_all.is_seen slots)

  pool_frame : (d : ℕ) (o : Option PoolState) → entry pools d ≡ o → (slots : ℕ → List ℕ) → IfSome o (λ (p : PoolState). ShowSame (seen m slots).kept_bytes (seen after slots).kept_bytes (input_frames p.loans))
  pool_frame d None e slots = tt
  pool_frame d (Some p) e slots = λ j x l. pool_shows slots d (get_or (input_frames p.loans) j x) (subst (λ (o : Option PoolState). 0 < pool_on (get_or (input_frames p.loans) j x) o) (sym e) (some_times (get_or (input_frames p.loans) j x) (input_frames p.loans) (in_frames (input_frames p.loans) j x l)))

  pub leaves_others : LeavesOthers n t ts pools m after
  leaves_others = record {
    sound = ends_soundly mid new (loans_of t.loans) unwired_all.sound shaped agree back.loans can_end;
    counts = counts;
    owners = lets_go;
    own = own_stay;
    pages = loans_end;
    hidden = hidden;
    lent = λ i d l f on. keeps_owner f (still_lent (get_or us i d) f (has_at us i d l) on);
    pooled = λ d f on. record { owner = inl (pool_after d f on ∙ sym (lends.owners.pool_frames f d on)); unfreed = λ free. let clash : Pool d ≡ Free = sym (pool_after d f on) ∙ free in cc };
    entries = λ slots. shows.entries slots ∙ ap (λ s. s.entry_bytes) (unwired_all.is_seen slots);
    frames = λ slots. record {
      lent = λ i d l j x lj. let u : Transfer = get_or us i d in lent_shows slots (get_or (frames_of u.loans) j x) (still_lent u (get_or (frames_of u.loans) j x) (has_at us i d l) (in_frames (frames_of u.loans) j x lj));
      pooled = λ d. pool_frame d (entry pools d) refl slots;
    };
  }
