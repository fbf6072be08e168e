-- Which entries name a page.
use Rattle.std.proofs.Common.{◌≡◌, ◌≢◌, ℕ, ◌+◌, ◌<◌, ◌≤◌, suc, zero, true, false, List, [], ◌∷◌, refl, arith, ap, length, get_or, set, sym, ◌∙◌, inl, inr, ◌⊎◌, rules}
use Rattle.std.specs.Prelude.{count_by, sum_by, Some, None, ◌==◌}
use Rattle.std.proofs.lemmas.List.Sums.{sum_by-cons}
use Rattle.std.proofs.lemmas.List.{get_or-set_same, get_or-set_other}
use Rattle.std.proofs.lemmas.Bool.{cases_lt}
use Rattle.genie_base.specs.Lemmas.Places.{same_or, set_at, num, count_by-set, sum_by-set, past_end}
use Rattle.genie_object.specs.declared.objects.Entry.{Entry}
use Rattle.genie_object.specs.declared.pages.PageId.{PageId}
use Rattle.genie_object.specs.declared.pages.PageInfo.{PageInfo}
use Rattle.genie_object.specs.Pages.{page_at}
use Rattle.genie_object.specs.Objects.{entry_at, object_at, names, no_entry, set_entry}
use Rattle.genie_object.specs.Sound.{times_named, IsShared}
use Rattle.genie_object.specs.Lemmas.Showing.{named_within}
use Rattle.genie_object.specs.Lemmas.Named.{counted_once}

pub object_in : (objects : List (List Entry)) (o i : ℕ) → i < length (object_at objects o) → o < length objects
object_in objects o i h = elim (cases_lt o (length objects)) [ inl l ↦ l | inr l ↦ absurd (omega (arith, h, ap length (past_end objects o [] l))) ]

-- how many entries name a page, once an entry was replaced
pub named_set : (objects : List (List Entry)) (o i q : ℕ) (e : Entry) → i < length (object_at objects o) → times_named (set_entry objects o i e) q + num (names q (entry_at objects o i)) ≡ times_named objects q + num (names q e)
named_set objects o i q e l =
    let inside = object_in objects o i l in
    omega (arith, sum_by-set (count_by (names q)) objects o (set (object_at objects o) i e) [] inside, count_by-set (names q) (object_at objects o) i e no_entry l)

-- an entry at the place of another, or elsewhere
pub same_entry : (a b o i : ℕ) → ((a ≡ o) × (b ≡ i)) ⊎ ((a ≡ o) × (b ≡ i) → ⊥)
same_entry a b o i = elim (same_or a o) [
  | inl e ↦ elim (same_or b i) [ inl d ↦ inl (e, d) | inr n ↦ inr (λ s. n s.1) ]
  | inr n ↦ inr (λ s. n s.0)
]

pub entry_here : (objects : List (List Entry)) (o i : ℕ) (e : Entry) → i < length (object_at objects o) → entry_at (set_entry objects o i e) o i ≡ e
entry_here objects o i e l = ap (λ es. get_or es i no_entry) (get_or-set_same objects o (set (object_at objects o) i e) [] (object_in objects o i l)) ∙ get_or-set_same (object_at objects o) i e no_entry l

pub entry_else : (objects : List (List Entry)) (o i a b : ℕ) (e : Entry) → i < length (object_at objects o) → ((a ≡ o) × (b ≡ i) → ⊥) → entry_at (set_entry objects o i e) a b ≡ entry_at objects a b
entry_else objects o i a b e l n = elim (set_at objects o a (set (object_at objects o) i e) [] (object_in objects o i l)) [
  | inl v ↦ ap (λ es. get_or es b no_entry) v.1 ∙ get_or-set_other (object_at objects o) i b e no_entry (λ d. n (v.0, d)) ∙ ap (λ c. entry_at objects c b) (sym v.0)
  | inr v ↦ ap (λ es. get_or es b no_entry) v.1
]

pub names_own : (q : PageId) (e : Entry) → e.page ≡ Some q → names q.0 e ≡ true
names_own q e h = let t : (q.0 == q.0) ≡ true = grind (arith, rules) in rw h t

pub names_other : (q : PageId) (e : Entry) (n : ℕ) → e.page ≡ Some q → q.0 ≢ n → names n e ≡ false
names_other q e n h d = let t : (q.0 == n) ≡ false = grind (arith, rules) in rw h t

pub names_none : (e : Entry) (n : ℕ) → e.page ≡ None → names n e ≡ false
names_none e n h = rw h refl

sum_above : {X : Type 0} (g : X → ℕ) (d : X) (xs : List X) (i : ℕ) → i < length xs → g (get_or xs i d) ≤ sum_by g xs
sum_above g d [] i l = absurd (omega arith)
sum_above g d (x ∷ xs) zero l = omega (arith, sum_by-cons g x xs)
sum_above g d (x ∷ xs) (suc n) l = let l' : n < length xs = omega arith in omega (arith, sum_by-cons g x xs, sum_above g d xs n l')

-- a page that an entry names is shared
pub named_shared : (pages : List PageInfo) (objects : List (List Entry)) (a b : ℕ) (q : PageId) → IsShared pages objects → (entry_at objects a b).page ≡ Some q → 0 < (page_at pages q.0).shares
named_shared pages objects a b q s e =
    let w = named_within objects a b q e in
    let one = ap num (names_own q (entry_at objects a b) e) in
    omega (arith, s.counted q.0, sum_above (count_by (names q.0)) [] objects a w.0, sum_above (λ x. num (names q.0 x)) no_entry (object_at objects a) b w.1, one)

-- two entries that name a page of one holder are one
pub named_once : (pages : List PageInfo) (objects : List (List Entry)) (a b o i : ℕ) (p : PageId) → IsShared pages objects → (page_at pages p.0).shares ≡ 1 → (entry_at objects a b).page ≡ Some p → (entry_at objects o i).page ≡ Some p → (a ≡ o) × (b ≡ i)
named_once pages objects a b o i p s alone e d =
    let there = named_within objects a b p e in
    let here = named_within objects o i p d in
    counted_once (names p.0) no_entry objects a b o i there.0 there.1 here.0 here.1 (names_own p (entry_at objects a b) e) (names_own p (entry_at objects o i) d) (sym (s.counted p.0) ∙ alone)
