-- An entry that was replaced, and how often a page is named then.
use Rattle.std.proofs.Common.{◌≡◌, ◌≢◌, ℕ, ◌<◌, ◌≤◌, ◌+◌, suc, zero, Bool, true, false, List, [], ◌∷◌, refl, arith, ap, rules, length, set, get_or, sym, ◌∙◌, inl, inr, get_or-set_other, get_or-set_same, length-set}
use Rattle.std.specs.Prelude.{◌⊎◌, count_by, sum_by}
use Rattle.std.proofs.lemmas.List.Sums.{sum_by-cons}
use Rattle.std.proofs.lemmas.Bool.{cases_lt}
use Rattle.genie_base.specs.Lemmas.Places.{past_end, num, count_by-set, sum_by-set, same_or}
use Rattle.genie_object.specs.declared.objects.Entry.{Entry}
use Rattle.genie_object.specs.declared.memory.Memory.{Memory}
use Rattle.genie_object.specs.Pages.{page_at}
use Rattle.genie_object.specs.Objects.{entry_at, object_at, set_entry, names, no_entry}
use Rattle.genie_object.specs.Sound.{IsShared, times_named}
use Rattle.genie_object.specs.Touching.{is_entry}
use Rattle.genie_object.specs.Lemmas.Lookup.{count_some, in_range}

pub entry_in : (objects : List (List Entry)) (o i : ℕ) → i < length (object_at objects o) → o < length objects
entry_in objects o i h = elim (cases_lt o (length objects)) [ inl l ↦ l | inr l ↦ absurd (omega (arith, h, ap length (past_end objects o [] l))) ]

sum_above : {X : Type 0} (g : X → ℕ) (d : X) (xs : List X) (i : ℕ) → i < length xs → g (get_or xs i d) ≤ sum_by g xs
sum_above g d [] i l = absurd (omega arith)
sum_above g d (x ∷ xs) zero l = omega (arith, sum_by-cons g x xs)
sum_above g d (x ∷ xs) (suc n) l = let l' : n < length xs = omega arith in omega (arith, sum_by-cons g x xs, sum_above g d xs n l')

-- an entry that names a page is there
pub naming_there : (objects : List (List Entry)) (p a b : ℕ) → names p (entry_at objects a b) ≡ true → b < length (object_at objects a)
naming_there objects p a b e = in_range (object_at objects a) b no_entry (λ n. let bad : false ≡ true = sym (ap (names p) n) ∙ e in cc)

pub times_some : (objects : List (List Entry)) (p a b : ℕ) → names p (entry_at objects a b) ≡ true → 0 < times_named objects p
times_some objects p a b e =
    let l = naming_there objects p a b e in
    omega (arith, count_some (names p) no_entry (object_at objects a) b l e, sum_above (count_by (names p)) [] objects a (entry_in objects a b l))

not_true : (b : Bool) → (b ≡ true → true ≡ false) → b ≡ false
not_true true h = h refl
not_true false h = refl

-- a page that nobody shares is named by no entry
pub unnamed : (m : Memory) (p a b : ℕ) → IsShared m.pages.pages m.objects → (page_at m.pages.pages p).shares ≡ 0 → names p (entry_at m.objects a b) ≡ false
unnamed m p a b s e = not_true _ (λ n. absurd (omega (arith, times_some m.objects p a b n, s.counted p, e)))

module _ (objects : List (List Entry)) (o i : ℕ) (e : Entry) (there : i < length (object_at objects o)) where
  object_there : o < length objects
  object_there = entry_in objects o i there

  pub entry_same : entry_at (set_entry objects o i e) o i ≡ e
  entry_same = ap (λ es. get_or es i no_entry) (get_or-set_same objects o _ [] object_there) ∙ get_or-set_same (object_at objects o) i e no_entry there

  row_other : (a b : ℕ) → a ≢ o → entry_at (set_entry objects o i e) a b ≡ entry_at objects a b
  row_other a b n = ap (λ es. get_or es b no_entry) (get_or-set_other objects o a _ [] n)

  place_other : (b : ℕ) → b ≢ i → entry_at (set_entry objects o i e) o b ≡ entry_at objects o b
  place_other b n = ap (λ es. get_or es b no_entry) (get_or-set_same objects o _ [] object_there) ∙ get_or-set_other (object_at objects o) i b e no_entry n

  -- what an entry is now: the new one at its place, and each other as before
  pub entry_or : (a b : ℕ) → ((a ≡ o) × (b ≡ i)) ⊎ ((is_entry o i a b ≡ false) × (entry_at (set_entry objects o i e) a b ≡ entry_at objects a b))
  entry_or a b = elim (same_or a o) [
    | inr n ↦ inr (grind (arith, rules, n), row_other a b n)
    | inl s ↦ elim (same_or b i) [
      | inl t ↦ inl (s, t)
      | inr n ↦ inr (grind (arith, rules, n), ap (λ k. entry_at (set_entry objects o i e) k b) s ∙ place_other b n ∙ ap (λ k. entry_at objects k b) (sym s))
    ]
  ]

  -- how often a page is named now
  pub times_set : (r : ℕ) → times_named (set_entry objects o i e) r + num (names r (entry_at objects o i)) ≡ times_named objects r + num (names r e)
  times_set r =
      let outer = sum_by-set (count_by (names r)) objects o (set (object_at objects o) i e) [] object_there in
      let inner = count_by-set (names r) (object_at objects o) i e no_entry there in
      omega (arith, outer, inner)

  pub entries_size : (a : ℕ) → length (object_at (set_entry objects o i e) a) ≡ length (object_at objects a)
  entries_size a = elim (same_or a o) [
    | inl s ↦ ap (λ k. length (object_at (set_entry objects o i e) k)) s ∙ ap length (get_or-set_same objects o _ [] object_there) ∙ length-set (object_at objects o) i e ∙ ap (λ k. length (object_at objects k)) (sym s)
    | inr n ↦ ap length (get_or-set_other objects o a _ [] n)
  ]
