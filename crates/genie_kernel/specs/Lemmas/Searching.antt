-- The first element that passes a test.
use Rattle.std.proofs.Common.{◌≡◌, ℕ, ◌<◌, ◌≤◌, ◌+◌, zero, suc, Bool, true, false, List, [], ◌∷◌, refl, sym, ap, subst, arith, ◌∙◌, ⊎_elim, map, set, length, get_or}
use Rattle.std.specs.Prelude.{Some, None, find, slice_get, if◌then◌else◌}
use Rattle.std.specs.List.{list_any, remove}
use Rattle.std.proofs.lemmas.Bool.{cases_lt}
use Rattle.genie_base.specs.Lemmas.Searches.{find_first}
use Rattle.genie_model.specs.Tables.{without, change}
use Rattle.genie_model.specs.Lemmas.Lists.{Has, has_at, has_any}
use Rattle.genie_kernel.specs.Searches.{IsFirst}
use Rattle.genie_kernel.specs.Lemmas.Beside.{removed_at}

-- it is found
pub first_found : {X : Type 0} (p : X → Bool) (xs : List X) (i : ℕ) (d : X) → IsFirst p xs i → find p xs ≡ Some (get_or xs i d)
first_found p xs i d f = find_first p d xs i f.there (f.passing d) (λ j l. f.before j d l)

pub first_any : {X : Type 0} (p : X → Bool) (xs : List X) (i : ℕ) (d : X) → IsFirst p xs i → list_any p xs ≡ true
first_any p xs i d f = has_any p (get_or xs i d) xs (has_at xs i d f.there) (f.passing d)

-- and the list without it is that without the first that passes
pub first_removed : {X : Type 0} (p : X → Bool) (xs : List X) (i : ℕ) (d : X) → IsFirst p xs i → remove xs i ≡ without p xs
first_removed p xs i d f = removed_at p d xs i f.there (f.passing d) (λ j l. f.before j d l)

-- where none of all places passes, none does
pub none_passes : {X : Type 0} (p : X → Bool) (xs : List X) (n : ℕ) → length xs ≤ n → ((j : ℕ) (d : X) → j < n → p (get_or xs j d) ≡ false) → list_any p xs ≡ false
none_passes p [] n l h = refl
none_passes p (x ∷ xs) zero l h = absurd (omega arith)
none_passes p (x ∷ xs) (suc n) l h = rw (h 0 x (omega arith)) (none_passes p xs n (omega arith) (λ j d m. h (suc j) d (omega arith)))

pub map_removed : {X Y : Type 0} (f : X → Y) (xs : List X) (i : ℕ) → i < length xs → map f (remove xs i) ≡ remove (map f xs) i
map_removed f [] i l = absurd (omega arith)
map_removed f (x ∷ xs) zero l = refl
map_removed f (x ∷ xs) (suc i) l = ap (λ ys. f x ∷ ys) (map_removed f xs i (omega arith))

-- an element that is got
pub got_at : {X : Type 0} (xs : List X) (i : ℕ) (x : X) → slice_get xs i ≡ Some x → (i < length xs) × ((d : X) → get_or xs i d ≡ x)
got_at [] i x e = absurd (cc)
got_at (y ∷ xs) zero x e = (omega arith, λ d. let h : Some y ≡ Some x = e in cc)
got_at (y ∷ xs) (suc i) x e = let later = got_at xs i x e in (omega (arith, later.0), later.1)

pub got_none : {X : Type 0} (xs : List X) (i : ℕ) → slice_get xs i ≡ None → length xs ≤ i
got_none [] i e = omega arith
got_none (y ∷ xs) zero e = let h : Some y ≡ None = e in cc
got_none (y ∷ xs) (suc i) e = let later = got_none xs i e in omega (arith, later)

pub got_any : {X : Type 0} (p : X → Bool) (xs : List X) (i : ℕ) (x : X) → slice_get xs i ≡ Some x → p x ≡ true → list_any p xs ≡ true
got_any p xs i x e h = let at = got_at xs i x e in has_any p x xs (subst (λ y. Has y xs) (at.1 x) (has_at xs i x at.0)) h

pub none_more : {X : Type 0} (p : X → Bool) (xs : List X) (i : ℕ) (x : X) → ((j : ℕ) (d : X) → j < i → p (get_or xs j d) ≡ false) → slice_get xs i ≡ Some x → p x ≡ false → (j : ℕ) (d : X) → j < i + 1 → p (get_or xs j d) ≡ false
none_more p xs i x before e h j d l = ⊎_elim
    (λ (low : j < i). before j d low)
    (λ high. let is : j ≡ i = omega (arith, l, high) in ap (λ n. p (get_or xs n d)) is ∙ ap p ((got_at xs i x e).1 d) ∙ h)
    (cases_lt j i)

-- the list with the first one changed
pub first_changed : {X : Type 0} (p : X → Bool) (f : X → X) (xs : List X) (i : ℕ) (d : X) → IsFirst p xs i → set xs i (f (get_or xs i d)) ≡ change p f xs
first_changed p f [] i d h = let l = h.there in absurd (omega (arith, l))
first_changed p f (x ∷ xs) zero d h = sym (ap (λ b. if b then f x ∷ xs else x ∷ change p f xs) (h.passing d))
first_changed p f (x ∷ xs) (suc i) d h =
    let l = h.there in
    let later = first_changed p f xs i d (record { there = omega (arith, l); passing = h.passing; before = λ j e m. h.before (suc j) e (omega arith) }) in
    ap (λ ys. x ∷ ys) later ∙ sym (ap (λ b. if b then f x ∷ xs else x ∷ change p f xs) (h.before 0 d (omega arith)))
