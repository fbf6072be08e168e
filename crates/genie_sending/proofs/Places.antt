-- One place of a table of devices, changed.
use Rattle.std.proofs.Common.{get_or, ◌≡◌, ℕ, ◌<◌, length, map, zero, suc, false, true, List, [], ◌∷◌, refl, sym, ap, subst, arith, ◌∙◌, set}
use Rattle.std.specs.Prelude.{is_some, find, Bool, Option, Some, ◌≢◌, if◌then◌else◌}
use Rattle.std.specs.Option.{option_map}
use Rattle.genie_model.specs.Tables.{entry, change}

-- what is asked of each entry, and of the changed one as before
pub same_at : {X Z : Type 0} (f : Option X → Z) (vs : List (Option X)) (d j : ℕ) (v w : X) → entry vs d ≡ Some v → f (Some w) ≡ f (Some v) → f (entry (set vs d (Some w)) j) ≡ f (entry vs j)
same_at f [] d j v w e h = refl
same_at f (x ∷ vs) zero zero v w e h = h ∙ sym (ap f e)
same_at f (x ∷ vs) zero (suc j) v w e h = refl
same_at f (x ∷ vs) (suc d) zero v w e h = refl
same_at f (x ∷ vs) (suc d) (suc j) v w e h = same_at f vs d j v w e h

-- what is so of each entry, and of the changed one
pub so_at : {X : Type 0} (P : ℕ → Option X → Type 0) (vs : List (Option X)) (d : ℕ) (v w : X) → entry vs d ≡ Some v → (P d (Some v) → P d (Some w)) → ((j : ℕ) → P j (entry vs j)) → (j : ℕ) → P j (entry (set vs d (Some w)) j)
so_at P [] d v w e h a j = a j
so_at P (x ∷ vs) zero v w e h a zero = h (subst (P 0) e (a zero))
so_at P (x ∷ vs) zero v w e h a (suc j) = a (suc j)
so_at P (x ∷ vs) (suc d) v w e h a zero = a zero
so_at P (x ∷ vs) (suc d) v w e h a (suc j) = so_at (λ i. P (suc i)) vs d v w e h (λ i. a (suc i)) j

pub elsewhere : {X : Type 0} (vs : List (Option X)) (d j : ℕ) (o : Option X) → j ≢ d → entry (set vs d o) j ≡ entry vs j
elsewhere [] d j o e = refl
elsewhere (x ∷ vs) zero zero o e = absurd (e refl)
elsewhere (x ∷ vs) zero (suc j) o e = refl
elsewhere (x ∷ vs) (suc d) zero o e = refl
elsewhere (x ∷ vs) (suc d) (suc j) o e = elsewhere vs d j o (λ s. e (ap suc s))

pub within : {X : Type 0} (vs : List (Option X)) (d : ℕ) (v : X) (o : Option X) → entry vs d ≡ Some v → entry (set vs d o) d ≡ o
within [] d v o e = absurd (cc)
within (x ∷ vs) zero v o e = refl
within (x ∷ vs) (suc d) v o e = within vs d v o e

-- an entry put in its own place
pub put_same : {X : Type 0} (vs : List (Option X)) (d : ℕ) (v : X) → entry vs d ≡ Some v → set vs d (Some v) ≡ vs
put_same [] d v e = refl
put_same (x ∷ vs) zero v e = ap (λ o. o ∷ vs) (sym e)
put_same (x ∷ vs) (suc d) v e = ap (λ l. x ∷ l) (put_same vs d v e)

-- the first one that passes, as it was
pub unchanged : {X : Type 0} (p : X → Bool) (xs : List X) → change p (λ x. x) xs ≡ xs
unchanged p [] = refl
unchanged p (x ∷ xs) = elim (p x) as (λ b. (if b then x ∷ xs else x ∷ change p (λ y. y) xs) ≡ x ∷ xs) [ true ↦ refl | false ↦ ap (λ l. x ∷ l) (unchanged p xs) ]

-- what is so of an entry, where it is so of the changed one
pub carried_at : {X : Type 0} (P : Option X → Type 0) (vs : List (Option X)) (d j : ℕ) (v w : X) → entry vs d ≡ Some v → (P (Some v) → P (Some w)) → P (entry vs j) → P (entry (set vs d (Some w)) j)
carried_at P [] d j v w e h a = a
carried_at P (x ∷ vs) zero zero v w e h a = h (subst P e a)
carried_at P (x ∷ vs) zero (suc j) v w e h a = a
carried_at P (x ∷ vs) (suc d) zero v w e h a = a
carried_at P (x ∷ vs) (suc d) (suc j) v w e h a = carried_at P vs d j v w e h a

-- an entry that is there is within the table
pub entry_inside : {X : Type 0} (vs : List (Option X)) (d : ℕ) (v : X) → entry vs d ≡ Some v → d < length vs
entry_inside [] d v e = absurd (cc)
entry_inside (x ∷ vs) zero v e = omega arith
entry_inside (x ∷ vs) (suc d) v e = let l = entry_inside vs d v e in omega (arith, l)

pub entry_mapped : {X Y : Type 0} (f : X → Y) (xs : List (Option X)) (d : ℕ) → entry (map (option_map f) xs) d ≡ option_map f (entry xs d)
entry_mapped f [] d = refl
entry_mapped f (x ∷ xs) zero = refl
entry_mapped f (x ∷ xs) (suc d) = entry_mapped f xs d

-- what stands at a place and passes is found
pub found_some : {X : Type 0} (p : X → Bool) (xs : List X) (i : ℕ) (x : X) → i < length xs → p (get_or xs i x) ≡ true → is_some (find p xs) ≡ true
found_some p [] i x l e = absurd (omega (arith, l))
found_some p (y ∷ ys) zero x l e = ap (λ b. is_some (if b then Some y else find p ys)) e
found_some p (y ∷ ys) (suc i) x l e = elim (p y) as (λ b. is_some (if b then Some y else find p ys) ≡ true) [ true ↦ refl | false ↦ found_some p ys i x (omega (arith, l)) e ]
