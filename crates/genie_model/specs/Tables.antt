-- Tables: lists of records, in the order of their numbers or with each at its number.
use Rattle.std.specs.Prelude.{ℕ, Bool, nat_lt, List, [], ◌∷◌, Option, None, Some, slice_index_or, slice_set, if◌then◌else◌}

-- without the first record that passes the test
abbrev pub without : {X : Type 0} → (X → Bool) → List X → List X
without p [] = []
without p (x ∷ xs) = if p x then xs else x ∷ without p xs

-- with f done to the first record that passes the test
abbrev pub change : {X : Type 0} → (X → Bool) → (X → X) → List X → List X
change p f [] = []
change p f (x ∷ xs) = if p x then f x ∷ xs else x ∷ change p f xs

-- before the first one with a higher key
abbrev pub put_in : {X : Type 0} → (X → ℕ) → X → List X → List X
put_in key x [] = x ∷ []
put_in key x (y ∷ ys) = if nat_lt (key x) (key y) then x ∷ y ∷ ys else y ∷ put_in key x ys

-- what stands at a place of a table, where something does
abbrev pub entry : {X : Type 0} → List (Option X) → ℕ → Option X
entry xs n = slice_index_or xs n None

abbrev pub set_entry : {X : Type 0} → List (Option X) → ℕ → X → List (Option X)
set_entry xs n x = slice_set xs n (Some x)
