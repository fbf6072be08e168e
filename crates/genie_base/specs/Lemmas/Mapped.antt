-- What holds of a list's images, said of the list.
use Rattle.std.proofs.Common.{◌≡◌, ℕ, ◌<◌, List, [], ◌∷◌, length, refl, arith, subst}
use Rattle.std.specs.Prelude.{map, sum_by, All, ◌↔◌}
use Rattle.std.proofs.lemmas.List.{get_or-map, length-map}
use Rattle.std.proofs.lemmas.List.Elements.{All-map}
use Rattle.std.proofs.lemmas.List.Sums.{sum_by-cons}

pub All-from_map : {X Y : Type 0} (P : Y → Type 0) (f : X → Y) (xs : List X) → All P (map f xs) → All (λ x. P (f x)) xs
All-from_map P f xs all k d lt =
    let within : k < length (map f xs) = rw length-map lt in
    subst P (get_or-map f xs k d (f d) lt) (all k (f d) within)

pub All-images : {X Y : Type 0} (P : Y → Type 0) (f : X → Y) (xs : List X) → All (λ x. P (f x)) xs ↔ All P (map f xs)
All-images P f xs = (All-map P f xs, All-from_map P f xs)

pub sum_by-map : {X Y : Type 0} (c : Y → ℕ) (f : X → Y) (xs : List X) → sum_by c (map f xs) ≡ sum_by (λ x. c (f x)) xs
sum_by-map c f [] = refl
sum_by-map c f (x ∷ xs) = omega (arith, sum_by-cons c (f x) (map f xs), sum_by-cons (λ y. c (f y)) x xs, sum_by-map c f xs)

pub ruleset mapped = (sum_by-map)
