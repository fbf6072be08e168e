-- A sum, one element further.
use Rattle.std.proofs.Common.{◌≡◌, ℕ, ◌+◌, ◌<◌, ◌≤◌, zero, suc, List, [], ◌∷◌, refl, ap, arith, ◌∙◌, length, drop, get_or}
use Rattle.std.specs.Prelude.{sum_by}
use Rattle.std.proofs.lemmas.List.Sums.{sum_by-cons}

pub sum_left : {X : Type 0} (f : X → ℕ) (xs : List X) (i : ℕ) (d : X) → i < length xs → sum_by f (drop i xs) ≡ f (get_or xs i d) + sum_by f (drop (i + 1) xs)
sum_left f [] i d l = absurd (omega arith)
sum_left f (x ∷ xs) zero d l = sum_by-cons f x xs
sum_left f (x ∷ xs) (suc i) d l =
    let longer : suc (i + 1) ≡ suc i + 1 = omega arith in
    sum_left f xs i d (omega arith) ∙ ap (λ n. f (get_or xs i d) + sum_by f (drop n (x ∷ xs))) longer

pub none_left : {X : Type 0} (f : X → ℕ) (xs : List X) (i : ℕ) → length xs ≤ i → sum_by f (drop i xs) ≡ 0
none_left f [] zero l = refl
none_left f [] (suc i) l = refl
none_left f (x ∷ xs) zero l = absurd (omega arith)
none_left f (x ∷ xs) (suc i) l = none_left f xs i (omega arith)
