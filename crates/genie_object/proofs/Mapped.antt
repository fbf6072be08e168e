-- A loop that maps a list in place.
use Rattle.std.proofs.Common.{◌≡◌, ℕ, ◌<◌, ◌+◌, suc, zero, List, [], ◌∷◌, ◌++◌, refl, arith, ap, length, map, take, drop, set, get_or, ◌∙◌}

mapped_step : {X : Type 0} (f : X → X) (d : X) (xs : List X) (i n : ℕ) → i < length xs → n ≡ i + 1 → set (map f (take i xs) ++ drop i xs) i (f (get_or (map f (take i xs) ++ drop i xs) i d)) ≡ map f (take n xs) ++ drop n xs
mapped_step f d [] i n l e = absurd (omega arith)
mapped_step f d (x ∷ xs) i zero l e = absurd (omega arith)
mapped_step f d (x ∷ xs) zero (suc n) l e = let none : n ≡ 0 = omega arith in rw none refl
mapped_step f d (x ∷ xs) (suc i) (suc n) l e = ap (λ ys. f x ∷ ys) (mapped_step f d xs i n (omega arith) (omega arith))

-- a loop that maps a list in place goes on by one
pub mapped_more : {X : Type 0} (f : X → X) (d : X) (xs ys : List X) (i : ℕ) (y : X) → ys ≡ map f (take i xs) ++ drop i xs → i < length xs → y ≡ f (get_or ys i d) → set ys i y ≡ map f (take (i + 1) xs) ++ drop (i + 1) xs
mapped_more f d xs ys i y e l is = ap (set ys i) is ∙ ap (λ zs. set zs i (f (get_or zs i d))) e ∙ mapped_step f d xs i (i + 1) l refl
