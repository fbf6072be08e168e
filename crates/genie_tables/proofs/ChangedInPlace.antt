-- A loop that changes each element of a list in its place.
use Rattle.std.proofs.Common.{◌≡◌, ℕ, zero, suc, ◌+◌, ◌<◌, List, [], ◌∷◌, ◌++◌, length, take, drop, map, get_or, refl, ap, ◌∙◌, add-one, arith}
use Rattle.std.proofs.Math.ListN.{set}

-- after the first i elements
abbrev pub mapped_to : {X : Type 0} → (X → X) → ℕ → List X → List X
mapped_to f i xs = map f (take i xs) ++ drop i xs

step : {X : Type 0} (f : X → X) (xs : List X) (i : ℕ) (d : X) → i < length xs → set (mapped_to f i xs) i (f (get_or (mapped_to f i xs) i d)) ≡ mapped_to f (suc i) xs
step f [] i d h = absurd (omega arith)
step f (x ∷ xs) zero d h = refl
step f (x ∷ xs) (suc i) d h = ap (λ l. f x ∷ l) (step f xs i d (omega arith))

-- one element more
pub mapped_more : {X : Type 0} (f : X → X) (xs now : List X) (i : ℕ) (d new : X) → i < length xs → now ≡ mapped_to f i xs → new ≡ f (get_or now i d) → set now i new ≡ mapped_to f (i + 1) xs
mapped_more f xs now i d new h is made =
    let value : new ≡ f (get_or (mapped_to f i xs) i d) = made ∙ ap (λ l. f (get_or l i d)) is in
    rw (add-one, value, is) (step f xs i d h)
