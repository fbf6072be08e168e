-- Bytes stored in the place of others.
use Rattle.std.specs.Prelude.{ℕ, zero, suc, List, [], ◌∷◌, take, drop}

-- the old bytes with the new ones in their place from place x on; what would pass the end of the old ones is lost
abbrev pub overlaid : ℕ → List ℕ → List ℕ → List ℕ
overlaid x new [] = []
overlaid (suc x) new (o ∷ old) = o ∷ overlaid x new old
overlaid zero [] (o ∷ old) = o ∷ old
overlaid zero (b ∷ new) (o ∷ old) = b ∷ overlaid zero new old

-- n bytes from place x on, as far as they go
abbrev pub part : ℕ → ℕ → List ℕ → List ℕ
part x n bytes = take n (drop x bytes)
