-- Zeros stored among zeros.
use Rattle.std.proofs.Common.{◌≡◌, ℕ, zero, suc, List, [], ◌∷◌, ◌++◌, refl, sym, ap, ap₂, ◌∙◌, take, drop}
use Rattle.std.specs.Prelude.{flat_map, replicate, ⊤}
use Rattle.genie_base.specs.Bytes.{overlaid}

abbrev pub AreZeros : List ℕ → Type 0
AreZeros [] = ⊤
AreZeros (x ∷ xs) = (x ≡ 0) × AreZeros xs

pub zeros_taken : (n : ℕ) (xs : List ℕ) → AreZeros xs → AreZeros (take n xs)
zeros_taken zero xs h = tt
zeros_taken (suc n) [] h = tt
zeros_taken (suc n) (x ∷ xs) h = (h.0, zeros_taken n xs h.1)

pub zeros_dropped : (n : ℕ) (xs : List ℕ) → AreZeros xs → AreZeros (drop n xs)
zeros_dropped zero xs h = h
zeros_dropped (suc n) [] h = tt
zeros_dropped (suc n) (x ∷ xs) h = zeros_dropped n xs h.1

pub zeros_joined : (xs ys : List ℕ) → AreZeros xs → AreZeros ys → AreZeros (xs ++ ys)
zeros_joined [] ys h l = l
zeros_joined (x ∷ xs) ys h l = (h.0, zeros_joined xs ys h.1 l)

pub zeros_repeated : (n : ℕ) → AreZeros (replicate n 0)
zeros_repeated zero = tt
zeros_repeated (suc n) = (refl, zeros_repeated n)

pub zeros_each : {X : Type 0} (n : ℕ) (xs : List X) → AreZeros (flat_map (λ (x : X). replicate n 0) xs)
zeros_each n [] = tt
zeros_each n (x ∷ xs) = zeros_joined (replicate n 0) (flat_map (λ x. replicate n 0) xs) (zeros_repeated n) (zeros_each n xs)

-- they leave all as it is
pub zeros_overlaid : (x : ℕ) (new old : List ℕ) → AreZeros new → AreZeros old → overlaid x new old ≡ old
zeros_overlaid x new [] h l = refl
zeros_overlaid (suc x) new (o ∷ old) h l = ap (λ ys. o ∷ ys) (zeros_overlaid x new old h l.1)
zeros_overlaid zero [] (o ∷ old) h l = refl
zeros_overlaid zero (b ∷ new) (o ∷ old) h l = ap₂ ◌∷◌ (h.0 ∙ sym l.0) (zeros_overlaid zero new old h.1 l.1)
