-- Laws of bytes that are stored in the place of others.
use Rattle.std.proofs.Common.{◌≡◌, ℕ, zero, suc, ◌+◌, ◌≤◌, List, [], ◌∷◌, ◌++◌, length, take, drop, refl, ap, arith}
use Rattle.std.proofs.lemmas.Grind.{common_steps}
use Rattle.genie_base.specs.Bytes.{overlaid}

-- the length stays
pub length-overlaid : (x : ℕ) (new old : List ℕ) → length (overlaid x new old) ≡ length old
length-overlaid x new [] = refl
length-overlaid (suc x) new (o ∷ old) = ap suc (length-overlaid x new old)
length-overlaid zero [] (o ∷ old) = refl
length-overlaid zero (b ∷ new) (o ∷ old) = ap suc (length-overlaid zero new old)

pub overlaid-nothing : (x : ℕ) (old : List ℕ) → overlaid x [] old ≡ old
overlaid-nothing x [] = refl
overlaid-nothing (suc x) (o ∷ old) = ap (λ l. o ∷ l) (overlaid-nothing x old)
overlaid-nothing zero (o ∷ old) = refl

pub overlaid-past : (x : ℕ) (new old : List ℕ) → length old ≤ x → overlaid x new old ≡ old
overlaid-past x new [] h = refl
overlaid-past (suc x) new (o ∷ old) h = ap (λ l. o ∷ l) (overlaid-past x new old (omega arith))
overlaid-past zero new (o ∷ old) h = absurd (omega arith)

overlaid-front : (new old : List ℕ) → length new ≤ length old → new ++ drop (length new) old ≡ overlaid zero new old
overlaid-front [] [] h = refl
overlaid-front (b ∷ new) [] h = absurd (omega arith)
overlaid-front [] (o ∷ old) h = refl
overlaid-front (b ∷ new) (o ∷ old) h = ap (λ l. b ∷ l) (overlaid-front new old (omega arith))

-- as three pieces, where all new bytes have room
pub overlaid-pieces : (x : ℕ) (new old : List ℕ) → x + length new ≤ length old → take x old ++ (new ++ drop (length new) (drop x old)) ≡ overlaid x new old
overlaid-pieces x [] [] h = grind (arith, common_steps)
overlaid-pieces x (b ∷ new) [] h = absurd (omega arith)
overlaid-pieces (suc x) new (o ∷ old) h = ap (λ l. o ∷ l) (overlaid-pieces x new old (omega arith))
overlaid-pieces zero new (o ∷ old) h = overlaid-front new (o ∷ old) (omega arith)

-- new bytes past the end of the old ones don't matter
pub overlaid-cut : (x n : ℕ) (new old : List ℕ) → length old ≤ x + n → overlaid x (take n new) old ≡ overlaid x new old
overlaid-cut x n new [] h = refl
overlaid-cut (suc x) n new (o ∷ old) h = ap (λ l. o ∷ l) (overlaid-cut x n new old (omega arith))
overlaid-cut zero zero new (o ∷ old) h = absurd (omega arith)
overlaid-cut zero (suc n) [] (o ∷ old) h = refl
overlaid-cut zero (suc n) (b ∷ new) (o ∷ old) h = ap (λ l. b ∷ l) (overlaid-cut zero n new old (omega arith))

-- a second run behind the first one is one run of both
pub overlaid-append : (x : ℕ) (a b old : List ℕ) → overlaid (x + length a) b (overlaid x a old) ≡ overlaid x (a ++ b) old
overlaid-append x a b [] = refl
overlaid-append (suc x) a b (o ∷ old) = let ih = overlaid-append x a b old in grind (arith, ih)
overlaid-append zero [] b (o ∷ old) = refl
overlaid-append zero (c ∷ a) b (o ∷ old) = let ih = overlaid-append zero a b old in grind (arith, ih)
