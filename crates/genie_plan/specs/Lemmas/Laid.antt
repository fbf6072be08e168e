-- Bytes stored in a part of others.
use Rattle.std.proofs.Common.{◌≡◌, ℕ, zero, suc, ◌+◌, ◌-◌, ◌≤◌, List, [], ◌∷◌, ◌++◌, length, take, drop, refl, ap, sym, ◌∙◌, arith}
use Rattle.genie_base.specs.Bytes.{overlaid, part}
use Rattle.genie_base.specs.Lemmas.Overlaid.{overlaid-nothing}
use Rattle.genie_plan.specs.Laws.{overlaid-same}

pub drop-overlaid : (a x y : ℕ) (new old : List ℕ) → y ≡ a + x → drop a (overlaid y new old) ≡ overlaid x new (drop a old)
drop-overlaid zero x y new old e = let same : y ≡ x = omega arith in ap (λ n. overlaid n new old) same
drop-overlaid (suc a) x y new [] e = refl
drop-overlaid (suc a) x zero new (o ∷ old) e = absurd (omega arith)
drop-overlaid (suc a) x (suc y) new (o ∷ old) e = drop-overlaid a x y new old (omega arith)

pub take-overlaid-past : (n x : ℕ) (new old : List ℕ) → take n (overlaid x new old) ≡ overlaid x new (take n old)
take-overlaid-past zero x new [] = refl
take-overlaid-past (suc n) x new [] = refl
take-overlaid-past zero (suc x) new (o ∷ old) = refl
take-overlaid-past zero zero [] (o ∷ old) = refl
take-overlaid-past zero zero (b ∷ new) (o ∷ old) = refl
take-overlaid-past (suc n) (suc x) new (o ∷ old) = ap (λ l. o ∷ l) (take-overlaid-past n x new old)
take-overlaid-past (suc n) zero [] (o ∷ old) = refl
take-overlaid-past (suc n) zero (b ∷ new) (o ∷ old) = ap (λ l. b ∷ l) (take-overlaid-past n zero new old)

-- in the first of two lists, or in the second
pub overlaid-left : (x : ℕ) (new a b : List ℕ) → x + length new ≤ length a → overlaid x new (a ++ b) ≡ overlaid x new a ++ b
overlaid-left (suc x) new [] b h = absurd (omega arith)
overlaid-left zero (n ∷ new) [] b h = absurd (omega arith)
overlaid-left zero [] [] [] h = refl
overlaid-left zero [] [] (c ∷ b) h = refl
overlaid-left (suc x) new (o ∷ a) b h = ap (λ l. o ∷ l) (overlaid-left x new a b (omega arith))
overlaid-left zero [] (o ∷ a) b h = refl
overlaid-left zero (n ∷ new) (o ∷ a) b h = ap (λ l. n ∷ l) (overlaid-left zero new a b (omega arith))

pub overlaid-right : (x y : ℕ) (new a b : List ℕ) → y ≡ length a + x → overlaid y new (a ++ b) ≡ a ++ overlaid x new b
overlaid-right x y new [] b e = let same : y ≡ x = omega arith in ap (λ n. overlaid n new b) same
overlaid-right x zero new (o ∷ a) b e = absurd (omega arith)
overlaid-right x (suc y) new (o ∷ a) b e = ap (λ l. o ∷ l) (overlaid-right x y new a b (omega arith))

-- new bytes stored in a part, and the part where it stands
pub overlaid-part : (x n at m y : ℕ) (new all : List ℕ) → m ≡ n - at → y ≡ x + at → overlaid x (overlaid at new (part x n all)) all ≡ overlaid y (take m new) all
overlaid-part x n at m y new [] d e = refl
overlaid-part (suc x) n at m zero new (o ∷ all) d e = absurd (omega arith)
overlaid-part (suc x) n at m (suc y) new (o ∷ all) d e = ap (λ l. o ∷ l) (overlaid-part x n at m y new all d (omega arith))
overlaid-part zero zero at zero y new (o ∷ all) d e = sym (overlaid-nothing y (o ∷ all))
overlaid-part zero zero at (suc m) y new (o ∷ all) d e = absurd (omega arith)
overlaid-part zero (suc n) zero zero y new (o ∷ all) d e = absurd (omega arith)
overlaid-part zero (suc n) zero (suc m) zero [] (o ∷ all) d e = ap (λ l. o ∷ l) (overlaid-same zero n all)
overlaid-part zero (suc n) zero (suc m) zero (b ∷ new) (o ∷ all) d e = ap (λ l. b ∷ l) (overlaid-part zero n zero m zero new all (omega arith) (omega arith))
overlaid-part zero (suc n) zero m (suc y) new (o ∷ all) d e = absurd (omega arith)
overlaid-part zero (suc n) (suc at) m zero new (o ∷ all) d e = absurd (omega arith)
overlaid-part zero (suc n) (suc at) m (suc y) new (o ∷ all) d e = ap (λ l. o ∷ l) (overlaid-part zero n at m y new all (omega arith) (omega arith))

-- the same, seen as the part
pub part-overlaid : (first len at y : ℕ) (new all : List ℕ) → y ≡ first + at → part first len (overlaid y new all) ≡ overlaid at new (part first len all)
part-overlaid first len at y new all e = ap (take len) (drop-overlaid first at y new all e) ∙ take-overlaid-past len at new (drop first all)
