-- Words have one meaning at most.
use Rattle.std.proofs.Common.{◌≡◌, ℕ, ◌+◌, ◌-◌, ◌*◌, ◌^◌, ◌<◌, ◌≤◌, List, [], ◌∷◌, decimal, codes, true, refl, sym, ap, ap₂, ◌∙◌, arith, rules}
use Rattle.std.specs.Str.{all_ascii_digits}
use Rattle.std.proofs.lemmas.Str.Parse.{IsNumeralModel, numerals_by_fold}
use Rattle.std.proofs.lemmas.Fmt.{digits_decimal, digits_value-decimal}
use Rattle.genie_words.specs.Forms.{Meaning, ReplayOf, CostOf, MakeOf, Means}

abbrev value_on : ℕ → List ℕ → ℕ
value_on n [] = n
value_on n (c ∷ cs) = value_on (10 * n + (c - 48)) cs

own : IsNumeralModel (λ ds. all_ascii_digits ds ≡ true) (value_on 0)
own = numerals_by_fold _ (search rules) value_on (search rules)

pub digits_of_decimal : (n : ℕ) → n < 2 ^ 64 → all_ascii_digits (decimal n) ≡ true
digits_of_decimal n lt = digits_decimal own n lt

-- numbers of the same decimal are the same
pub same_number : (n m : ℕ) → n < 2 ^ 64 → m < 2 ^ 64 → decimal n ≡ decimal m → n ≡ m
same_number n m lt lu is = sym (digits_value-decimal own n lt) ∙ ap (value_on 0) is ∙ digits_value-decimal own m lu

same_words : (a v w x y : List ℕ) → a ∷ v ∷ w ∷ [] ≡ a ∷ x ∷ y ∷ [] → (v ≡ x) × (w ≡ y)
same_words a v w x y is = (cc, cc)

same_name : (a v x : List ℕ) → a ∷ v ∷ [] ≡ a ∷ x ∷ [] → v ≡ x
same_name a v x is = cc

pub one_meaning : (ws : List (List ℕ)) (m n : Meaning) → Means ws m → Means ws n → m ≡ n
one_meaning ws (ReplayOf v) (ReplayOf x) is as_well = ap ReplayOf (same_name (codes "replay") v x (sym is.0 ∙ as_well.0))
one_meaning ws (ReplayOf v) (CostOf x) is as_well = let e = sym is.0 ∙ as_well.0 in absurd (cc)
one_meaning ws (ReplayOf v) (MakeOf s r) is as_well = let e = sym is.0 ∙ as_well.0 in absurd (cc)
one_meaning ws (CostOf v) (ReplayOf x) is as_well = let e = sym is.0 ∙ as_well.0 in absurd (cc)
one_meaning ws (CostOf v) (CostOf x) is as_well = ap CostOf (same_name (codes "cost") v x (sym is.0 ∙ as_well.0))
one_meaning ws (CostOf v) (MakeOf s r) is as_well = let e = sym is.0 ∙ as_well.0 in absurd (cc)
one_meaning ws (MakeOf s r) (ReplayOf x) is as_well = let e = sym is.0 ∙ as_well.0 in absurd (cc)
one_meaning ws (MakeOf s r) (CostOf x) is as_well = let e = sym is.0 ∙ as_well.0 in absurd (cc)
one_meaning ws (MakeOf s r) (MakeOf t q) is as_well =
    let both = same_words (codes "make") (decimal s) (decimal r) (decimal t) (decimal q) (sym is.0 ∙ as_well.0) in
    ap₂ MakeOf (same_number s t is.1 as_well.1 both.0) (same_number r q (omega (arith, is.3)) (omega (arith, as_well.3)) both.1)
