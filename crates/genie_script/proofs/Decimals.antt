-- A number that is read is its decimal, and a decimal is read as its number.
use Rattle.std.proofs.Common.{◌≡◌, ℕ, zero, suc, ◌+◌, ◌-◌, ◌*◌, ◌^◌, ◌<◌, ◌≤◌, Bool, true, false, cond, ltb, eqb, ◌&&◌, List, [], ◌∷◌, length, get_or, Option, Some, None, refl, sym, ap, ◌∙◌, eq-eqb, arith, decimal, rules, inl, inr, ◌⊎◌}
use Rattle.std.specs.Char.{is_ascii_digit}
use Rattle.std.specs.Str.{all_ascii_digits}
use Rattle.std.proofs.lemmas.Bool.{ltb-true, lt-ltb, eqb-true}
use Rattle.std.proofs.lemmas.Str.Parse.{IsNumeralModel, numerals_by_fold}
use Rattle.std.proofs.lemmas.Fmt.{digits_decimal, digits_value-decimal, decimal-digits_value, first_decimal, decimal_digit, decimal_nonempty}
use Rattle.genie_script.specs.Numbers.{with_digit, digits_on, number_of}
use Rattle.genie_script.proofs.Each.{Each, each_none, each_some, each_bind}

-- the number that digits stand for, after the number so far
abbrev value_on : ℕ → List ℕ → ℕ
value_on n [] = n
value_on n (c ∷ cs) = value_on (10 * n + (c - 48)) cs

own : IsNumeralModel (λ ds. all_ascii_digits ds ≡ true) (value_on 0)
own = numerals_by_fold _ (search rules) value_on (search rules)

pub bool_cases : (b : Bool) → (b ≡ true) ⊎ (b ≡ false)
bool_cases true = inl refl
bool_cases false = inr refl

pub not_eq : (a b : ℕ) → eqb a b ≡ false → a ≡ b → ⊥
not_eq a b e f = let h : true ≡ false = sym (eq-eqb a b f) ∙ e in cc

pub unless : {A : Type 0} {P : A → Type 0} (b : Bool) (o : Option A) → (b ≡ false → Each P o) → Each P (cond b None o)
unless true o h = each_none _
unless false o h = h refl

-- a decimal has no leading zero
no_zero : (n : ℕ) → n < 2 ^ 64 → get_or (decimal n) 0 0 ≡ 48 → length (decimal n) ≡ 1
no_zero zero lt e = ap length (decimal_digit 0 (omega arith))
no_zero (suc n) lt e = absurd (omega (arith, first_decimal (suc n) (omega arith) lt, e))

-- it doesn't get less
at_least : (n : ℕ) (ds : List ℕ) → n ≤ value_on n ds
at_least n [] = omega arith
at_least n (d ∷ ds) = omega (arith, at_least (10 * n + (d - 48)) ds)

below_if : (b : Bool) (m : ℕ) → (b ≡ true → m < 2 ^ 32) → Each (λ k. (k ≡ m) × (k < 2 ^ 32)) (cond b (Some m) None)
below_if true m h = each_some _ m (refl, h refl)
below_if false m h = each_none _

step_if : (b : Bool) (m : ℕ) → Each (λ k. (b ≡ true) × (k ≡ m) × (k < 2 ^ 32)) (cond (b && ltb m (2 ^ 32)) (Some m) None)
step_if false m = each_none _
step_if true m = λ k e. let h = below_if (ltb m (2 ^ 32)) m (λ t. ltb-true _ _ t) k e in (refl, h.0, h.1)

step : (n c : ℕ) → Each (λ m. (is_ascii_digit c ≡ true) × (m ≡ 10 * n + (c - 48)) × (m < 2 ^ 32)) (with_digit n c)
step n c = step_if (is_ascii_digit c) (10 * n + (c - 48))

pub both : (a b : Bool) → a ≡ true → b ≡ true → (a && b) ≡ true
both a b e f = rw (e, f) refl

pub of_both : (a b : Bool) → (a && b) ≡ true → (a ≡ true) × (b ≡ true)
of_both true b e = (refl, e)
of_both false b e = absurd cc

digits_take : (n : ℕ) (ds : List ℕ) → n < 2 ^ 32 → Each (λ m. (all_ascii_digits ds ≡ true) × (m ≡ value_on n ds) × (m < 2 ^ 32)) (digits_on n ds)
unfolding digits_on
digits_take n [] lt = each_some _ n (refl, refl, lt)
digits_take n (c ∷ cs) lt =
    each_bind _ (with_digit n c) (λ m. digits_on m cs) (λ m e. let s = step n c m e in λ k f.
    let t = digits_take m cs s.2 k f in
    (both _ _ s.0 t.0, t.1 ∙ ap (λ (x : ℕ). value_on x cs) s.1, t.2))

digits_again : (n : ℕ) (ds : List ℕ) → all_ascii_digits ds ≡ true → value_on n ds < 2 ^ 32 → digits_on n ds ≡ Some (value_on n ds)
unfolding digits_on
digits_again n [] e lt = refl
digits_again n (c ∷ cs) e lt =
    let t = of_both (is_ascii_digit c) (all_ascii_digits cs) e in
    let m : ℕ = 10 * n + (c - 48) in
    let small : ltb m (2 ^ 32) ≡ true = lt-ltb _ _ (omega (arith, at_least m cs, lt)) in
    rw (t.0, small) (digits_again m cs t.1 lt)

-- what a text of digits is read as, where it has no leading zero
abbrev HasNoZero : List ℕ → Type 0
HasNoZero text = get_or text 0 0 ≡ 48 → length text ≡ 1

number_is : (text : List ℕ) → 0 < length text → HasNoZero text → number_of text ≡ digits_on 0 text
unfolding number_of
number_is [] lt h = absurd (omega arith)
number_is (c ∷ []) lt h = refl
number_is (c ∷ d ∷ cs) lt h = elim (bool_cases (eqb c 48)) [
  | inl e ↦ absurd (omega (arith, h (eqb-true _ _ e)))
  | inr e ↦ rw e refl
]

pub number_again : (n : ℕ) → n < 2 ^ 32 → number_of (decimal n) ≡ Some n
number_again n lt =
    let digits : all_ascii_digits (decimal n) ≡ true = digits_decimal own n (omega arith) in
    let value : value_on 0 (decimal n) ≡ n = digits_value-decimal own n (omega arith) in
    number_is (decimal n) (decimal_nonempty n (omega arith)) (no_zero n (omega arith))
    ∙ digits_again 0 (decimal n) digits (omega (arith, value, lt))
    ∙ ap (λ (x : ℕ). Some x) value

digits_number : (text : List ℕ) → 0 < length text → HasNoZero text → Each (λ n. (text ≡ decimal n) × (n < 2 ^ 32)) (digits_on 0 text)
digits_number text lt h = λ n e.
    let t = digits_take 0 text (omega arith) n e in
    (sym (ap decimal t.1 ∙ decimal-digits_value own text t.0 lt h (omega (arith, t.1, t.2))), t.2)

pub number_takes : (text : List ℕ) → Each (λ n. (text ≡ decimal n) × (n < 2 ^ 32)) (number_of text)
unfolding number_of
number_takes [] = each_none _
number_takes (c ∷ []) = digits_number (c ∷ []) (omega arith) (λ e. refl)
number_takes (c ∷ d ∷ cs) = unless (eqb c 48) (digits_on 0 (c ∷ d ∷ cs)) (λ e. digits_number (c ∷ d ∷ cs) (omega arith) (λ z. absurd (not_eq c 48 e z)))

pub decimal_digits : (n : ℕ) → n < 2 ^ 32 → all_ascii_digits (decimal n) ≡ true
decimal_digits n lt = digits_decimal own n (omega arith)
