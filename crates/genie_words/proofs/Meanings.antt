-- The subcommand that the words of a form name.
use Rattle.std.proofs.Common.{◌≡◌, ℕ, List, [], ◌∷◌, length, refl, true, false, decimal, arith, rules}
use Rattle.std.specs.Prelude.{Bool, ◌==◌, not, ◌&&◌, nat_lt}
use Rattle.std.specs.Str.{all_ascii_digits}
use Rattle.genie_words.specs.Lemmas.Meanings.{digits_of_decimal}
use Rattle.genie_words.specs.Shapes.{is_asked, is_plain}
use Rattle.genie_words.specs.Forms.{Meaning, ReplayOf, CostOf, MakeOf, Means, IsNoForm, is_script_name}

name_plain : (w : List ℕ) → is_script_name w ≡ true → is_plain w ≡ true
name_plain [] h = let g : false ≡ true = h in cc
name_plain (b ∷ bs) h = elim (b == 45) as (λ t. (not t && nat_lt (length bs) 4096) ≡ true → not t ≡ true) [ true ↦ λ k. let g : false ≡ true = k in cc | false ↦ λ k. refl ] h

digits_plain : (ds : List ℕ) → all_ascii_digits ds ≡ true → is_plain ds ≡ true
digits_plain [] h = refl
digits_plain (b ∷ bs) h = elim (b == 45) as (λ t. (b == 45) ≡ t → not t ≡ true) [
  | true ↦ λ e. let is : b ≡ 45 = search rules in let bad = rw is at h in cc
  | false ↦ λ e. refl
] refl

both_plain : (a b : Bool) → a ≡ true → b ≡ true → (a && (b && true)) ≡ true
both_plain a b e f = rw (e, f) refl

-- the words of a form name a subcommand, and none begins with a hyphen
is_meant : (ws : List (List ℕ)) (m : Meaning) → Means ws m → is_asked ws ≡ true
is_meant ws (ReplayOf w) is = let p = name_plain w is.1 in rw (is.0, p) refl
is_meant ws (CostOf w) is = let p = name_plain w is.1 in rw (is.0, p) refl
is_meant ws (MakeOf s r) is =
    let p = digits_plain (decimal s) (digits_of_decimal s is.1) in
    let q = digits_plain (decimal r) (digits_of_decimal r (omega (arith, is.3))) in
    rw (is.0, p, q) refl

pub unasked_no_form : (ws : List (List ℕ)) → is_asked ws ≡ false → IsNoForm ws
unasked_no_form ws none m is = let some = is_meant ws m is in cc
