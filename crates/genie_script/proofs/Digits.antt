-- Bytes have one text of hex digits.
use Rattle.std.proofs.Common.{◌≡◌, ℕ, suc, ◌+◌, ◌-◌, ◌*◌, ◌/◌, ◌%◌, ◌<◌, ◌≤◌, Bool, true, false, cond, ltb, leb, eqb, not, ◌&&◌, List, [], ◌∷◌, length, All, Some, None, refl, sym, ap, ◌∙◌, arith, inl, inr}
use Rattle.std.specs.Char.{is_ascii_digit}
use Rattle.std.specs.Int.{is_in_range}
use Rattle.std.proofs.lemmas.Bool.{lt-ltb, le-ltb, leb-true, le-leb, lt-leb, ne_eqb, cases_lt}
use Rattle.std.proofs.lemmas.List.Concat.{flat_map-cons}
use Rattle.genie_script.specs.Hex.{nibble_of, pairs_of, bytes_of, hex_digit, hex_text}
use Rattle.genie_script.specs.Laws.{FitsBytes}
use Rattle.genie_script.proofs.Each.{Each, each_none, each_some, each_bind, each_if, each_either}
use Rattle.genie_script.proofs.Decimals.{of_both, both}
use Rattle.genie_script.proofs.Spaced.{is_free}
use Rattle.genie_script.proofs.Spells.{Spells}

low_digit : (n : ℕ) → n < 10 → hex_digit n ≡ 48 + n
low_digit n lt = rw (lt-ltb n 10 lt) refl

high_digit : (n : ℕ) → 10 ≤ n → hex_digit n ≡ 87 + n
high_digit n le = rw (le-ltb n 10 le) refl

in_range : (low high c : ℕ) → low ≤ c → c ≤ high → is_in_range low high c ≡ true
in_range low high c l h = both _ _ (le-leb low c l) (le-leb c high h)

of_range : (low high c : ℕ) → is_in_range low high c ≡ true → (low ≤ c) × (c ≤ high)
of_range low high c e =
    let t = of_both (leb low c) (leb c high) e in
    (leb-true low c t.0, leb-true c high t.1)

and_false : (b : Bool) → (b && false) ≡ false
and_false true = refl
and_false false = refl

past_range : (low high c : ℕ) → high < c → is_in_range low high c ≡ false
past_range low high c lt = rw (lt-leb c high lt) (and_false (leb low c))

nibble_takes : (c : ℕ) → Each (λ n. (c ≡ hex_digit n) × (n < 16)) (nibble_of c)
nibble_takes c =
    each_either (is_ascii_digit c) (Some (c - 48)) (cond (is_in_range 97 102 c) (Some (c - 87)) None) (λ e.
    let r = of_range 48 57 c e in
    each_some _ (c - 48) (sym (low_digit (c - 48) (omega (arith, r.0, r.1)) ∙ omega (arith, r.0)), omega (arith, r.0, r.1))) (λ e.
    each_if _ (is_in_range 97 102 c) (Some (c - 87)) (λ f.
    let r = of_range 97 102 c f in
    each_some _ (c - 87) (sym (high_digit (c - 87) (omega (arith, r.0, r.1)) ∙ omega (arith, r.0)), omega (arith, r.0, r.1))))

nibble_again : (n : ℕ) → n < 16 → nibble_of (hex_digit n) ≡ Some n
nibble_again n lt = elim (cases_lt n 10) [
  | inl low ↦
      let back : 48 + n - 48 ≡ n = omega arith in
      ap nibble_of (low_digit n low) ∙ rw (in_range 48 57 (48 + n) (omega arith) (omega arith), back) refl
  | inr high ↦
      let back : 87 + n - 87 ≡ n = omega arith in
      ap nibble_of (high_digit n high) ∙ rw (past_range 48 57 (87 + n) (omega arith), in_range 97 102 (87 + n) (omega arith) (omega arith), back) refl
]

-- the text of one byte
abbrev byte_text : ℕ → List ℕ
byte_text b = hex_digit (b / 16) ∷ hex_digit (b % 16) ∷ []

hex_cons : (b : ℕ) (bytes : List ℕ) → hex_text (b ∷ bytes) ≡ hex_digit (b / 16) ∷ hex_digit (b % 16) ∷ hex_text bytes
hex_cons b bytes = flat_map-cons byte_text b bytes

pair_text : (a b h l : ℕ) (text more : List ℕ) → a ≡ hex_digit h → b ≡ hex_digit l → l < 16 → text ≡ hex_text more → a ∷ b ∷ text ≡ hex_text ((16 * h + l) ∷ more)
pair_text a b h l text more ea eb lt et =
    let high : (16 * h + l) / 16 ≡ h = omega arith in
    let low : (16 * h + l) % 16 ≡ l = omega arith in
    rw (ea, eb, et) (sym (hex_cons (16 * h + l) more ∙ rw (high, low) refl))

pairs_take : (text : List ℕ) → Each (λ bytes. text ≡ hex_text bytes) (pairs_of text)
unfolding pairs_of
pairs_take [] = each_some _ [] refl
pairs_take (a ∷ []) = each_none _
pairs_take (a ∷ b ∷ text) =
    each_bind _ (nibble_of a) _ (λ h e.
    each_bind _ (nibble_of b) _ (λ l f.
    each_bind _ (pairs_of text) _ (λ more g.
    each_some _ ((16 * h + l) ∷ more) (pair_text a b h l text more (nibble_takes a h e).0 (nibble_takes b l f).0 (nibble_takes b l f).1 (pairs_take text more g)))))

head_fits : (b : ℕ) (bytes : List ℕ) → All (λ x. x < 256) (b ∷ bytes) → b < 256
head_fits b bytes h = h 0 0 (omega arith)

rest_fits : (b : ℕ) (bytes : List ℕ) → All (λ x. x < 256) (b ∷ bytes) → All (λ x. x < 256) bytes
rest_fits b bytes h = λ k d lt. h (suc k) d (omega arith)

pairs_again : (bytes : List ℕ) → All (λ b. b < 256) bytes → pairs_of (hex_text bytes) ≡ Some bytes
unfolding pairs_of
pairs_again [] f = refl
pairs_again (b ∷ bytes) f =
    let small : b < 256 = head_fits b bytes f in
    let same : 16 * (b / 16) + b % 16 ≡ b = omega arith in
    ap pairs_of (hex_cons b bytes) ∙ rw (nibble_again (b / 16) (omega arith), nibble_again (b % 16) (omega arith), pairs_again bytes (rest_fits b bytes f), same) refl

pub length_hex : (bytes : List ℕ) → length (hex_text bytes) ≡ 2 * length bytes
length_hex [] = refl
length_hex (b ∷ bytes) = ap length (hex_cons b bytes) ∙ omega (arith, length_hex bytes)

bytes_take : (text : List ℕ) → Each (λ bytes. text ≡ hex_text bytes) (bytes_of text)
unfolding bytes_of
bytes_take text = each_if _ (ltb 0 (length text) && ltb (length text) 8193) (pairs_of text) (λ e. pairs_take text)

-- a whole write's bytes
abbrev pub IsPage : List ℕ → Type 0
IsPage bytes = (0 < length bytes) × FitsBytes bytes

bytes_again : (bytes : List ℕ) → IsPage bytes → bytes_of (hex_text bytes) ≡ Some bytes
unfolding bytes_of
bytes_again bytes f =
    let len = length_hex bytes in
    rw (lt-ltb 0 (length (hex_text bytes)) (omega (arith, len, f.0)), lt-ltb (length (hex_text bytes)) 8193 (omega (arith, len, f.1.most))) (pairs_again bytes f.1.each)

digit_other : (c n : ℕ) → c < 48 → not (eqb (hex_digit n) c) ≡ true
digit_other c n lt = elim (cases_lt n 10) [
  | inl low ↦ rw (low_digit n low, ne_eqb (48 + n) c (λ e. omega (arith, e, lt))) refl
  | inr high ↦ rw (high_digit n high, ne_eqb (87 + n) c (λ e. omega (arith, e, lt))) refl
]

pub hex_free : (c : ℕ) (bytes : List ℕ) → c < 48 → is_free c (hex_text bytes) ≡ true
hex_free c [] lt = refl
hex_free c (b ∷ bytes) lt = ap (is_free c) (hex_cons b bytes) ∙ both _ _ (digit_other c (b / 16) lt) (both _ _ (digit_other c (b % 16) lt) (hex_free c bytes lt))

pub hex_texts : Spells bytes_of hex_text IsPage
hex_texts = record { again = bytes_again; takes = bytes_take; word = λ bytes f. hex_free 32 bytes (omega arith) }
