-- The words of a text, one after another.
use Rattle.std.proofs.Common.{◌≡◌, ℕ, ◌+◌, ◌≤◌, Bool, false, eqb, List, [], ◌∷◌, length, take, take_all, drop, Option, Some, None, refl, sym, ap, ◌∙◌, arith, inl, inr}
use Rattle.std.specs.Prelude.{option_copied, position}
use Rattle.std.specs.List.{position_or_len, All}
use Rattle.std.proofs.lemmas.Bool.{cases_lt, le-ltb, lt-ltb}
use Rattle.std.proofs.lemmas.List.Splits.{slice_split_first, slice_split_none}
use Rattle.std.proofs.lemmas.List.Sums.{fails_before_first}
use denote.Ref.{Bor}
use Rattle.genie_script.specs.Words.{words, front, back, left, last_word}

-- the words of what is left, where the text is known
abbrev pub rest_words : Option (List ℕ) → List (List ℕ)
rest_words None = []
rest_words (Some text) = words text

pub left_is : (rest : Option (Bor (List ℕ))) → left rest ≡ rest_words (option_copied rest)
left_is None = refl
left_is (Some text) = refl

none_pass : (p : ℕ → Bool) (text : List ℕ) → length text ≤ position_or_len p text → All (λ b. p b ≡ false) text
none_pass p text le = λ k d lt. fails_before_first p text k d (omega arith)

pub words_at : (text : List ℕ) → words text ≡ front 32 text ∷ rest_words (back 32 text)
unfolding words front back
words_at text =
    let p : ℕ → Bool = λ b. eqb b 32 in
    elim (cases_lt (position_or_len p text) (length text)) [
      | inl lt ↦ rw (lt-ltb _ _ lt) (slice_split_first p text 0 lt)
      | inr le ↦ rw (le-ltb _ _ le, take_all (position_or_len p text) text le) (slice_split_none p text (none_pass p text le))
    ]

-- where the byte isn't there
pub cut_none : (byte : ℕ) (text : List ℕ) → None ≡ position (λ b. eqb b byte) text → (text ≡ front byte text) × (None ≡ back byte text)
unfolding front back
cut_none byte text e =
    let p : ℕ → Bool = λ b. eqb b byte in
    elim (cases_lt (position_or_len p text) (length text)) [
      | inl lt ↦ absurd (let h : None ≡ Some (position_or_len p text) = e ∙ rw (lt-ltb _ _ lt) refl in cc)
      | inr le ↦ (sym (take_all (position_or_len p text) text le), rw (le-ltb _ _ le) refl)
    ]

-- where it stands at a place
pub cut_some : (byte : ℕ) (text : List ℕ) (at : ℕ) → Some at ≡ position (λ b. eqb b byte) text → (take at text ≡ front byte text) × (Some (drop (at + 1) text) ≡ back byte text)
unfolding front back
cut_some byte text at e =
    let p : ℕ → Bool = λ b. eqb b byte in
    elim (cases_lt (position_or_len p text) (length text)) [
      | inl lt ↦
          let h : Some at ≡ Some (position_or_len p text) = e ∙ rw (lt-ltb _ _ lt) refl in
          let same : at ≡ position_or_len p text = cc in
          (rw same refl, rw (lt-ltb _ _ lt, same) refl)
      | inr le ↦ absurd (let h : Some at ≡ None = e ∙ rw (le-ltb _ _ le) refl in cc)
    ]

pub last_word_more : (w : List ℕ) (text : List ℕ) → last_word (w ∷ words text) ≡ None
unfolding last_word
last_word_more w text = ap (λ ws. last_word (w ∷ ws)) (words_at text)
