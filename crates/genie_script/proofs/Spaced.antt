-- Words with one space between two of them are these words.
use Rattle.std.proofs.Common.{◌≡◌, ℕ, Bool, true, false, eqb, not, ◌&&◌, List, [], ◌∷◌, ◌++◌, refl, ap, ◌∙◌}
use Rattle.std.proofs.lemmas.List.Splits.{join_with_byte-slice_split}
use Rattle.genie_script.specs.Words.{words}
use Rattle.genie_script.specs.Spelling.{spaced}
use Rattle.genie_script.proofs.Decimals.{of_both}

-- a text without such a byte
abbrev pub is_free : ℕ → List ℕ → Bool
is_free c [] = true
is_free c (b ∷ bs) = not (eqb b c) && is_free c bs

-- a text without a space
abbrev pub is_word : List ℕ → Bool
is_word text = is_free 32 text

abbrev pub are_words : List (List ℕ) → Bool
are_words [] = true
are_words (w ∷ ws) = is_word w && are_words ws

pub is_no : (b : Bool) → not b ≡ true → b ≡ false
is_no true e = absurd cc
is_no false e = refl

no_space : (b : ℕ) → not (eqb b 32) ≡ true → eqb b 32 ≡ false
no_space b e = is_no (eqb b 32) e

word_then : (w rest : List ℕ) → is_word w ≡ true → words (w ++ 32 ∷ rest) ≡ w ∷ words rest
unfolding words
word_then [] rest e = refl
word_then (b ∷ bs) rest e =
    let t = of_both (not (eqb b 32)) (is_word bs) e in
    rw (no_space b t.0, word_then bs rest t.1) refl

word_alone : (w : List ℕ) → is_word w ≡ true → words w ≡ w ∷ []
unfolding words
word_alone [] e = refl
word_alone (b ∷ bs) e =
    let t = of_both (not (eqb b 32)) (is_word bs) e in
    rw (no_space b t.0, word_alone bs t.1) refl

pub words_spaced : (w : List ℕ) (ws : List (List ℕ)) → are_words (w ∷ ws) ≡ true → words (spaced (w ∷ ws)) ≡ w ∷ ws
words_spaced w [] e = word_alone w (of_both _ _ e).0
words_spaced w (x ∷ ws) e =
    let t = of_both (is_word w) (are_words (x ∷ ws)) e in
    word_then w (spaced (x ∷ ws)) t.0 ∙ ap (λ vs. w ∷ vs) (words_spaced x ws t.1)

pub spaced_words : (text : List ℕ) → spaced (words text) ≡ text
unfolding words
spaced_words text = join_with_byte-slice_split 32 text
