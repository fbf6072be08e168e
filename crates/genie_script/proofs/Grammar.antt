-- The grammar and the spelling of lines say the same.
use Rattle.std.proofs.Common.{◌≡◌, ℕ, true, false, List, [], ◌∷◌, ◌++◌, Option, Some, refl, sym, ap, ◌∙◌, decimal}
use Rattle.std.specs.Prelude.{codes, bytes_eq}
use Rattle.std.proofs.lemmas.List.{append-nil}
use Rattle.genie_script.specs.declared.keyword.Keyword.{Keyword}
use Rattle.genie_script.specs.declared.keyword.Keyword.TheVariants.{Boot, Device, Spawn, Fork, Exit, Map, Alloc, Unmap, Protect, Read, Write, Output, Input, Send, Recv, Finish, Cancel, Pageout}
use Rattle.genie_script.specs.declared.line.Line.{Line}
use Rattle.genie_script.specs.declared.line.Line.TheVariants as line
use Rattle.genie_script.specs.Words.{◌>>=◌, words, word_at, last_word}
use Rattle.genie_script.specs.Numbers.{number_of, number_at, last_number, last_two, last_three}
use Rattle.genie_script.specs.Names.{file_of, file_at, file_text, kind_of, kind_at, kind_text, semantics_of, semantics_at, semantics_text, port_of, port_at, port_text, dash_at}
use Rattle.genie_script.specs.Lines.{keyword_text, keywords, keyword_of, fields_of, is_blank, line_of}
use Rattle.genie_script.specs.Spelling.{spaced}
use Rattle.genie_script.specs.Laws.{IsNumber}
use Rattle.genie_script.proofs.Each.{Each, each_none, each_some, each_bind, each_if, each_either}
use Rattle.genie_script.proofs.Decimals.{both}
use Rattle.genie_script.proofs.Spaced.{is_word, are_words, words_spaced, spaced_words}
use Rattle.genie_script.proofs.Spells.{Spells, numbers, device_kinds, eight_semantics, files, same_text, find_passes}
use Rattle.genie_script.proofs.Ports.{ports}

-- ---- the first word, and the last

word_is : (ws : List (List ℕ)) (x : List ℕ × List (List ℕ)) → word_at ws ≡ Some x → ws ≡ x.0 ∷ x.1
word_is [] x e = absurd cc
word_is (w ∷ ws) x e =
    let s : Some (w, ws) ≡ Some x = e in
    let same : (w, ws) ≡ x = cc in
    ap (λ (y : List ℕ × List (List ℕ)). y.0 ∷ y.1) same

last_is : (ws : List (List ℕ)) → Each (λ w. ws ≡ w ∷ []) (last_word ws)
unfolding last_word
last_is [] = each_none _
last_is (w ∷ []) = each_some _ w refl
last_is (w ∷ v ∷ ws) = each_none _

-- the first word, read by a function
abbrev pub first : {A : Type 0} → (List ℕ → Option A) → List (List ℕ) → Option (A × List (List ℕ))
first of ws = word_at ws >>= λ word. of word.0 >>= λ a. Some (a, word.1)

pub front_takes : {A : Type 0} {text : A → List ℕ} {F : A → Type 0} (of : List ℕ → Option A) (s : Spells of text F) (ws : List (List ℕ)) → Each (λ (x : A × List (List ℕ)). ws ≡ text x.0 ∷ x.1) (first of ws)
front_takes {A} {text} of s ws =
    each_bind _ (word_at ws) _ (λ word e.
    each_bind _ (of word.0) _ (λ a f.
    each_some (λ (x : A × List (List ℕ)). ws ≡ text x.0 ∷ x.1) (a, word.1) (word_is ws word e ∙ ap (λ w. w ∷ word.1) (s.takes word.0 a f))))

pub front_again : {A : Type 0} {text : A → List ℕ} {F : A → Type 0} (of : List ℕ → Option A) (s : Spells of text F) (a : A) (ws : List (List ℕ)) → F a → first of (text a ∷ ws) ≡ Some (a, ws)
front_again of s a ws f = rw (s.again a f) refl

pub last_takes : {A : Type 0} {text : A → List ℕ} {F : A → Type 0} (of : List ℕ → Option A) (s : Spells of text F) (ws : List (List ℕ)) → Each (λ a. ws ≡ text a ∷ []) (last_word ws >>= λ w. of w)
last_takes {text = text} of s ws = each_bind _ (last_word ws) _ (λ w e. λ a f. last_is ws w e ∙ ap (λ v. v ∷ []) (s.takes w a f))

pub last_again : {A : Type 0} {text : A → List ℕ} {F : A → Type 0} (of : List ℕ → Option A) (s : Spells of text F) (a : A) → F a → (last_word (text a ∷ []) >>= λ w. of w) ≡ Some a
unfolding last_word
last_again of s a f = s.again a f

pub number_at_takes : (ws : List (List ℕ)) → Each (λ x. ws ≡ decimal x.0 ∷ x.1) (number_at ws)
unfolding number_at
number_at_takes ws = front_takes number_of numbers ws

pub number_at_again : (n : ℕ) (ws : List (List ℕ)) → IsNumber n → number_at (decimal n ∷ ws) ≡ Some (n, ws)
unfolding number_at
number_at_again n ws f = front_again number_of numbers n ws f

pub kind_at_takes : (ws : List (List ℕ)) → Each (λ x. ws ≡ kind_text x.0 ∷ x.1) (kind_at ws)
unfolding kind_at
kind_at_takes ws = front_takes kind_of device_kinds ws

pub file_at_takes : (ws : List (List ℕ)) → Each (λ x. ws ≡ file_text x.0 ∷ x.1) (file_at ws)
unfolding file_at
file_at_takes ws = front_takes file_of files ws

pub semantics_at_takes : (ws : List (List ℕ)) → Each (λ x. ws ≡ semantics_text x.0 ∷ x.1) (semantics_at ws)
unfolding semantics_at
semantics_at_takes ws = front_takes semantics_of eight_semantics ws

pub port_at_takes : (ws : List (List ℕ)) → Each (λ x. ws ≡ port_text x.0.0 x.0.1 ∷ x.1) (port_at ws)
unfolding port_at
port_at_takes ws = front_takes port_of ports ws

pub dash_at_takes : (ws : List (List ℕ)) → Each (λ x. ws ≡ codes "-" ∷ x) (dash_at ws)
unfolding dash_at
dash_at_takes ws =
    each_bind _ (word_at ws) _ (λ word e.
    each_if _ (bytes_eq word.0 (codes "-")) _ (λ f.
    each_some (λ x. ws ≡ codes "-" ∷ x) word.1 (word_is ws word e ∙ ap (λ w. w ∷ word.1) (sym (same_text word.0 (codes "-") f)))))

-- ---- numbers at the end

pub last_number_takes : (ws : List (List ℕ)) → Each (λ n. ws ≡ decimal n ∷ []) (last_number ws)
unfolding last_number
last_number_takes ws = last_takes number_of numbers ws

pub last_number_again : (n : ℕ) → IsNumber n → last_number (decimal n ∷ []) ≡ Some n
unfolding last_number
last_number_again n f = last_again number_of numbers n f

pub last_two_takes : (ws : List (List ℕ)) → Each (λ x. ws ≡ decimal x.0 ∷ decimal x.1 ∷ []) (last_two ws)
unfolding last_two
last_two_takes ws =
    each_bind _ (number_at ws) _ (λ first e.
    each_bind _ (last_number first.1) _ (λ second f.
    each_some (λ x. ws ≡ decimal x.0 ∷ decimal x.1 ∷ []) (first.0, second) (number_at_takes ws first e ∙ ap (λ v. decimal first.0 ∷ v) (last_number_takes first.1 second f))))

pub last_two_again : (m n : ℕ) → IsNumber m → IsNumber n → last_two (decimal m ∷ decimal n ∷ []) ≡ Some (m, n)
unfolding last_two
last_two_again m n f g = rw (number_at_again m (decimal n ∷ []) f, last_number_again n g) refl

pub last_three_takes : (ws : List (List ℕ)) → Each (λ x. ws ≡ decimal x.0 ∷ decimal x.1 ∷ decimal x.2 ∷ []) (last_three ws)
unfolding last_three
last_three_takes ws =
    each_bind _ (number_at ws) _ (λ first e.
    each_bind _ (last_two first.1) _ (λ others f.
    each_some (λ x. ws ≡ decimal x.0 ∷ decimal x.1 ∷ decimal x.2 ∷ []) (first.0, others.0, others.1) (number_at_takes ws first e ∙ ap (λ v. decimal first.0 ∷ v) (last_two_takes first.1 others f))))

pub last_three_again : (l m n : ℕ) → IsNumber l → IsNumber m → IsNumber n → last_three (decimal l ∷ decimal m ∷ decimal n ∷ []) ≡ Some (l, m, n)
unfolding last_three
last_three_again l m n f g h = rw (number_at_again l (decimal m ∷ decimal n ∷ []) f, last_two_again m n g h) refl

-- ---- texts that are words

pub one_word : (n : ℕ) → IsNumber n → are_words (decimal n ∷ []) ≡ true
one_word n f = both _ _ (numbers.word n f) refl

pub two_words : (m n : ℕ) → IsNumber m → IsNumber n → are_words (decimal m ∷ decimal n ∷ []) ≡ true
two_words m n f g = both _ _ (numbers.word m f) (one_word n g)

pub three_words : (l m n : ℕ) → IsNumber l → IsNumber m → IsNumber n → are_words (decimal l ∷ decimal m ∷ decimal n ∷ []) ≡ true
three_words l m n f g h = both _ _ (numbers.word l f) (two_words m n g h)

-- ---- the keyword

keyword_again : (k : Keyword) → keyword_of (keyword_text k) ≡ Some k
unfolding keyword_of
keyword_again Boot = refl
keyword_again Device = refl
keyword_again Spawn = refl
keyword_again Fork = refl
keyword_again Exit = refl
keyword_again Map = refl
keyword_again Alloc = refl
keyword_again Unmap = refl
keyword_again Protect = refl
keyword_again Read = refl
keyword_again Write = refl
keyword_again Output = refl
keyword_again Input = refl
keyword_again Send = refl
keyword_again Recv = refl
keyword_again Finish = refl
keyword_again Cancel = refl
keyword_again Pageout = refl

keyword_takes : (t : List ℕ) → Each (λ k. t ≡ keyword_text k) (keyword_of t)
unfolding keyword_of
keyword_takes t = λ k e. same_text (keyword_text k) t (find_passes (λ x. bytes_eq (keyword_text x) t) keywords k e)

-- no keyword is the beginning of a comment
keyword_shows : (k : Keyword) (rest : List ℕ) → (is_blank (keyword_text k ++ rest) ≡ false) × (is_word (keyword_text k) ≡ true)
keyword_shows Boot rest = (refl, refl)
keyword_shows Device rest = (refl, refl)
keyword_shows Spawn rest = (refl, refl)
keyword_shows Fork rest = (refl, refl)
keyword_shows Exit rest = (refl, refl)
keyword_shows Map rest = (refl, refl)
keyword_shows Alloc rest = (refl, refl)
keyword_shows Unmap rest = (refl, refl)
keyword_shows Protect rest = (refl, refl)
keyword_shows Read rest = (refl, refl)
keyword_shows Write rest = (refl, refl)
keyword_shows Output rest = (refl, refl)
keyword_shows Input rest = (refl, refl)
keyword_shows Send rest = (refl, refl)
keyword_shows Recv rest = (refl, refl)
keyword_shows Finish rest = (refl, refl)
keyword_shows Cancel rest = (refl, refl)
keyword_shows Pageout rest = (refl, refl)

-- ---- a line by its words

shows : (k : Keyword) (ws : List (List ℕ)) → is_blank (spaced (keyword_text k ∷ ws)) ≡ false
shows k [] = ap is_blank (sym (append-nil (keyword_text k))) ∙ (keyword_shows k []).0
shows k (w ∷ ws) = (keyword_shows k (32 ∷ spaced (w ∷ ws))).0

pub line_again : (k : Keyword) (ws : List (List ℕ)) (l : Line) → are_words ws ≡ true → fields_of k ws ≡ Some l → line_of (spaced (keyword_text k ∷ ws)) ≡ Some l
unfolding line_of
line_again k ws l e f = rw (shows k ws, words_spaced (keyword_text k) ws (both _ _ (keyword_shows k []).1 e), keyword_again k) f

pub line_takes : (text : List ℕ) (P : Line → Type 0) → P line.Blank → ((k : Keyword) (ws : List (List ℕ)) → text ≡ spaced (keyword_text k ∷ ws) → Each P (fields_of k ws)) → Each P (line_of text)
unfolding line_of
line_takes text P blank h =
    each_either (is_blank text) (Some line.Blank) _ (λ e. each_some P line.Blank blank) (λ e.
    each_bind P (word_at (words text)) _ (λ word f.
    each_bind P (keyword_of word.0) _ (λ k g.
    h k word.1 (sym (spaced_words text) ∙ ap spaced (word_is (words text) word f ∙ ap (λ w. w ∷ word.1) (keyword_takes word.0 k g))))))
