-- Each word has one spelling, and each spelling is one word.
use Rattle.std.proofs.Common.{◌≡◌, ℕ, ◌<◌, Bool, true, false, ltb, eqb, not, ◌&&◌, List, [], ◌∷◌, length, Option, Some, None, refl, sym, ap, ◌∙◌, decimal, inl, inr}
use Rattle.std.specs.Prelude.{codes, bytes_eq, find}
use Rattle.std.specs.Char.{is_ascii_digit}
use Rattle.std.specs.List.{list_all}
use Rattle.std.specs.Str.{all_ascii_digits}
use Rattle.std.proofs.lemmas.Bool.{eqb-true, ltb-true}
use Rattle.std.proofs.lemmas.Slice.Eq.{bytes_eq-Decides}
use Rattle.genie_base.specs.declared.config.Kind.{Kind}
use Rattle.genie_base.specs.declared.config.Kind.TheVariants.{Early, Pooled, Outboard}
use Rattle.genie_base.specs.declared.semantics.Semantics.{Semantics}
use Rattle.genie_base.specs.declared.semantics.Semantics.TheVariants.{Copy, EmulatedCopy, Share, EmulatedShare, Move, EmulatedMove, WeakMove, EmulatedWeakMove}
use Rattle.genie_script.specs.Numbers.{number_of}
use Rattle.genie_script.specs.Names.{is_name_byte, is_name, file_of, file_text, kind_text, kinds, kind_of, semantics_text, all_semantics, semantics_of, mode_of, mode_text}
use Rattle.genie_script.specs.Laws.{IsNumber, IsFile}
use Rattle.genie_script.proofs.Each.{Each, each_none, each_some, each_if, each_either}
use Rattle.genie_script.proofs.Decimals.{number_again, number_takes, decimal_digits, of_both, both, bool_cases}
use Rattle.genie_script.proofs.Spaced.{is_free, is_word, is_no}

pub record Spells {A : Type 0} (of : List ℕ → Option A) (text : A → List ℕ) (F : A → Type 0) : Type 0 where
  pub again : (a : A) → F a → of (text a) ≡ Some a
  pub takes : (t : List ℕ) → Each (λ a. t ≡ text a) (of t)
  pub word : (a : A) → F a → is_word (text a) ≡ true

-- a byte that passes isn't one that doesn't
other : (p : ℕ → Bool) (c b : ℕ) → p b ≡ true → p c ≡ false → not (eqb b c) ≡ true
other p c b e f = elim (bool_cases (eqb b c)) [
  | inl same ↦ absurd (let h : true ≡ false = sym e ∙ ap p (eqb-true _ _ same) ∙ f in cc)
  | inr differ ↦ rw differ refl
]

-- ---- numbers

digits_free : (c : ℕ) (ds : List ℕ) → is_ascii_digit c ≡ false → all_ascii_digits ds ≡ true → is_free c ds ≡ true
digits_free c [] f e = refl
digits_free c (d ∷ ds) f e =
    let t = of_both (is_ascii_digit d) (all_ascii_digits ds) e in
    both _ _ (other is_ascii_digit c d t.0 f) (digits_free c ds f t.1)

pub decimal_free : (c n : ℕ) → is_ascii_digit c ≡ false → IsNumber n → is_free c (decimal n) ≡ true
decimal_free c n f lt = digits_free c (decimal n) f (decimal_digits n lt)

pub numbers : Spells number_of decimal IsNumber
numbers = record {
  again = number_again;
  takes = λ t n e. (number_takes t n e).0;
  word = λ n lt. decimal_free 32 n refl lt;
}

-- ---- one of a few words

pub find_passes : {A : Type 0} (p : A → Bool) (xs : List A) → Each (λ x. p x ≡ true) (find p xs)
find_passes p [] = each_none _
find_passes p (x ∷ xs) = each_either (p x) (Some x) (find p xs) (λ e. each_some _ x e) (λ e. find_passes p xs)

pub same_text : (a b : List ℕ) → bytes_eq a b ≡ true → b ≡ a
same_text a b e = sym ((bytes_eq-Decides a b).0 e)

kind_again : (kind : Kind) → kind_of (kind_text kind) ≡ Some kind
unfolding kind_of
kind_again Early = refl
kind_again Pooled = refl
kind_again Outboard = refl

kind_takes : (t : List ℕ) → Each (λ kind. t ≡ kind_text kind) (kind_of t)
unfolding kind_of
kind_takes t = λ kind e. same_text (kind_text kind) t (find_passes (λ k. bytes_eq (kind_text k) t) kinds kind e)

kind_word : (kind : Kind) → is_word (kind_text kind) ≡ true
kind_word Early = refl
kind_word Pooled = refl
kind_word Outboard = refl

pub device_kinds : Spells kind_of kind_text (λ kind. Unit {0})
device_kinds = record { again = λ kind f. kind_again kind; takes = kind_takes; word = λ kind f. kind_word kind }

semantics_again : (sem : Semantics) → semantics_of (semantics_text sem) ≡ Some sem
unfolding semantics_of
semantics_again Copy = refl
semantics_again EmulatedCopy = refl
semantics_again Share = refl
semantics_again EmulatedShare = refl
semantics_again Move = refl
semantics_again EmulatedMove = refl
semantics_again WeakMove = refl
semantics_again EmulatedWeakMove = refl

semantics_takes : (t : List ℕ) → Each (λ sem. t ≡ semantics_text sem) (semantics_of t)
unfolding semantics_of
semantics_takes t = λ sem e. same_text (semantics_text sem) t (find_passes (λ s. bytes_eq (semantics_text s) t) all_semantics sem e)

semantics_word : (sem : Semantics) → is_word (semantics_text sem) ≡ true
semantics_word Copy = refl
semantics_word EmulatedCopy = refl
semantics_word Share = refl
semantics_word EmulatedShare = refl
semantics_word Move = refl
semantics_word EmulatedMove = refl
semantics_word WeakMove = refl
semantics_word EmulatedWeakMove = refl

pub eight_semantics : Spells semantics_of semantics_text (λ sem. Unit {0})
eight_semantics = record { again = λ sem f. semantics_again sem; takes = semantics_takes; word = λ sem f. semantics_word sem }

mode_again : (writable : Bool) → mode_of (mode_text writable) ≡ Some writable
unfolding mode_of
mode_again true = refl
mode_again false = refl

mode_takes : (t : List ℕ) → Each (λ writable. t ≡ mode_text writable) (mode_of t)
unfolding mode_of
mode_takes t = each_either (bytes_eq t (codes "r")) _ _ (λ e. each_some _ false (sym (same_text t (codes "r") e))) (λ e. each_if _ (bytes_eq t (codes "rw")) _ (λ f. each_some _ true (sym (same_text t (codes "rw") f))))

mode_word : (writable : Bool) → is_word (mode_text writable) ≡ true
mode_word true = refl
mode_word false = refl

pub modes : Spells mode_of mode_text (λ writable. Unit {0})
modes = record { again = λ m f. mode_again m; takes = mode_takes; word = λ m f. mode_word m }

-- ---- names

pub name_parts : (t : List ℕ) → is_name t ≡ true → (list_all is_name_byte t ≡ true) × (bytes_eq t (codes "-") ≡ false) × (length t < 256)
unfolding is_name
name_parts t e =
    let all = of_both (ltb 0 (length t) && ltb (length t) 256 && list_all is_name_byte t) (not (bytes_eq t (codes "-"))) e in
    let visible = of_both (ltb 0 (length t) && ltb (length t) 256) (list_all is_name_byte t) all.0 in
    (visible.1, is_no (bytes_eq t (codes "-")) all.1, ltb-true (length t) 256 (of_both (ltb 0 (length t)) (ltb (length t) 256) visible.0).1)

pub visible_free : (c : ℕ) (t : List ℕ) → is_name_byte c ≡ false → list_all is_name_byte t ≡ true → is_free c t ≡ true
visible_free c [] f e = refl
visible_free c (b ∷ t) f e =
    let h = of_both (is_name_byte b) (list_all is_name_byte t) e in
    both _ _ (other is_name_byte c b h.0 f) (visible_free c t f h.1)

file_again : (file : Option (List ℕ)) → IsFile file → file_of (file_text file) ≡ Some file
unfolding file_of
file_again None f = refl
file_again (Some name) f = rw ((name_parts name f).1, f) refl

file_takes : (t : List ℕ) → Each (λ file. t ≡ file_text file) (file_of t)
unfolding file_of
file_takes t = each_either (bytes_eq t (codes "-")) _ _ (λ e. each_some _ None (sym (same_text t (codes "-") e))) (λ e. each_if _ (is_name t) _ (λ f. each_some _ (Some t) refl))

file_word : (file : Option (List ℕ)) → IsFile file → is_word (file_text file) ≡ true
file_word None f = refl
file_word (Some name) f = visible_free 32 name refl (name_parts name f).0

pub files : Spells file_of file_text IsFile
files = record { again = file_again; takes = file_takes; word = file_word }
