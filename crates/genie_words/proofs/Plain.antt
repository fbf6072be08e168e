-- Words that do not begin with a hyphen.
use Rattle.std.proofs.Common.{◌≡◌, ℕ, ◌<◌, List, [], ◌∷◌, length, map, refl, ◌∙◌, true, false, not, ◌&&◌, arith, zero, suc}
use Rattle.std.specs.Prelude.{Result, Ok, Err, OnOk, Bool, ◌==◌}
use Rattle.std.specs.List.{All, list_all}
use Rattle.std.proofs.lemmas.List.{length-map}
use Rattle.std.proofs.lemmas.List.Folds.{list_all-map}
use Rattle.clap.specs.Words.{Text}
use Rattle.genie_words.specs.Shapes.{IsPlain, is_plain, has_shape, is_asked}

no_hyphen : (b : ℕ) (rest : Text) → (b == 45) ≡ false → IsPlain (b ∷ rest)
no_hyphen b rest e = record { minus = simp e; dashes = simp e }

plain_is : (w : Text) → is_plain w ≡ true → IsPlain w
plain_is [] h = record { minus = refl; dashes = refl }
plain_is (b ∷ rest) h = no_hyphen b rest (elim (b == 45) as (λ t. not t ≡ true → t ≡ false) [ true ↦ λ k. let g : false ≡ true = k in cc | false ↦ λ k. refl ] h)

and_left : (a b : Bool) → (a && b) ≡ true → a ≡ true
and_left true b h = refl
and_left false b h = h

and_right : (a b : Bool) → (a && b) ≡ true → b ≡ true
and_right true b h = h
and_right false b h = let g : false ≡ true = h in cc

pub all_plain : (words : List Text) → list_all is_plain words ≡ true → All IsPlain words
all_plain [] h k d less = absurd (omega arith)
all_plain (w ∷ words) h zero d less = plain_is w (and_left (is_plain w) (list_all is_plain words) h)
all_plain (w ∷ words) h (suc k) d less = all_plain words (and_right (is_plain w) (list_all is_plain words) h) k d (omega arith)

pub long_form : (words : List Text) → 3 < length words → has_shape words ≡ false
long_form [] h = absurd (omega arith)
long_form (n ∷ []) h = absurd (omega arith)
long_form (n ∷ w ∷ []) h = absurd (omega arith)
long_form (n ∷ w ∷ x ∷ []) h = absurd (omega arith)
long_form (n ∷ w ∷ x ∷ y ∷ rest) h = refl

and_false : (a b : Bool) → b ≡ false → (a && b) ≡ false
and_false true b h = h
and_false false b h = refl

pub long_unasked : {A : Type 0} (text : A → Text) (words : List A) → 3 < length words → is_asked (map text words) ≡ false
long_unasked text words h = and_false (list_all is_plain (map text words)) (has_shape (map text words)) (long_form (map text words) (rw length-map h))

pub unformed : (words : List Text) → has_shape words ≡ false → is_asked words ≡ false
unformed words h = and_false (list_all is_plain words) (has_shape words) h

pub plain_texts : {A : Type 0} (text : A → Text) (words : List A) → list_all (λ w. is_plain (text w)) words ≡ true → All IsPlain (map text words)
plain_texts text words h = all_plain (map text words) (list_all-map is_plain text words ∙ h)

pub unplain_unasked : {A : Type 0} (text : A → Text) (words : List A) → list_all (λ w. is_plain (text w)) words ≡ false → is_asked (map text words) ≡ false
unplain_unasked text words h = let e : list_all is_plain (map text words) ≡ false = list_all-map is_plain text words ∙ h in rw e refl

pub on_ok : {T E P : Type 0} (r : Result T E) → P → OnOk r P
on_ok (Ok x) p = p
on_ok (Err e) p = tt

pub plain_passes : {A : Type 0} (text : A → Text) (words : List A) → list_all (λ w. is_plain (text w)) words ≡ true → list_all is_plain (map text words) ≡ true
plain_passes text words h = list_all-map is_plain text words ∙ h
