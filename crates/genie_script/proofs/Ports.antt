-- A port with its flow has one spelling.
use Rattle.std.proofs.Common.{◌≡◌, ℕ, ◌+◌, ◌^◌, ◌<◌, Bool, true, ltb, eqb, not, List, [], ◌∷◌, ◌++◌, length, take_all, drop, Option, Some, None, refl, sym, ap, ◌∙◌, eq-eqb, arith, decimal, inl, inr, append_assoc, length-append}
use Rattle.std.specs.Prelude.{IfSome}
use Rattle.std.specs.List.{position_or_len, before_first, after_first}
use Rattle.std.proofs.lemmas.Bool.{lt-ltb, le-ltb, eqb-true, cases_lt}
use Rattle.std.proofs.lemmas.List.{take_at, drop_at}
use Rattle.std.proofs.lemmas.List.Sums.{split_at_first, passes_at_first}
use Rattle.genie_script.specs.Words.{front, back}
use Rattle.genie_script.specs.Numbers.{number_of}
use Rattle.genie_script.specs.Names.{port_number, flow_of, port_of, port_text}
use Rattle.genie_script.specs.Laws.{IsNumber}
use Rattle.genie_script.proofs.Each.{Each, each_some, each_bind, each_if}
use Rattle.genie_script.proofs.Decimals.{number_again, number_takes, of_both, both}
use Rattle.genie_script.proofs.Spaced.{is_free, is_word}
use Rattle.genie_script.proofs.Spells.{Spells, decimal_free}

abbrev at : ℕ → List ℕ → ℕ
at c text = position_or_len (λ b. eqb b c) text

at_end : (c : ℕ) (w : List ℕ) → is_free c w ≡ true → at c w ≡ length w
at_end c [] e = refl
at_end c (b ∷ w) e =
    let t = of_both (not (eqb b c)) (is_free c w) e in
    rw (t.0, at_end c w t.1) (omega arith)

at_byte : (c : ℕ) (w rest : List ℕ) → is_free c w ≡ true → at c (w ++ c ∷ rest) ≡ length w
at_byte c [] rest e = rw (eq-eqb c c refl) refl
at_byte c (b ∷ w) rest e =
    let t = of_both (not (eqb b c)) (is_free c w) e in
    rw (t.0, at_byte c w rest t.1) (omega arith)

front_alone : (c : ℕ) (w : List ℕ) → is_free c w ≡ true → front c w ≡ w
unfolding front
front_alone c w e = rw (at_end c w e) (take_all (length w) w (omega arith))

back_alone : (c : ℕ) (w : List ℕ) → is_free c w ≡ true → back c w ≡ None
unfolding back
back_alone c w e = rw (at_end c w e, le-ltb (length w) (length w) (omega arith)) refl

front_then : (c : ℕ) (w rest : List ℕ) → is_free c w ≡ true → front c (w ++ c ∷ rest) ≡ w
unfolding front
front_then c w rest e = rw (at_byte c w rest e) (take_at w (c ∷ rest) (length w) refl)

back_then : (c : ℕ) (w rest : List ℕ) → is_free c w ≡ true → back c (w ++ c ∷ rest) ≡ Some rest
unfolding back
back_then c w rest e =
    let short : ltb (length w) (length (w ++ c ∷ rest)) ≡ true = lt-ltb _ _ (omega (arith, length-append w (c ∷ rest))) in
    let after : drop (length w + 1) (w ++ c ∷ rest) ≡ rest = ap (drop (length w + 1)) (sym (append_assoc w (c ∷ []) rest)) ∙ drop_at (w ++ c ∷ []) rest (length w + 1) (length-append w (c ∷ [])) in
    rw (at_byte c w rest e, short, after) refl

-- what was cut at a byte, joined again
abbrev joined : ℕ → List ℕ → Option (List ℕ) → List ℕ
joined c w None = w
joined c w (Some rest) = w ++ c ∷ rest

joined_is : (c : ℕ) (text : List ℕ) → text ≡ joined c (front c text) (back c text)
unfolding front back
joined_is c text =
    let p : ℕ → Bool = λ b. eqb b c in
    elim (cases_lt (position_or_len p text) (length text)) [
      | inl lt ↦ rw (lt-ltb _ _ lt) (split_at_first p text 0 lt ∙ ap (λ b. before_first p text ++ b ∷ after_first p text) (eqb-true _ _ (passes_at_first p text 0 lt)))
      | inr le ↦ rw (le-ltb _ _ le) (sym (take_all (position_or_len p text) text le))
    ]

port_number_again : (n : ℕ) → n < 2 ^ 16 → port_number (decimal n) ≡ Some n
unfolding port_number
port_number_again n lt = rw (number_again n (omega arith), lt-ltb n 65536 lt) refl

port_number_takes : (text : List ℕ) → Each (λ n. text ≡ decimal n) (port_number text)
unfolding port_number
port_number_takes text = each_bind _ (number_of text) _ (λ n e. each_if _ (ltb n 65536) _ (λ lt. each_some _ n (number_takes text n e).0))

flow_takes : (text : Option (List ℕ)) → Each (λ flow. (w : List ℕ) (n : ℕ) → w ≡ decimal n → joined 46 w text ≡ port_text n flow) (flow_of text)
unfolding flow_of
flow_takes None = each_some _ None (λ w n e. e)
flow_takes (Some text) = each_bind _ (number_of text) _ (λ m f. each_some _ (Some m) (λ w n e. rw (e, (number_takes text m f).0) refl))

port_takes : (text : List ℕ) → Each (λ p. text ≡ port_text p.0 p.1) (port_of text)
unfolding port_of
port_takes text =
    each_bind _ (port_number (front 46 text)) _ (λ port e.
    each_bind _ (flow_of (back 46 text)) _ (λ flow f.
    each_some _ (port, flow) (joined_is 46 text ∙ flow_takes (back 46 text) flow f (front 46 text) port (port_number_takes (front 46 text) port e))))

abbrev pub IsPort : ℕ × Option ℕ → Type 0
IsPort p = (p.0 < 2 ^ 16) × IfSome p.1 IsNumber

port_again : (port : ℕ) (flow : Option ℕ) → port < 2 ^ 16 → IfSome flow IsNumber → port_of (port_text port flow) ≡ Some (port, flow)
unfolding port_of flow_of
port_again port None lt f =
    let free = decimal_free 46 port refl (omega (arith, lt)) in
    rw (front_alone 46 (decimal port) free, back_alone 46 (decimal port) free, port_number_again port lt) refl
port_again port (Some flow) lt f =
    let free = decimal_free 46 port refl (omega (arith, lt)) in
    rw (front_then 46 (decimal port) (decimal flow) free, back_then 46 (decimal port) (decimal flow) free, port_number_again port lt, number_again flow f) refl

pub free_append : (c : ℕ) (v w : List ℕ) → is_free c v ≡ true → is_free c w ≡ true → is_free c (v ++ w) ≡ true
free_append c [] w e f = f
free_append c (b ∷ v) w e f =
    let t = of_both (not (eqb b c)) (is_free c v) e in
    both _ _ t.0 (free_append c v w t.1 f)

port_word : (port : ℕ) (flow : Option ℕ) → port < 2 ^ 16 → IfSome flow IsNumber → is_word (port_text port flow) ≡ true
port_word port None lt f = decimal_free 32 port refl (omega (arith, lt))
port_word port (Some flow) lt f = free_append 32 (decimal port) (46 ∷ decimal flow) (decimal_free 32 port refl (omega (arith, lt))) (both _ _ refl (decimal_free 32 flow refl f))

pub ports : Spells port_of (λ p. port_text p.0 p.1) IsPort
ports = record {
  again = λ p f. port_again p.0 p.1 f.0 f.1;
  takes = port_takes;
  word = λ p f. port_word p.0 p.1 f.0 f.1;
}
