-- Two lines that are alike say alike.
use Rattle.std.proofs.Common.{◌≡◌, ℕ, ◌≤◌, ◌⊎◌, inl, inr, true, false, cond, List, [], ◌∷◌, length, Option, Some, None, refl, sym, ap, ◌∙◌, subst, arith}
use Rattle.std.specs.Prelude.{option_map, codes, nat_lt, ⊤}
use Rattle.std.proofs.lemmas.Bool.{le-ltb}
use Rattle.std.proofs.lemmas.Bool.Decides.{nat_tests}
use Rattle.std.proofs.lemmas.List.Splits.{join_with_byte-slice_split}
use Rattle.genie_base.specs.declared.event.Event.{Event}
use Rattle.genie_laws.specs.Laws.{basic_event}
use Rattle.genie_script.specs.declared.judge.BootLine.{BootLine}
use Rattle.genie_script.specs.declared.line.Line.{Line}
use Rattle.genie_script.specs.declared.line.Line.TheVariants as line
use Rattle.genie_script.specs.Judge.{boot_fits, is_device_text}
use Rattle.genie_script.specs.Laws.{FitsLine, LinesAreReadAgain, SpellingsAreShort}
use Rattle.genie_script.specs.Lines.{keyword_of, fields_of, event_of, output_of, input_of, is_blank, line_of}
use Rattle.genie_script.specs.Spelling.{line_words, spaced, line_text}
use Rattle.genie_script.specs.Words.{◌>>=◌, words, word_at, front}
use Rattle.genie_runs.specs.Texts.{LinesAlike, AreAlike, SameBoot, SameCall, boot_line, other_boot}
use Rattle.genie_runs.proofs.Levels.{outputs_alike, inputs_alike}

-- two events that differ in nothing but whether their calls are emulated
pub record BothEvents (o p : Option Line) : Type 0 where
  pub event : Event
  pub other : Event
  pub is : o ≡ Some (line.Event event)
  pub other_is : p ≡ Some (line.Event other)
  pub level : basic_event other ≡ basic_event event

-- two boot lines that keep the limits, with other thresholds
pub record BothBoots (o p : Option Line) : Type 0 where
  pub boot : BootLine
  pub out : ℕ
  pub back : ℕ
  pub is : o ≡ Some (boot_line boot)
  pub other_is : p ≡ Some (boot_line (other_boot boot out back))
  pub fits : boot_fits boot ≡ true
  pub other_fits : boot_fits (other_boot boot out back) ≡ true

abbrev pub SaidAlike : Option Line → Option Line → Type 0
SaidAlike o p = (p ≡ o) ⊎ BothBoots o p ⊎ BothEvents o p

-- all that counts of two lines
pub record LinesSay (text other : List ℕ) : Type 0 where
  pub said : SaidAlike (line_of text) (line_of other)
  pub long : nat_lt 8300 (length other) ≡ nat_lt 8300 (length text)
  pub device : is_device_text other ≡ is_device_text text

abbrev pub AllSay : List (List ℕ) → List (List ℕ) → Type 0
AllSay [] [] = ⊤
AllSay [] (other ∷ others) = ⊥
AllSay (text ∷ lines) [] = ⊥
AllSay (text ∷ lines) (other ∷ others) = LinesSay text other × AllSay lines others

-- ---- calls

-- a text is its words, with spaces
is_spaced : (text : List ℕ) (ws : List (List ℕ)) → words text ≡ ws → text ≡ spaced ws
unfolding words
is_spaced text ws e = sym (join_with_byte-slice_split 32 text) ∙ ap spaced e

abbrev read : List (List ℕ) → Option Line
read ws = word_at ws >>= λ word. keyword_of word.0 >>= λ keyword. fields_of keyword word.1

line_read : (text : List ℕ) (ws : List (List ℕ)) → is_blank text ≡ false → words text ≡ ws → line_of text ≡ read ws
unfolding line_of
line_read text ws e f = ap (λ b. cond b (Some line.Blank) (read (words text))) e ∙ ap read f

output_line : (text pid sem : List ℕ) (rest : List (List ℕ)) → words text ≡ codes "out" ∷ pid ∷ sem ∷ rest → line_of text ≡ option_map line.Event (output_of (pid ∷ sem ∷ rest))
unfolding keyword_of fields_of event_of
output_line text pid sem rest e = line_read text (codes "out" ∷ pid ∷ sem ∷ rest) (ap is_blank (is_spaced text _ e)) e

input_line : (text pid sem : List ℕ) (rest : List (List ℕ)) → words text ≡ codes "in" ∷ pid ∷ sem ∷ rest → line_of text ≡ option_map line.Event (input_of (pid ∷ sem ∷ rest))
unfolding keyword_of fields_of event_of
input_line text pid sem rest e = line_read text (codes "in" ∷ pid ∷ sem ∷ rest) (ap is_blank (is_spaced text _ e)) e

-- such a line is none of the device part
output_text : (text pid sem : List ℕ) (rest : List (List ℕ)) → words text ≡ codes "out" ∷ pid ∷ sem ∷ rest → is_device_text text ≡ false
unfolding front
output_text text pid sem rest e = ap is_device_text (is_spaced text _ e)

input_text : (text pid sem : List ℕ) (rest : List (List ℕ)) → words text ≡ codes "in" ∷ pid ∷ sem ∷ rest → is_device_text text ≡ false
unfolding front
input_text text pid sem rest e = ap is_device_text (is_spaced text _ e)

both_said : (o p : Option Event) → option_map basic_event p ≡ option_map basic_event o → SaidAlike (option_map line.Event o) (option_map line.Event p)
both_said None None e = inl refl
both_said None (Some f) e = absurd cc
both_said (Some d) None e = absurd cc
both_said (Some d) (Some f) e =
    let same : Some (basic_event f) ≡ Some (basic_event d) = e in
    inr (inr (record { event = d; other = f; is = refl; other_is = refl; level = cc }))

pub both : {X : Type 0} (P : X → X → Type 0) {a b c d : X} → a ≡ c → b ≡ d → P c d → P a b
both P {a} {b} {c} {d} e f p = subst (λ x. P x b) (sym e) (subst (P c) (sym f) p)

-- the word of a call, put in front
begun : (ws : List (List ℕ)) (word first : List ℕ) (rest : List (List ℕ)) → ws ≡ word ∷ rest → word ≡ first → ws ≡ first ∷ rest
begun ws word first rest e f = e ∙ ap (λ w. w ∷ rest) f

calls_say : (text other : List ℕ) → SameCall text other → LinesSay text other
calls_say text other c =
    let long : nat_lt 8300 (length other) ≡ nat_lt 8300 (length text) = le-ltb 8300 (length other) c.other_short ∙ sym (le-ltb 8300 (length text) c.short) in
    elim c.call [
      | inl out ↦
          let one : words text ≡ codes "out" ∷ c.pid ∷ c.sem ∷ c.rest = begun _ c.word (codes "out") _ c.is out in
          let two : words other ≡ codes "out" ∷ c.pid ∷ c.changed ∷ c.rest = begun _ c.word (codes "out") _ c.other_is out in
          record {
            said = both SaidAlike (output_line text c.pid c.sem c.rest one) (output_line other c.pid c.changed c.rest two) (both_said (output_of (c.pid ∷ c.sem ∷ c.rest)) (output_of (c.pid ∷ c.changed ∷ c.rest)) (outputs_alike c.pid c.sem c.changed c.rest c.level));
            long = long;
            device = output_text other c.pid c.changed c.rest two ∙ sym (output_text text c.pid c.sem c.rest one);
          }
      | inr into ↦
          let one : words text ≡ codes "in" ∷ c.pid ∷ c.sem ∷ c.rest = begun _ c.word (codes "in") _ c.is into in
          let two : words other ≡ codes "in" ∷ c.pid ∷ c.changed ∷ c.rest = begun _ c.word (codes "in") _ c.other_is into in
          record {
            said = both SaidAlike (input_line text c.pid c.sem c.rest one) (input_line other c.pid c.changed c.rest two) (both_said (input_of (c.pid ∷ c.sem ∷ c.rest)) (input_of (c.pid ∷ c.changed ∷ c.rest)) (inputs_alike c.pid c.sem c.changed c.rest c.level));
            long = long;
            device = input_text other c.pid c.changed c.rest two ∙ sym (input_text text c.pid c.sem c.rest one);
          }
    ]

-- ---- boot lines

boot_numbers : (b : BootLine) → boot_fits b ≡ true → FitsLine (boot_line b)
boot_numbers b t =
    let page : b.page ≤ 4096 = grind (arith, nat_tests, t) in
    let frames : b.frames ≤ 4096 = grind (arith, nat_tests, t) in
    let slots : b.slots ≤ 8192 = grind (arith, nat_tests, t) in
    let out : b.cout ≤ 65536 = grind (arith, nat_tests, t) in
    let back : b.rcout ≤ 4096 = grind (arith, nat_tests, t) in
    (omega arith, omega arith, omega arith, omega arith, omega arith)

boot_text : (b : BootLine) → is_device_text (line_text (boot_line b)) ≡ false
unfolding line_words front
boot_text b = refl

boots_say : LinesAreReadAgain → SpellingsAreShort → (text other : List ℕ) → SameBoot text other → LinesSay text other
boots_say again short text other b =
    let one = boot_numbers b.boot b.fits in
    let two = boot_numbers (other_boot b.boot b.out b.back) b.other_fits in
    record {
      said = inr (inl (record {
        boot = b.boot;
        out = b.out;
        back = b.back;
        is = ap line_of b.is ∙ again (boot_line b.boot) one refl;
        other_is = ap line_of b.other_is ∙ again (boot_line (other_boot b.boot b.out b.back)) two refl;
        fits = b.fits;
        other_fits = b.other_fits;
      }));
      long = ap (λ t. nat_lt 8300 (length t)) b.other_is ∙ le-ltb 8300 _ (short (boot_line (other_boot b.boot b.out b.back)) two) ∙ sym (le-ltb 8300 _ (short (boot_line b.boot) one)) ∙ sym (ap (λ t. nat_lt 8300 (length t)) b.is);
      device = ap is_device_text b.other_is ∙ boot_text (other_boot b.boot b.out b.back) ∙ sym (boot_text b.boot) ∙ sym (ap is_device_text b.is);
    }

lines_say : LinesAreReadAgain → SpellingsAreShort → (text other : List ℕ) → LinesAlike text other → LinesSay text other
lines_say again short text other (inl e) = record { said = inl (ap line_of e); long = ap (λ t. nat_lt 8300 (length t)) e; device = ap is_device_text e }
lines_say again short text other (inr (inl b)) = boots_say again short text other b
lines_say again short text other (inr (inr c)) = calls_say text other c

pub all_say : LinesAreReadAgain → SpellingsAreShort → (lines others : List (List ℕ)) → AreAlike lines others → AllSay lines others
all_say again short [] [] h = tt
all_say again short [] (other ∷ others) h = h
all_say again short (text ∷ lines) [] h = h
all_say again short (text ∷ lines) (other ∷ others) h = (lines_say again short text other h.0, all_say again short lines others h.1)
