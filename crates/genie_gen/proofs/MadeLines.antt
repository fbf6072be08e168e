-- The made script says what its lines say.
use Rattle.std.proofs.Common.{◌≡◌, ℕ, zero, suc, ◌+◌, ◌<◌, ◌≤◌, List, [], ◌∷◌, ◌++◌, length, map, append_assoc, codes, refl, ap, sym, ◌∙◌, arith}
use Rattle.std.specs.Prelude.{Some}
use Rattle.std.specs.Fmt.{digits}
use Rattle.std.specs.List.{flat_map}
use Rattle.std.proofs.lemmas.Bool.{le-ltb, lt-leb}
use Rattle.std.proofs.lemmas.Grind.{flat_map-append}
use Rattle.genie_base.specs.declared.event.Event.{Event}
use Rattle.genie_script.specs.Judge.{Booted, boot_part, ending_from, event_judged, events_from}
use Rattle.genie_script.specs.Laws.{LinesAreReadAgain, SpellingsAreLines, SpellingsAreShort}
use Rattle.genie_script.specs.Lines.{line_of}
use Rattle.genie_script.specs.Names.{is_name}
use Rattle.genie_script.specs.Spelling.{event_words, line_text, line_words}
use Rattle.genie_script.specs.Texts.{lines_of}
use Rattle.genie_script.specs.Words.{front}
use Rattle.genie_script.specs.declared.judge.Ending.TheVariants.{End}
use Rattle.genie_script.specs.declared.judge.Judged.TheVariants.{Taken}
use Rattle.genie_script.specs.declared.line.Line.TheVariants as line
use Rattle.genie_gen.specs.Draws.{after, round_of}
use Rattle.genie_gen.specs.Rounds.{ended, event_line, head_text, round_events, rounds_text, script_text}
use Rattle.genie_gen.specs.Scripts.{MadeScriptsAreWhole, early_device, made_events, made_lines, made_part, numbered, outboard_device, pooled_device, rounds_events, spelled}
use Rattle.genie_gen.proofs.MadeEvents.{AreSpelled, IsSpelled, events_number, events_spelled}

abbrev text_of : Event → List ℕ
text_of e = line_text (line.Event e)

-- ---- events, a line each

lines_are : SpellingsAreLines → (es : List Event) → AreSpelled es → lines_of (flat_map event_line es) ≡ map text_of es
lines_are lines [] s = refl
lines_are lines (e ∷ es) s =
    ap lines_of (append_assoc (text_of e) (10 ∷ []) (flat_map event_line es))
    ∙ lines (line.Event e) s.each.0.fits (flat_map event_line es)
    ∙ ap (λ t. text_of e ∷ t) (lines_are lines es (record { each = s.each.1 }))

said : LinesAreReadAgain → SpellingsAreShort → (e : Event) (before : ℕ) → IsSpelled e → before < 1000000 → event_judged before (text_of e) ≡ Taken e
said again short e before s lt =
    rw (le-ltb 8300 (length (text_of e)) (short (line.Event e) s.fits), lt-leb 1000000 before lt, again (line.Event e) s.fits s.whole) refl

events_are : LinesAreReadAgain → SpellingsAreShort → (es : List Event) (before : ℕ) → AreSpelled es → before + length es ≤ 1000000 → events_from before (map text_of es) ≡ numbered before es
events_are again short [] before s le = refl
events_are again short (e ∷ es) before s le =
    rw (said again short e before s.each.0 (omega (arith, le))) (ap (λ t. (before + 1, e) ∷ t) (events_are again short es (before + 1) (record { each = s.each.1 }) (omega (arith, le))))

ending_is : LinesAreReadAgain → SpellingsAreShort → (es : List Event) (before : ℕ) → AreSpelled es → before + length es ≤ 1000000 → ending_from before (map text_of es) ≡ End
ending_is again short [] before s le = refl
ending_is again short (e ∷ es) before s le =
    rw (said again short e before s.each.0 (omega (arith, le))) (ending_is again short es (before + 1) (record { each = s.each.1 }) (omega (arith, le)))

-- ---- the rounds as events

rounds_are : (x i n : ℕ) → rounds_text x i n ≡ flat_map event_line (rounds_events x i n)
rounds_are x i zero = refl
rounds_are x i (suc n) =
    ap (λ t. flat_map event_line (round_events (round_of x) i) ++ t) (rounds_are (after 13 x) (i + 1) n)
    ∙ sym (flat_map-append event_line (round_events (round_of x) i) (rounds_events (after 13 x) (i + 1) n))

-- ---- the first lines

-- the boot line and the device lines
abbrev boot_text : List ℕ
boot_text = codes "boot 16 64 128 16 8"

abbrev early_text : List ℕ
early_text = codes "device 0 early i0 o0 1 0"

abbrev pooled_text : List ℕ
pooled_text = codes "device 1 pooled i1 o1 1 5"

abbrev outboard_text : List ℕ
outboard_text = codes "device 2 outboard i2 o2 2 0"

boot_is : line_text (line.Boot 16 64 128 16 8) ≡ boot_text
unfolding line_words digits
boot_is = refl

early_is : line_text (line.Device early_device) ≡ early_text
unfolding line_words digits
early_is = refl

pooled_is : line_text (line.Device pooled_device) ≡ pooled_text
unfolding line_words digits
pooled_is = refl

outboard_is : line_text (line.Device outboard_device) ≡ outboard_text
unfolding line_words digits
outboard_is = refl

script_is : (seed rounds : ℕ) → script_text seed rounds ≡ ended boot_text ++ ended early_text ++ ended pooled_text ++ ended outboard_text ++ flat_map event_line (made_events seed rounds)
unfolding head_text line_words event_words made_events digits
script_is seed rounds = ap (λ t. head_text ++ t) (rounds_are seed 0 rounds)

event_lines : (es : List Event) → flat_map spelled (map line.Event es) ≡ flat_map event_line es
event_lines [] = refl
event_lines (e ∷ es) = ap (λ t. event_line e ++ t) (event_lines es)

spelling_is : (seed rounds : ℕ) → script_text seed rounds ≡ flat_map spelled (made_lines seed rounds)
unfolding line_words digits
spelling_is seed rounds =
    script_is seed rounds
    ∙ ap (λ t. ended boot_text ++ ended early_text ++ ended pooled_text ++ ended outboard_text ++ t) (sym (event_lines (made_events seed rounds)))

lines_is : SpellingsAreLines → (seed rounds : ℕ) → rounds ≤ 30000 → lines_of (script_text seed rounds) ≡ boot_text ∷ early_text ∷ pooled_text ∷ outboard_text ∷ map text_of (made_events seed rounds)
lines_is lines seed rounds le =
    ap lines_of (script_is seed rounds)
    ∙ ap (λ t. boot_text ∷ early_text ∷ pooled_text ∷ outboard_text ∷ t) (lines_are lines (made_events seed rounds) (events_spelled seed rounds le))

-- ---- the boot part

boot_line : LinesAreReadAgain → line_of boot_text ≡ Some (line.Boot 16 64 128 16 8)
boot_line again = ap line_of (sym boot_is) ∙ again (line.Boot 16 64 128 16 8) (omega arith, omega arith, omega arith, omega arith, omega arith) refl

early_line : LinesAreReadAgain → line_of early_text ≡ Some (line.Device early_device)
unfolding is_name
early_line again = ap line_of (sym early_is) ∙ again (line.Device early_device) (record { number = omega arith; input = refl; output = refl; depth = omega arith; offset = omega arith }) refl

pooled_line : LinesAreReadAgain → line_of pooled_text ≡ Some (line.Device pooled_device)
unfolding is_name
pooled_line again = ap line_of (sym pooled_is) ∙ again (line.Device pooled_device) (record { number = omega arith; input = refl; output = refl; depth = omega arith; offset = omega arith }) refl

outboard_line : LinesAreReadAgain → line_of outboard_text ≡ Some (line.Device outboard_device)
unfolding is_name
outboard_line again = ap line_of (sym outboard_is) ∙ again (line.Device outboard_device) (record { number = omega arith; input = refl; output = refl; depth = omega arith; offset = omega arith }) refl

booted_is : LinesAreReadAgain → (seed rounds : ℕ) → boot_part (codes "made") 0 (boot_text ∷ early_text ∷ pooled_text ∷ outboard_text ∷ map text_of (made_events seed rounds)) ≡ Booted made_part 4 (map text_of (made_events seed rounds))
unfolding front line_words event_words made_events digits
booted_is again seed rounds = rw (boot_line again, early_line again, pooled_line again, outboard_line again) refl

-- ---- the whole script

pub whole : LinesAreReadAgain → SpellingsAreLines → SpellingsAreShort → MadeScriptsAreWhole
whole again lines short seed rounds le =
    let spelled_all = events_spelled seed rounds le in
    let few : 4 + length (made_events seed rounds) ≤ 1000000 = omega (arith, events_number seed rounds, le) in
    record {
      spelling = spelling_is seed rounds;
      lines = map text_of (made_events seed rounds);
      booted = ap (boot_part (codes "made") 0) (lines_is lines seed rounds le) ∙ booted_is again seed rounds;
      events = events_are again short (made_events seed rounds) 4 spelled_all few;
      ending = ending_is again short (made_events seed rounds) 4 spelled_all few;
    }
