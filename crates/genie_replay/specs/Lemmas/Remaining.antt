-- What is left of the script, while its lines are taken one by one.
use Rattle.std.proofs.Common.{◌≡◌, ℕ, ◌+◌, ◌<◌, ◌≤◌, true, false, List, [], ◌∷◌, ◌++◌, refl, ap, sym, ◌∙◌, append_assoc, append-nil, length, arith}
use Rattle.std.specs.Prelude.{Option, Some, None, Ok}
use Rattle.std.proofs.lemmas.Bool.Decides.{nat_tests}
use Rattle.genie_base.specs.declared.event.Event.{Event}
use Rattle.genie_script.specs.Judge.{Numbered, ending_from, event_said, events_from, is_long}
use Rattle.genie_script.specs.Lines.{line_of}
use Rattle.genie_script.specs.Texts.{lines_of}
use Rattle.genie_script.specs.declared.judge.Ending.{Ending}
use Rattle.genie_script.specs.declared.judge.Ending.TheVariants as ending
use Rattle.genie_script.specs.declared.judge.Judged.TheVariants.{Passed, Taken, Ends}
use Rattle.genie_replay.specs.declared.script.LineStep.{LineStep}
use Rattle.genie_replay.specs.declared.script.LineStep.TheVariants.{Line, End, TooLong}
use Rattle.genie_replay.specs.Lines.{IsPending, TakesLine}

pub not_long : (before : ℕ) (line : List ℕ) → before < 1000000 → length line ≤ 8300 → is_long before line ≡ false
not_long before line few short = grind (arith, nat_tests)

pub long_bytes : (before : ℕ) (line : List ℕ) → 8300 < length line → is_long before line ≡ true
long_bytes before line over = grind (arith, nat_tests)

pub long_number : (before : ℕ) (line : List ℕ) → 1000000 ≤ before → is_long before line ≡ true
long_number before line over = grind (arith, nat_tests)

-- the events of all lines are those that are done and those of the lines that are left, and the endings are one
pub record Remains (before : ℕ) (lines : List (List ℕ)) (done : List Numbered) (at : ℕ) (now : List (List ℕ)) : Type 0 where
  pub events : events_from before lines ≡ done ++ events_from at now
  pub ending : ending_from before lines ≡ ending_from at now

-- behind a line that was taken: the lines of the text are left
abbrev pub LeftText : Option (List ℕ) → Option (List ℕ) → LineStep → List ℕ → ℕ → ℕ → List Numbered → Type 0
LeftText None rest step line before at done = Unit {0}
LeftText (Some text) None step line before at done = ⊥
LeftText (Some text) (Some rest) step line before at done = (lines : List (List ℕ)) → IsPending lines step line text → Remains before lines done at (lines_of rest)

-- the first of the lines that are left was read
pub record Reads (before : ℕ) (lines : List (List ℕ)) (done : List Numbered) (at : ℕ) (step : LineStep) (line rest : List ℕ) : Type 0 where
  pub now : List (List ℕ)
  pub pending : IsPending now step line rest
  pub remains : Remains before lines done at now

abbrev pub LeftLine : Option (List ℕ) → Option (List ℕ) → LineStep → List ℕ → LineStep → List ℕ → ℕ → ℕ → List Numbered → Type 0
LeftLine None rest first text_line step line before at done = Unit {0}
LeftLine (Some text) None first text_line step line before at done = ⊥
LeftLine (Some text) (Some rest) first text_line step line before at done = (lines : List (List ℕ)) → IsPending lines first text_line text → Reads before lines done at step line rest

pub left_none : (text : Option (List ℕ)) (step : LineStep) (line : List ℕ) (before : ℕ) → LeftLine text text step line step line before before []
left_none None step line before = tt
left_none (Some text) step line before = λ lines pending. record { now = lines; pending = pending; remains = record { events = refl; ending = refl } }

pub left_read : (E : Type 0) (text p q : Option (List ℕ)) (first : LineStep) (text_line : List ℕ) (step : LineStep) (line : List ℕ) (before at : ℕ) (done : List Numbered) → TakesLine {E = E} p q (Ok step) line → LeftText text p first text_line before at done → LeftLine text q first text_line step line before at done
left_read E None p q first text_line step line before at done t l = tt
left_read E (Some text) None q first text_line step line before at done t l = absurd l
left_read E (Some text) (Some p) None first text_line step line before at done t l = absurd t
left_read E (Some text) (Some p) (Some q) first text_line step line before at done t l = λ lines pending. record { now = lines_of p; pending = t; remains = l lines pending }

remains_more : (before : ℕ) (lines : List (List ℕ)) (done more : List Numbered) (at next : ℕ) (now rest : List (List ℕ)) → Remains before lines done at now → events_from at now ≡ more ++ events_from next rest → ending_from at now ≡ ending_from next rest → Remains before lines (done ++ more) next rest
remains_more before lines done more at next now rest r e f = record { events = r.events ∙ ap (λ l. done ++ l) e ∙ sym (append_assoc done more (events_from next rest)); ending = r.ending ∙ f }

pub left_passed : (text p : Option (List ℕ)) (first : LineStep) (text_line line : List ℕ) (before at : ℕ) (done : List Numbered) → at < 1000000 → LeftLine text p first text_line Line line before at done → Passed ≡ event_said at (line_of line) → LeftText text p first text_line before (at + 1) done
left_passed None p first text_line line before at done few l said = tt
left_passed (Some text) None first text_line line before at done few l said = absurd l
left_passed (Some text) (Some p) first text_line line before at done few l said = λ lines pending.
    let r = l lines pending in
    let short : is_long at line ≡ false = not_long at line few r.pending.1 in
    record {
      events = r.remains.events ∙ ap (λ n. done ++ events_from at n) r.pending.0 ∙ rw (short, ← said) refl;
      ending = r.remains.ending ∙ ap (ending_from at) r.pending.0 ∙ rw (short, ← said) refl;
    }

pub left_taken : (text p : Option (List ℕ)) (first : LineStep) (text_line line : List ℕ) (before at : ℕ) (done : List Numbered) (e : Event) → at < 1000000 → LeftLine text p first text_line Line line before at done → Taken e ≡ event_said at (line_of line) → LeftText text p first text_line before (at + 1) (done ++ (at + 1, e) ∷ [])
left_taken None p first text_line line before at done e few l said = tt
left_taken (Some text) None first text_line line before at done e few l said = absurd l
left_taken (Some text) (Some p) first text_line line before at done e few l said = λ lines pending.
    let r = l lines pending in
    let short : is_long at line ≡ false = not_long at line few r.pending.1 in
    remains_more before lines done ((at + 1, e) ∷ []) at (at + 1) r.now (lines_of p) r.remains
    (ap (events_from at) r.pending.0 ∙ rw (short, ← said) refl)
    (ap (ending_from at) r.pending.0 ∙ rw (short, ← said) refl)

-- no event is left, and the script ends so
abbrev pub NoneLeft : Option (List ℕ) → LineStep → List ℕ → ℕ → List Numbered → Ending → Type 0
NoneLeft None step line before done e = Unit {0}
NoneLeft (Some text) step line before done e = (lines : List (List ℕ)) → IsPending lines step line text → (events_from before lines ≡ done) × (ending_from before lines ≡ e)

none_left : (before : ℕ) (lines : List (List ℕ)) (done : List Numbered) (at : ℕ) (now : List (List ℕ)) (e : Ending) → Remains before lines done at now → events_from at now ≡ [] → ending_from at now ≡ e → (events_from before lines ≡ done) × (ending_from before lines ≡ e)
none_left before lines done at now e r none is = (r.events ∙ ap (λ l. done ++ l) none ∙ append-nil done, r.ending ∙ is)

pub left_end : (text p : Option (List ℕ)) (first : LineStep) (text_line line : List ℕ) (before at : ℕ) (done : List Numbered) → LeftLine text p first text_line End line before at done → NoneLeft text first text_line before done ending.End
left_end None p first text_line line before at done l = tt
left_end (Some text) None first text_line line before at done l = absurd l
left_end (Some text) (Some p) first text_line line before at done l = λ lines pending.
    let r = l lines pending in
    none_left before lines done at r.now ending.End r.remains (ap (events_from at) r.pending) (ap (ending_from at) r.pending)

over_events : (at : ℕ) (line : List ℕ) (more : List (List ℕ)) → is_long at line ≡ true → events_from at (line ∷ more) ≡ []
over_events at line more over = rw over refl

over_ending : (at : ℕ) (line : List ℕ) (more : List (List ℕ)) → is_long at line ≡ true → ending_from at (line ∷ more) ≡ ending.TooLong
over_ending at line more over = rw over refl

pub left_long : (text p : Option (List ℕ)) (first : LineStep) (text_line line : List ℕ) (before at : ℕ) (done : List Numbered) → LeftLine text p first text_line TooLong line before at done → NoneLeft text first text_line before done ending.TooLong
left_long None p first text_line line before at done l = tt
left_long (Some text) None first text_line line before at done l = absurd l
left_long (Some text) (Some p) first text_line line before at done l = λ lines pending.
    let r = l lines pending in
    let long = r.pending in
    let over : is_long at long.0 ≡ true = long_bytes at long.0 long.3 in
    none_left before lines done at r.now ending.TooLong r.remains (ap (events_from at) long.2 ∙ over_events at long.0 long.1 over) (ap (ending_from at) long.2 ∙ over_ending at long.0 long.1 over)

pub left_many : (text p : Option (List ℕ)) (first : LineStep) (text_line line : List ℕ) (before at : ℕ) (done : List Numbered) → 1000000 ≤ at → LeftLine text p first text_line Line line before at done → NoneLeft text first text_line before done ending.TooLong
left_many None p first text_line line before at done many l = tt
left_many (Some text) None first text_line line before at done many l = absurd l
left_many (Some text) (Some p) first text_line line before at done many l = λ lines pending.
    let r = l lines pending in
    let over : is_long at line ≡ true = long_number at line many in
    none_left before lines done at r.now ending.TooLong r.remains (ap (events_from at) r.pending.0 ∙ over_events at line (lines_of p) over) (ap (ending_from at) r.pending.0 ∙ over_ending at line (lines_of p) over)

pub left_ended : (text p : Option (List ℕ)) (first : LineStep) (text_line line : List ℕ) (before at : ℕ) (done : List Numbered) (e : Ending) → at < 1000000 → LeftLine text p first text_line Line line before at done → Ends e ≡ event_said at (line_of line) → NoneLeft text first text_line before done e
left_ended None p first text_line line before at done e few l said = tt
left_ended (Some text) None first text_line line before at done e few l said = absurd l
left_ended (Some text) (Some p) first text_line line before at done e few l said = λ lines pending.
    let r = l lines pending in
    let short : is_long at line ≡ false = not_long at line few r.pending.1 in
    none_left before lines done at r.now e r.remains (ap (events_from at) r.pending.0 ∙ rw (short, ← said) refl) (ap (ending_from at) r.pending.0 ∙ rw (short, ← said) refl)

-- this event comes next
abbrev pub NextIs : Option (List ℕ) → LineStep → List ℕ → ℕ → List Numbered → Numbered → Type 0
NextIs None step line before done n = Unit {0}
NextIs (Some text) step line before done n = (lines : List (List ℕ)) → IsPending lines step line text → (left : List Numbered) × (events_from before lines ≡ done ++ n ∷ left)

pub left_next : (text p : Option (List ℕ)) (first : LineStep) (text_line line : List ℕ) (before at : ℕ) (done : List Numbered) (e : Event) → at < 1000000 → LeftLine text p first text_line Line line before at done → Taken e ≡ event_said at (line_of line) → NextIs text first text_line before done (at + 1, e)
left_next None p first text_line line before at done e few l said = tt
left_next (Some text) None first text_line line before at done e few l said = absurd l
left_next (Some text) (Some p) first text_line line before at done e few l said = λ lines pending.
    let r = l lines pending in
    let short : is_long at line ≡ false = not_long at line few r.pending.1 in
    (events_from (at + 1) (lines_of p), r.remains.events ∙ ap (λ n. done ++ events_from at n) r.pending.0 ∙ ap (λ l. done ++ l) (rw (short, ← said) refl))

-- more events may come
abbrev pub SomeLeft : Option (List ℕ) → LineStep → List ℕ → ℕ → List Numbered → Type 0
SomeLeft None step line before done = Unit {0}
SomeLeft (Some text) step line before done = (lines : List (List ℕ)) → IsPending lines step line text → (left : List Numbered) × (events_from before lines ≡ done ++ left)

pub some_left : (text p : Option (List ℕ)) (first : LineStep) (text_line : List ℕ) (step : LineStep) (line : List ℕ) (before at : ℕ) (done : List Numbered) → LeftLine text p first text_line step line before at done → SomeLeft text first text_line before done
some_left None p first text_line step line before at done l = tt
some_left (Some text) None first text_line step line before at done l = absurd l
some_left (Some text) (Some p) first text_line step line before at done l = λ lines pending. let r = l lines pending in (events_from at r.now, r.remains.events)

pub some_left_text : (text p : Option (List ℕ)) (first : LineStep) (text_line : List ℕ) (before at : ℕ) (done : List Numbered) → LeftText text p first text_line before at done → SomeLeft text first text_line before done
some_left_text None p first text_line before at done l = tt
some_left_text (Some text) None first text_line before at done l = absurd l
some_left_text (Some text) (Some p) first text_line before at done l = λ lines pending. let r = l lines pending in (events_from at (lines_of p), r.events)
