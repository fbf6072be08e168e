-- Laws of steps and runs.
use Rattle.std.specs.Prelude.{◌≡◌, ◌≢◌, ℕ, ◌+◌, IsTrue, List, length, map, flat_map, Some}
use Rattle.std.specs.List.{range_with_len}
use Rattle.genie_base.specs.declared.event.Event.{Event}
use Rattle.genie_base.specs.declared.event.Event.TheVariants.{Output, Input, Finish}
use Rattle.genie_base.specs.declared.reply.Mark.{Mark}
use Rattle.genie_base.specs.declared.reply.Reply.{Reply}
use Rattle.genie_base.specs.declared.semantics.Class.TheVariants.{Move}
use Rattle.genie_base.specs.declared.semantics.Semantics.{Semantics}
use Rattle.genie_orderly.specs.Orderly.{IsOrderly}
use Rattle.genie_model.specs.Pending.{pending}
use Rattle.genie_model.specs.State.{State, Transfer}
use Rattle.genie_model.specs.Step.{Outcome, step, Follows}
use Rattle.genie_orderly.specs.Steps.{is_refused, id_of, ShowNoFault}
use Rattle.genie_base.specs.declared.reply.Reply.TheVariants as reply
use Rattle.genie_base.specs.declared.semantics.Semantics.TheVariants as semantics

abbrev pub RefusalsChangeNothing : Type 0
RefusalsChangeNothing = (s : State) (e : Event) (m : Mark) → IsTrue (is_refused (step s e m).1) → (step s e m).0 ≡ s

-- the basic form of a semantics
abbrev pub basic : Semantics → Semantics
basic semantics.Copy = semantics.Copy
basic semantics.EmulatedCopy = semantics.Copy
basic semantics.Share = semantics.Share
basic semantics.EmulatedShare = semantics.Share
basic semantics.Move = semantics.Move
basic semantics.EmulatedMove = semantics.Move
basic semantics.WeakMove = semantics.WeakMove
basic semantics.EmulatedWeakMove = semantics.WeakMove

-- the same event by the basic form
abbrev pub basic_event : Event → Event
basic_event (Output p sem d port flow a n) = Output p (basic sem) d port flow a n
basic_event (Input p sem d port flow a n) = Input p (basic sem) d port flow a n
basic_event e = e

-- an emulated call steps as the basic one
abbrev pub LevelsStepAlike : Type 0
LevelsStepAlike = (s : State) (e : Event) (m : Mark) → step s (basic_event e) m ≡ step s e m

-- the state with other thresholds
abbrev pub with_thresholds : ℕ → ℕ → State → State
with_thresholds out back s = record s { config = record s.config { copy_out = out; reverse_copy_out = back } }

abbrev pub outcome_with_thresholds : ℕ → ℕ → Outcome → Outcome
outcome_with_thresholds out back o = (with_thresholds out back o.0, o.1)

-- no step looks at a threshold
abbrev pub ThresholdsStepAlike : Type 0
ThresholdsStepAlike = (out back : ℕ) (s : State) (e : Event) (m : Mark) → step (with_thresholds out back s) e m ≡ outcome_with_thresholds out back (step s e m)

-- events that differ in nothing but whether their calls are emulated
abbrev pub SameButLevels : List Event → List Event → Type 0
SameButLevels es fs = map basic_event es ≡ map basic_event fs

-- Where no fault comes, events of other levels give the same replies under other thresholds, and the same last state but
-- for these.
abbrev pub RunsAlike : Type 0
RunsAlike = (out back : ℕ) (s : State) (es fs : List Event) (rs qs : List Reply) (last end : State) → SameButLevels es fs → Follows s es rs last → Follows (with_thresholds out back s) fs qs end → ShowNoFault rs → ShowNoFault qs → (qs ≡ rs) × (end ≡ with_thresholds out back last)

-- the numbers of the calls that were accepted
abbrev pub ids : List Reply → List ℕ
ids replies = flat_map id_of replies

-- numbered one after the other, none twice
pub record Counts (s : State) (replies : List Reply) (last : State) : Type 0 where
  pub numbers : ids replies ≡ range_with_len s.next (length (ids replies))
  pub next : last.next ≡ s.next + length (ids replies)

abbrev pub RunsCount : Type 0
RunsCount = (s : State) (es : List Event) (rs : List Reply) (last : State) → Follows s es rs last → Counts s rs last

-- where `done` ends a move, its region is there
abbrev pub MovesAreNotLost : Type 0
MovesAreNotLost = (s : State) (k : ℕ) (m : Mark) (t : Transfer) → IsOrderly s → pending s k ≡ Some t → t.class ≡ Move → (step s (Finish k) m).1 ≢ reply.Lost
