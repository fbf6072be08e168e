-- What is so of each state that the run of a script reaches, and of what its devices have sent by then.
use Rattle.std.specs.Prelude.{◌≡◌, ℕ, List, [], ◌++◌, Some}
use Rattle.genie_base.specs.declared.event.Event.{Event}
use Rattle.genie_base.specs.declared.reply.Reply.{Reply}
use Rattle.genie_host.specs.Host.{HostView}
use Rattle.genie_laws.specs.Integrity.{SendsRecords, SendsWhole, KeepsByte, outputs}
use Rattle.genie_laws.specs.Streams.{Takes, StoresTaken, LandsNext}
use Rattle.genie_orderly.specs.Orderly.{IsOrderly}
use Rattle.genie_model.specs.Pending.{pending}
use Rattle.genie_model.specs.State.{State, Transfer}
use Rattle.genie_model.specs.Step.{Follows}
use Rattle.genie_script.specs.Judge.{Booted, Numbered, Part, boot_part, events_from}
use Rattle.genie_script.specs.Texts.{lines_of}
use Rattle.genie_replay.specs.Outcome.{Ran, RanInPart, events_of}

-- The state is orderly. What each device has sent is a front of the records of its outputs that were accepted so far,
-- and those of all that don't wait any more are whole. In each state up to there it has taken records of its input, and a
-- ready input has the front of one of them, which `done` stores; a receive step stores bytes of the one that comes next.
pub record IsSound (inputs : ℕ → List ℕ) (start : State) (es : List Event) (rs : List Reply) (mid : State) : Type 0 where
  pub orderly : IsOrderly mid
  pub sent : (d : ℕ) → SendsRecords d (outputs d start es rs) mid
  pub whole : (d : ℕ) → SendsWhole d (outputs d start es rs) mid
  pub taken : (d : ℕ) → Takes (inputs d) d [] start es rs
  pub stored : StoresTaken mid
  pub landed : LandsNext mid

-- From one state of a run to a later one, each byte that a weak transfer covers stays, or is stored in between.
abbrev pub KeepsWeakBytes : State → List Event → List Reply → State → Type 0
KeepsWeakBytes mid es rs late = (n k x : ℕ) (t u : Transfer) → pending mid n ≡ Some t → pending late n ≡ Some u → KeepsByte mid es rs late k x t u

-- Each state that a run reaches is sound, the one behind each front of its events and replies; and from there on to each
-- later one, bytes under weak transfers are kept.
abbrev pub IsSoundRun : (ℕ → List ℕ) → State → List Event → List Reply → Type 0
IsSoundRun inputs start events replies = (es fs left : List Event) (rs qs rest : List Reply) (mid late : State)
    → events ≡ es ++ fs ++ left → replies ≡ rs ++ qs ++ rest → Follows start es rs mid → Follows mid fs qs late
    → IsSound inputs start es rs mid × KeepsWeakBytes mid fs qs late

-- so is the run of these events, whether it comes to their end or is cut short
pub record RunsSoundly (script : List ℕ) (part : Part) (events : List Numbered) (old new : HostView) : Type 0 where
  pub all : (r : Ran script part.config part.devices events old new) → IsSoundRun r.begins.inputs r.start (events_of events) r.run.replies
  pub in_part : (r : RanInPart script part.config part.devices events old new) → IsSoundRun r.begins.inputs r.start (events_of r.done) r.run.replies

-- so is the run of every script that comes to its events
abbrev pub RunsAreSound : Type 0
RunsAreSound = (script text : List ℕ) (part : Part) (before : ℕ) (lines : List (List ℕ)) (old new : HostView)
    → boot_part script 0 (lines_of text) ≡ Booted part before lines → RunsSoundly script part (events_from before lines) old new
