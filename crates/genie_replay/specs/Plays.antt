-- What the run of the lines behind the boot part does.
use Rattle.std.specs.Prelude.{◌≡◌, ◌≢◌, ◌≤◌, ℕ, IsSome, IfSome, List, ◌++◌, map, Option, None, Some, ⊤}
use Rattle.std.specs.Io.KnownBytes.{Appends}
use Rattle.genie_host.specs.Host.{HostView}
use Rattle.genie_orderly.specs.Steps.{ShowNoFault}
use Rattle.genie_model.specs.State.{State}
use Rattle.genie_model.specs.Runs.{Stepped}
use Rattle.genie_script.specs.Judge.{Numbered, events_from, ending_from}
use Rattle.genie_script.specs.Spelling.{reply_text}
use Rattle.genie_replay.specs.declared.script.LineStep.{LineStep}
use Rattle.genie_replay.specs.declared.status.Status.{Status}
use Rattle.genie_replay.specs.declared.status.Status.TheVariants.{HostFault, NoMemory}
use Rattle.genie_replay.specs.Files.{HandleRose, SameFaults}
use Rattle.genie_replay.specs.Lines.{IsPending}
use Rattle.genie_replay.specs.Outcome.{events_of, texts}
use Rattle.genie_replay.specs.Statuses.{status_of}
use Rattle.genie_replay.specs.Write.{AppendsUpToLast}

-- nothing but the replies and the script, handles 0 and 1, changed
pub record OnlyRun (old new : HostView) : Type 0 where
  pub others : (k : ℕ) → k ≢ 0 → k ≢ 1 → new.handle k ≡ old.handle k
  pub tried : new.tried ≡ old.tried
  pub opened : new.opened ≡ old.opened

-- the counts of faults didn't fall
abbrev pub LaterFaults : HostView → HostView → Type 0
LaterFaults old new = (k : ℕ) → (old.handle k).faults ≤ (new.handle k).faults

-- what a run leaves as it was, and which counts rose
pub record Leaves (status : Status) (old new : HostView) : Type 0 where
  pub only : OnlyRun old new
  pub later : LaterFaults old new
  pub refusals : new.refusals ≡ old.refusals
  pub same : status ≢ HostFault → SameFaults old new
  pub cause : status ≡ HostFault → HandleRose 1 old new

-- all of these events were stepped, and their replies were written
pub record Played (start : State) (events : List Numbered) (machine : Option State) (old new : HostView) : Type 0 where
  pub run : Stepped start (events_of events)
  pub plain : ShowNoFault run.replies
  pub machine_is : machine ≡ Some run.last
  pub written : Appends (old.handle 0).bytes (new.handle 0).bytes (texts run.replies)

-- the first ones of them were, and their replies were written, but for the end of the last one at most
pub record PlayedInPart (start : State) (events : List Numbered) (machine : Option State) (old new : HostView) : Type 0 where
  pub done : List Numbered
  pub left : List Numbered
  pub split : events ≡ done ++ left
  pub run : Stepped start (events_of done)
  pub plain : ShowNoFault run.replies
  pub machine_is : IfSome machine (λ s. s ≡ run.last)
  pub written : AppendsUpToLast (old.handle 0).bytes (new.handle 0).bytes (map reply_text run.replies)

abbrev pub Plays : ℕ → List (List ℕ) → State → Option State → HostView → HostView → Status → Type 0
Plays before lines start machine old new HostFault = IsSome machine × PlayedInPart start (events_from before lines) machine old new
Plays before lines start machine old new NoMemory = PlayedInPart start (events_from before lines) machine old new
Plays before lines start machine old new status = (status ≡ status_of (ending_from before lines)) × Played start (events_from before lines) machine old new

-- where the host tells what is left of the script: the line that was read, and the text behind it
abbrev pub PlaysOf : Option (List ℕ) → LineStep → List ℕ → ℕ → State → Option State → HostView → HostView → Status → Type 0
PlaysOf None step line before start machine old new status = ⊤
PlaysOf (Some text) step line before start machine old new status = (lines : List (List ℕ)) → IsPending lines step line text → Plays before lines start machine old new status

abbrev pub PlaysFrom : Option State → Option (List ℕ) → LineStep → List ℕ → ℕ → Option State → HostView → HostView → Status → Type 0
PlaysFrom None text step line before machine old new status = ⊥
PlaysFrom (Some start) text step line before machine old new status = PlaysOf text step line before start machine old new status

-- a machine that has just been booted
abbrev pub IsFirst : State → Type 0
IsFirst start = start.next ≡ 1
