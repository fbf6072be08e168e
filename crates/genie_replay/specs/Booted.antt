-- What a run does once the files are open.
use Rattle.std.specs.Prelude.{◌≡◌, ◌⊎◌, ℕ, List, [], ◌∷◌, ◌++◌, map, Option, None, Some, ⊤}
use Rattle.std.specs.Io.KnownBytes.{Appends}
use Rattle.genie_host.specs.Host.{HostView}
use Rattle.genie_orderly.specs.Steps.{ShowNoFault}
use Rattle.genie_model.specs.State.{State, boot}
use Rattle.genie_model.specs.Runs.{Stepped}
use Rattle.genie_script.specs.Judge.{Numbered, Part, events_from, ending_from}
use Rattle.genie_script.specs.Spelling.{reply_text}
use Rattle.genie_script.specs.declared.line.DeviceLine.{DeviceLine}
use Rattle.genie_replay.specs.declared.script.LineStep.{LineStep}
use Rattle.genie_replay.specs.declared.status.Status.{Status}
use Rattle.genie_replay.specs.declared.status.Status.TheVariants.{HostFault, NoMemory}
use Rattle.genie_replay.specs.Files.{HasSent, HasSentFront, HoldsOfOutputs, OnlyReads}
use Rattle.genie_replay.specs.Inputs.{SetsInputs}
use Rattle.genie_replay.specs.Lines.{IsPending}
use Rattle.genie_replay.specs.Outcome.{events_of, okay, texts}
use Rattle.genie_replay.specs.Statuses.{status_of}
use Rattle.genie_replay.specs.Write.{AppendsUpToLast}

-- all of these events were stepped behind `ok`, and what the devices sent was written
pub record RunsAll (start : State) (devices : List DeviceLine) (events : List Numbered) (old new : HostView) : Type 0 where
  pub run : Stepped start (events_of events)
  pub plain : ShowNoFault run.replies
  pub written : Appends (old.handle 0).bytes (new.handle 0).bytes (okay ++ texts run.replies)
  pub sent : HoldsOfOutputs (HasSent run.last old new) 1 devices
  pub tried : new.tried ≡ old.tried

-- The first ones of them were: `ok` and their replies were written, but for the end of the last one at most, and of
-- what the devices sent a front.
pub record RunsInPart (start : State) (devices : List DeviceLine) (events : List Numbered) (old new : HostView) : Type 0 where
  pub done : List Numbered
  pub left : List Numbered
  pub split : events ≡ done ++ left
  pub run : Stepped start (events_of done)
  pub plain : ShowNoFault run.replies
  pub written : AppendsUpToLast (old.handle 0).bytes (new.handle 0).bytes (okay ∷ map reply_text run.replies)
  pub sent : HoldsOfOutputs (HasSentFront run.last old new) 1 devices
  pub tried : new.tried ≡ old.tried

abbrev pub Runs : State → List DeviceLine → ℕ → List (List ℕ) → HostView → HostView → Status → Type 0
Runs start devices before lines old new HostFault = RunsInPart start devices (events_from before lines) old new
Runs start devices before lines old new NoMemory = RunsInPart start devices (events_from before lines) old new
Runs start devices before lines old new status = (status ≡ status_of (ending_from before lines)) × RunsAll start devices (events_from before lines) old new

abbrev pub RunsOf : State → List DeviceLine → Option (List ℕ) → LineStep → List ℕ → ℕ → HostView → HostView → Status → Type 0
RunsOf start devices None step line before old new status = ⊤
RunsOf start devices (Some text) step line before old new status = (lines : List (List ℕ)) → IsPending lines step line text → Runs start devices before lines old new status

abbrev pub RunsFrom : Option State → List DeviceLine → Option (List ℕ) → LineStep → List ℕ → ℕ → HostView → HostView → Status → Type 0
RunsFrom None devices text step line before old new status = ⊥
RunsFrom (Some start) devices text step line before old new status = RunsOf start devices text step line before old new status

-- a run that was cut short before the reply to the boot part
abbrev pub Cut : List DeviceLine → HostView → HostView → Status → Type 0
Cut devices old new HostFault = OnlyReads devices old new
Cut devices old new NoMemory = OnlyReads devices old new
Cut devices old new status = ⊥

-- the devices have their inputs, and nothing was written
pub record Started (p : Part) (old mid : HostView) (start : State) : Type 0 where
  pub sets : SetsInputs old 1 p.devices (boot p.config (λ _. [])) start
  pub still : OnlyReads p.devices old mid

-- the run behind that
pub record Booted (p : Part) (before : ℕ) (lines : List (List ℕ)) (old new : HostView) (status : Status) : Type 0 where
  pub start : State
  pub mid : HostView
  pub started : Started p old mid start
  pub runs : Runs start p.devices before lines mid new status

abbrev pub RunsBooted : Part → Option (List ℕ) → LineStep → List ℕ → ℕ → HostView → HostView → Status → Type 0
RunsBooted p None step line before old new status = ⊤
RunsBooted p (Some text) step line before old new status = (lines : List (List ℕ)) → IsPending lines step line text → Cut p.devices old new status ⊎ Booted p before lines old new status
