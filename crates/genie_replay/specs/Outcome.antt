-- What each status says of the script, of the replies and of the devices' outputs.
use Rattle.std.specs.Prelude.{◌≡◌, ◌≢◌, ◌⊎◌, ℕ, List, [], ◌∷◌, ◌++◌, codes, flat_map, map, Option, None, Some, ⊤}
use Rattle.std.specs.Io.KnownBytes.{Appends, Keeps}
use Rattle.genie_base.specs.Causes.{Rose}
use Rattle.genie_base.specs.Configs.{Config}
use Rattle.genie_base.specs.declared.event.Event.{Event}
use Rattle.genie_base.specs.declared.reply.Reply.{Reply}
use Rattle.genie_base.specs.declared.semantics.Direction.{Direction}
use Rattle.genie_base.specs.declared.semantics.Direction.TheVariants.{Inward}
use Rattle.genie_host.specs.Host.{HostView, empty_told}
use Rattle.genie_model.specs.Sending.{sent_of}
use Rattle.genie_orderly.specs.Steps.{ShowNoFault}
use Rattle.genie_model.specs.State.{State}
use Rattle.genie_model.specs.Runs.{Stepped}
use Rattle.genie_script.specs.Judge.{Boot, Refused, Booted, Numbered, boot_part, events_from, ending_from}
use Rattle.genie_script.specs.Spelling.{reply_text}
use Rattle.genie_script.specs.Texts.{lines_of}
use Rattle.genie_script.specs.declared.line.DeviceLine.{DeviceLine}
use Rattle.genie_replay.specs.declared.status.Status.{Status}
use Rattle.genie_replay.specs.declared.status.Status.TheVariants.{HostFault, NoMemory}
use Rattle.genie_replay.specs.Files.{HandleRose, HoldsOfOutputs, IsUnwritten, TriesFront, openings_of}
use Rattle.genie_replay.specs.Inputs.{IsBoot}
use Rattle.genie_replay.specs.Statuses.{status_of}
use Rattle.genie_replay.specs.Write.{AppendsFront, AppendsUpToLast}

abbrev pub texts : List Reply → List ℕ
texts replies = flat_map reply_text replies

-- the reply to the boot part
abbrev pub okay : List ℕ
okay = codes "ok" ++ 10 ∷ []

abbrev pub events_of : List Numbered → List Event
events_of events = map (λ (n : Numbered). n.1) events

-- the openings of a run that came to its events: the script, and then the devices' files in the order of their lines
abbrev pub openings : List ℕ → List DeviceLine → List (List ℕ × Direction)
openings script devices = (script, Inward) ∷ flat_map openings_of devices

-- an output has what its device sent, or a front of it; nothing was in it before
abbrev pub HasAll : State → HostView → HostView → ℕ → ℕ → Type 0
HasAll s old new number handle = Appends (empty_told (old.handle 0).bytes) (new.handle handle).bytes (sent_of s number)

abbrev pub HasFront : State → HostView → HostView → ℕ → ℕ → Type 0
HasFront s old new number handle = AppendsFront (empty_told (old.handle 0).bytes) (new.handle handle).bytes (sent_of s number)

-- All of these events were stepped from the boot on: the replies to them were written after the one to the boot part,
-- and each output has what its device sent.
pub record Ran (script : List ℕ) (c : Config) (devices : List DeviceLine) (events : List Numbered) (old new : HostView) : Type 0 where
  pub start : State
  pub begins : IsBoot old.names c devices start
  pub run : Stepped start (events_of events)
  pub plain : ShowNoFault run.replies
  pub written : Appends (old.handle 0).bytes (new.handle 0).bytes (okay ++ texts run.replies)
  pub sent : HoldsOfOutputs (HasAll run.last old new) 1 devices
  pub tried : new.tried ≡ old.tried ++ openings script devices

-- The first ones of them were stepped: the reply to the boot part and the replies to them were written, but for the end
-- of the last one at most, and each output has a front of what its device sent.
pub record RanInPart (script : List ℕ) (c : Config) (devices : List DeviceLine) (events : List Numbered) (old new : HostView) : Type 0 where
  pub done : List Numbered
  pub left : List Numbered
  pub split : events ≡ done ++ left
  pub start : State
  pub begins : IsBoot old.names c devices start
  pub run : Stepped start (events_of done)
  pub plain : ShowNoFault run.replies
  pub written : AppendsUpToLast (old.handle 0).bytes (new.handle 0).bytes (okay ∷ map reply_text run.replies)
  pub sent : HoldsOfOutputs (HasFront run.last old new) 1 devices
  pub tried : new.tried ≡ old.tried ++ openings script devices

-- no reply was written
abbrev pub WroteNothing : HostView → HostView → Type 0
WroteNothing old new = Keeps (old.handle 0).bytes (new.handle 0).bytes

-- No reply was written, and no opening but the script's was tried.
pub record RanNothing (script : List ℕ) (old new : HostView) : Type 0 where
  pub written : WroteNothing old new
  pub tried : new.tried ≡ old.tried ++ (script, Inward) ∷ []

-- No reply was written, the first ones of the run's openings were tried, the script's at least, and nothing was written
-- to an output.
pub record CutShort (script : List ℕ) (devices : List DeviceLine) (old new : HostView) : Type 0 where
  pub written : WroteNothing old new
  pub tried : TriesFront (openings script devices) old new
  pub begun : tried.front ≢ []
  pub outputs : HoldsOfOutputs (IsUnwritten old new) 1 devices

-- a run that a failure cut short: before the reply to the boot part, or behind it
abbrev pub CutOf : List ℕ → Boot → HostView → HostView → Type 0
CutOf script (Refused ending) old new = RanNothing script old new
CutOf script (Booted part before lines) old new = CutShort script part.devices old new ⊎ RanInPart script part.config part.devices (events_from before lines) old new

abbrev pub IsOutcome : List ℕ → Boot → HostView → HostView → Status → Type 0
IsOutcome script boot old new HostFault = CutOf script boot old new
IsOutcome script boot old new NoMemory = CutOf script boot old new
-- every other run ends as the script does: where its boot part ends it, nothing is run
IsOutcome script (Refused ending) old new status = (status ≡ status_of ending) × RanNothing script old new
IsOutcome script (Booted part before lines) old new status = (status ≡ status_of (ending_from before lines)) × Ran script part.config part.devices (events_from before lines) old new

-- where the host tells the script's bytes
abbrev pub OutcomeOf : List ℕ → Option (List ℕ) → HostView → HostView → Status → Type 0
OutcomeOf script None old new status = ⊤
OutcomeOf script (Some text) old new status = IsOutcome script (boot_part script 0 (lines_of text)) old new status

-- the count of a handle that is open rose, or that of the openings
abbrev pub HasHostCause : HostView → HostView → Type 0
HasHostCause old new = HandleRose new.opened old new ⊎ Rose old.refusals new.refusals

abbrev pub FaultOf : HostView → HostView → Status → Type 0
FaultOf old new status = status ≡ HostFault → HasHostCause old new
