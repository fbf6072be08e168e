-- What the run of a script by the kernel comes to.
use Rattle.std.specs.Prelude.{◌≡◌, ◌⊎◌, ℕ, ◌<◌, List, [], ◌∷◌, ◌++◌, map, Option, None, Some, IsSome, ⊤}
use Rattle.std.specs.Io.KnownBytes.{Appends}
use Rattle.genie_base.specs.Causes.{Rose}
use Rattle.genie_base.specs.Configs.{config_of, pool_of}
use Rattle.genie_base.specs.declared.event.Event.{Event}
use Rattle.genie_base.specs.declared.reply.Reply.{Reply}
use Rattle.genie_host.specs.Host.{HostView}
use Rattle.genie_store.specs.StoreView.{StoreView}
use Rattle.genie_model.specs.State.{State, boot}
use Rattle.genie_model.specs.Step.{Follows}
use Rattle.genie_kernel.specs.declared.kernel.Kernel.{Kernel}
use Rattle.genie_kernel.specs.Booting.{BootsAs, only_taken}
use Rattle.genie_kernel.specs.Good.{IsGood}
use Rattle.genie_kernel.specs.View.{view}
use Rattle.genie_script.specs.Judge.{Boot, Refused, Booted, Numbered, Part, boot_part, events_from, ending_from}
use Rattle.genie_script.specs.Texts.{lines_of}
use Rattle.genie_script.specs.declared.judge.Ending.{Ending}
use Rattle.genie_script.specs.declared.line.DeviceLine.{DeviceLine}
use Rattle.genie_replay.specs.declared.status.Status.{Status}
use Rattle.genie_replay.specs.declared.status.Status.TheVariants.{HostFault, NoMemory}
use Rattle.genie_replay.specs.Files.{HandleRose, HoldsOfOutputs}
use Rattle.genie_replay.specs.Inputs.{AreTold, inputs_from}
use Rattle.genie_replay.specs.Outcome.{CutShort, HasAll, RanNothing, WroteNothing, events_of, okay, openings}
use Rattle.genie_replay.specs.Statuses.{status_of}
use Rattle.genie_replay.specs.Write.{AppendsUpToLast}
use Rattle.genie_playing.specs.declared.costs.Listing.{Listing}
use Rattle.genie_playing.specs.Costs.{all_said, replies_of, said}
use Rattle.genie_playing.specs.Faults.{AreCounted}
use Rattle.genie_playing.specs.Moments.{IsReady, Moment, meters_of, moment}
use Rattle.genie_playing.specs.Plays.{Played}

-- The replies to these events are the flat machine's from its boot, over the bytes of the devices' inputs. The kernel
-- stands for the state that is reached, and what was written to each output is what its device has sent in that state.
pub record IsFlatRun (p : Part) (events : List Event) (replies : List Reply) (k : Kernel) (old new : HostView) (w : StoreView) : Type 0 where
  pub last : State
  pub follows : Follows (boot p.config (inputs_from old.names (λ _. []) p.devices)) events replies last
  pub shown : view k new w ≡ Some last
  pub sent : HoldsOfOutputs (HasAll last old new) 1 p.devices

-- the host tells the bytes of the replies and of each input, and the store those of its slots
pub record TellBytes (devices : List DeviceLine) (old : HostView) (v : StoreView) : Type 0 where
  pub replies : IsSome (old.handle 0).bytes
  pub inputs : AreTold old.names devices
  pub slots : IsSome v.slots

-- a good kernel that was booted with these devices, over their files and the store, and has counted the frames of its pools
pub record Begins (p : Part) (start : Moment) : Type 0 where
  pub good : IsGood start.kernel
  pub config : config_of start.kernel.config ≡ p.config
  pub boots : BootsAs start.kernel.config start.kernel
  pub meters : meters_of start ≡ only_taken (pool_of p.config.devices)

-- A kernel was booted and stepped these events. Each failure that a reply shows was counted. Where bytes are told, the run
-- is the flat machine's.
pub record Ran (script : List ℕ) (p : Part) (events : List Event) (k : Kernel) (old new : HostView) (v w : StoreView) : Type 0 where
  pub start : Moment
  pub begins : Begins p start
  pub run : Played start events (moment k new w)
  pub counted : AreCounted start.kernel.config events (replies_of run.answers) old new v w
  pub flat : TellBytes p.devices old v → IsFlatRun p events (replies_of run.answers) k old new w
  pub tried : new.tried ≡ old.tried ++ openings script p.devices

-- that was done of all these events: what is said of each was written, after the reply to the boot part
pub record RanAll (listing : Listing) (script : List ℕ) (p : Part) (events : List Numbered) (kernel : Option Kernel) (old new : HostView) (v w : StoreView) : Type 0 where
  pub last : Kernel
  pub handed : kernel ≡ Some last
  pub ran : Ran script p (events_of events) last old new v w
  pub written : Appends (old.handle 0).bytes (new.handle 0).bytes (okay ++ all_said listing ran.run.answers)

-- or of the first ones of them: what is said of each was written, but for the end of the last one at most
pub record RanInPart (listing : Listing) (script : List ℕ) (p : Part) (events : List Numbered) (kernel : Option Kernel) (old new : HostView) (v w : StoreView) : Type 0 where
  pub done : List Numbered
  pub left : List Numbered
  pub split : events ≡ done ++ left
  pub last : Kernel
  pub handed : kernel ≡ Some last
  pub ran : Ran script p (events_of done) last old new v w
  pub written : AppendsUpToLast (old.handle 0).bytes (new.handle 0).bytes (okay ∷ map (said listing) ran.run.answers)

-- the boot part was whole, and nothing was written: the run failed among the openings, or at the boot
pub record CutAtBoot (script : List ℕ) (devices : List DeviceLine) (kernel : Option Kernel) (old new : HostView) : Type 0 where
  pub none : kernel ≡ None
  pub cut : CutShort script devices old new

-- the boot part wasn't whole, and nothing was written
pub record CutBefore (script : List ℕ) (kernel : Option Kernel) (old new : HostView) : Type 0 where
  pub none : kernel ≡ None
  pub nothing : RanNothing script old new

-- a failure of the host ends a run early, before the reply to the boot part or behind it; want of memory only before it
abbrev pub RunsBy : Listing → Status → List ℕ → Part → List Numbered → Option Kernel → HostView → HostView → StoreView → StoreView → Type 0
RunsBy listing HostFault script p events kernel old new v w = CutAtBoot script p.devices kernel old new ⊎ RanInPart listing script p events kernel old new v w
RunsBy listing NoMemory script p events kernel old new v w = CutAtBoot script p.devices kernel old new
RunsBy listing status script p events kernel old new v w = RanAll listing script p events kernel old new v w

-- else the run ends as the script does
abbrev pub EndsBy : Status → Ending → Type 0
EndsBy HostFault ending = ⊤
EndsBy NoMemory ending = ⊤
EndsBy status ending = status ≡ status_of ending

abbrev pub IsOutcome : Listing → List ℕ → Boot → Status → Option Kernel → HostView → HostView → StoreView → StoreView → Type 0
IsOutcome listing script (Refused ending) status kernel old new v w = EndsBy status ending × CutBefore script kernel old new
IsOutcome listing script (Booted p before lines) status kernel old new v w = EndsBy status (ending_from before lines) × RunsBy listing status script p (events_from before lines) kernel old new v w

-- where the script isn't told, the run is still that of some boot part and some events
abbrev pub IsSomeOutcome : Listing → List ℕ → Status → Option Kernel → HostView → HostView → StoreView → StoreView → Type 0
IsSomeOutcome listing script status None old new v w = WroteNothing old new
IsSomeOutcome listing script status (Some k) old new v w = (p : Part) × (events : List Numbered) × RunsBy listing status script p events (Some k) old new v w

abbrev pub OutcomeOf : Listing → List ℕ → Option (List ℕ) → Status → Option Kernel → HostView → HostView → StoreView → StoreView → Type 0
OutcomeOf listing script None status kernel old new v w = IsSomeOutcome listing script status kernel old new v w
OutcomeOf listing script (Some text) status kernel old new v w = IsOutcome listing script (boot_part script 0 (lines_of text)) status kernel old new v w

-- The kernel is there exactly where the store was sized. It is good, over a store of its size, and its handles are open.
abbrev pub HandsBack : Option Kernel → HostView → StoreView → Type 0
HandsBack None new w = w.count ≡ 0
HandsBack (Some k) new w = (0 < w.count) × IsReady k new w

-- the count of the replies' handle, of the script's or of the openings rose, or that of the store, which isn't sized
abbrev pub HasRunCause : HostView → HostView → StoreView → StoreView → Type 0
HasRunCause old new v w = HandleRose 1 old new ⊎ Rose old.refusals new.refusals ⊎ (Rose v.faults w.faults × (w.count ≡ 0))
