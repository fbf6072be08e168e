-- The laws of runs, said of the run of a script by the kernel. Where the host and the store tell their bytes, it is one of
-- the flat machine.
use Rattle.std.specs.Prelude.{◌≡◌, ℕ, List, [], ◌++◌}
use Rattle.genie_base.specs.declared.event.Event.{Event}
use Rattle.genie_base.specs.declared.reply.Reply.{Reply}
use Rattle.genie_host.specs.Host.{HostView}
use Rattle.genie_store.specs.StoreView.{StoreView}
use Rattle.genie_laws.specs.Laws.{SameButLevels}
use Rattle.genie_orderly.specs.Steps.{ShowNoFault}
use Rattle.genie_model.specs.Sending.{sent_of}
use Rattle.genie_model.specs.State.{State, boot}
use Rattle.genie_kernel.specs.declared.kernel.Kernel.{Kernel}
use Rattle.genie_script.specs.Judge.{Booted, Numbered, Part, boot_part, events_from}
use Rattle.genie_script.specs.Texts.{lines_of}
use Rattle.genie_replay.specs.Inputs.{AreToldAlike, inputs_from}
use Rattle.genie_replay.specs.Outcome.{events_of}
use Rattle.genie_running.specs.Outcome.{IsFlatRun}
use Rattle.genie_runs.specs.Alike.{SameButThresholds}
use Rattle.genie_runs.specs.Reached.{IsSound, IsSoundRun}
use Rattle.genie_runs.specs.Texts.{TextsAlike}

-- ---- emulated and basic calls

-- The bytes of the devices' inputs are the same for both runs, and no reply shows a failure. (None does where no count of
-- failures rose.)
pub record AreComparable {p q : Part} {events others : List Event} {replies changed : List Reply} {k l : Kernel} {old new before after : HostView} {w x : StoreView} (a : IsFlatRun p events replies k old new w) (b : IsFlatRun q others changed l before after x) : Type 0 where
  pub inputs : AreToldAlike old.names before.names p.devices
  pub plain : ShowNoFault replies
  pub other_plain : ShowNoFault changed

-- the same replies, and the same bytes from each device
pub record RanAlike {p q : Part} {events others : List Event} {replies changed : List Reply} {k l : Kernel} {old new before after : HostView} {w x : StoreView} (a : IsFlatRun p events replies k old new w) (b : IsFlatRun q others changed l before after x) : Type 0 where
  pub same : changed ≡ replies
  pub sent : (d : ℕ) → sent_of b.last d ≡ sent_of a.last d

-- Runs of the same devices and the same events run alike, but for the thresholds and for whether calls are emulated.
abbrev pub KernelRunsAlike : Type 0
KernelRunsAlike = (p q : Part) (events others : List Event) (replies changed : List Reply) (k l : Kernel) (old new before after : HostView) (w x : StoreView)
    (a : IsFlatRun p events replies k old new w) (b : IsFlatRun q others changed l before after x) → AreComparable a b
    → SameButThresholds p.config q.config → q.devices ≡ p.devices → SameButLevels events others → RanAlike a b

-- So do runs of two texts that differ in nothing but the thresholds and the letter `e`, to their ends.
abbrev pub TextsRunAlike : Type 0
TextsRunAlike = (script renamed text other : List ℕ) (p q : Part) (n m : ℕ) (lines others : List (List ℕ)) (replies changed : List Reply) (k l : Kernel) (old new before after : HostView) (w x : StoreView)
    → TextsAlike text other → boot_part script 0 (lines_of text) ≡ Booted p n lines → boot_part renamed 0 (lines_of other) ≡ Booted q m others
    → (a : IsFlatRun p (events_of (events_from n lines)) replies k old new w) (b : IsFlatRun q (events_of (events_from m others)) changed l before after x) → AreComparable a b → RanAlike a b

-- ---- what is so of each state

-- the bytes of the devices' inputs, and the flat machine's boot over them
abbrev pub inputs_of : Part → HostView → ℕ → List ℕ
inputs_of p old = inputs_from old.names (λ _. []) p.devices

abbrev pub first_of : Part → HostView → State
first_of p old = boot p.config (inputs_of p old)

-- Each state that the flat machine reaches by these events and replies is sound, and bytes under weak transfers are kept from
-- there on; so is the last one, for which the kernel stands in the end.
pub record IsSoundByKernel {p : Part} {events : List Event} {replies : List Reply} {k : Kernel} {old new : HostView} {w : StoreView} (r : IsFlatRun p events replies k old new w) : Type 0 where
  pub each : IsSoundRun (inputs_of p old) (first_of p old) events replies
  pub last : IsSound (inputs_of p old) (first_of p old) events replies r.last

-- so is the run of these events by the kernel, whether it comes to their end or is cut short
pub record KernelRunsSoundly (p : Part) (events : List Numbered) : Type 0 where
  pub all : (replies : List Reply) (k : Kernel) (old new : HostView) (w : StoreView) (r : IsFlatRun p (events_of events) replies k old new w) → IsSoundByKernel r
  pub in_part : (done left : List Numbered) (replies : List Reply) (k : Kernel) (old new : HostView) (w : StoreView) → events ≡ done ++ left → (r : IsFlatRun p (events_of done) replies k old new w) → IsSoundByKernel r

-- so is the run of every script that comes to its events
abbrev pub KernelRunsAreSound : Type 0
KernelRunsAreSound = (script text : List ℕ) (p : Part) (before : ℕ) (lines : List (List ℕ)) → boot_part script 0 (lines_of text) ≡ Booted p before lines → KernelRunsSoundly p (events_from before lines)
