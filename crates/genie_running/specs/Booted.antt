-- What a run does once the files are open: the kernel is booted, the store is sized, and the events are stepped.
use Rattle.std.specs.Prelude.{◌≡◌, ◌≢◌, ◌⊎◌, ℕ, ◌<◌, List, Option, None, Some, Result, Ok, Err, is_some}
use Rattle.std.specs.Io.KnownBytes.{Appends}
use Rattle.genie_base.specs.Causes.{Rose}
use Rattle.genie_base.specs.Configs.{config_of, pool_of}
use Rattle.genie_base.specs.declared.config.Config.{Config}
use Rattle.genie_host.specs.Host.{HostView, OnlyHandle}
use Rattle.genie_store.specs.StoreView.{StoreView}
use Rattle.genie_store.specs.declared.store.StoreRefused.{StoreRefused}
use Rattle.genie_store.specs.declared.store.StoreRefused.TheVariants.{Failed}
use Rattle.genie_object.specs.Sound.{IsSized}
use Rattle.genie_kernel.specs.declared.kernel.Kernel.{Kernel}
use Rattle.genie_kernel.specs.Booting.{BootsAs, only_taken}
use Rattle.genie_kernel.specs.Good.{IsGood}
use Rattle.genie_script.specs.Judge.{Part}
use Rattle.genie_replay.specs.declared.script.LineStep.{LineStep}
use Rattle.genie_replay.specs.declared.status.Status.{Status}
use Rattle.genie_replay.specs.declared.status.Status.TheVariants as status
use Rattle.genie_replay.specs.Outcome.{okay}
use Rattle.genie_replay.specs.Plays.{LaterFaults}
use Rattle.genie_replay.specs.Write.{AppendsFront}
use Rattle.genie_playing.specs.declared.costs.Listing.{Listing}
use Rattle.genie_playing.specs.Moments.{IsFresh, Moment, moment}
use Rattle.genie_playing.specs.Plays.{Plays}
use Rattle.genie_running.specs.Wiring.{IsWired}

-- a kernel of this configuration that has just been booted, and a store that has just been sized for it
pub record IsBooted (c : Config) (k : Kernel) (v w : StoreView) : Type 0 where
  pub good : IsGood k
  pub config : k.config ≡ c
  pub boots : BootsAs c k
  pub fresh : IsFresh k
  pub meters : k.memory.frames.meters ≡ only_taken (pool_of (config_of c).devices)
  pub sized : IsSized k.memory w
  pub some : 0 < w.count
  pub told : is_some w.slots ≡ is_some v.slots
  pub faults : w.faults ≡ v.faults

-- the store has no slots, or there is no kernel; a failure was counted
pub record IsUnbooted (v w : StoreView) (e : StoreRefused) : Type 0 where
  pub none : w.count ≡ 0
  pub cause : e ≡ Failed → Rose v.faults w.faults

abbrev pub Boots : Config → StoreView → StoreView → Result Kernel StoreRefused → Type 0
Boots c v w (Ok k) = IsBooted c k v w
Boots c v w (Err e) = IsUnbooted v w e

-- the reply to the boot part was written, and the events of the lines that are left were stepped
pub record Began (listing : Listing) (s : Status) (text : Option (List ℕ)) (step : LineStep) (line : List ℕ) (before : ℕ) (old new : Moment) : Type 0 where
  pub between : HostView
  pub only : OnlyHandle 0 old.host between
  pub later : LaterFaults old.host between
  pub written : Appends (old.host.handle 0).bytes (between.handle 0).bytes okay
  pub plays : Plays listing s text step line before (moment old.kernel between old.store) new

-- or that reply couldn't be written
pub record NotBegun (s : Status) (old new : Moment) : Type 0 where
  pub failed : s ≡ status.HostFault
  pub kernel : new.kernel ≡ old.kernel
  pub store : new.store ≡ old.store
  pub only : OnlyHandle 0 old.host new.host
  pub later : LaterFaults old.host new.host
  pub written : AppendsFront (old.host.handle 0).bytes (new.host.handle 0).bytes okay

abbrev pub Begins : Listing → Status → Option (List ℕ) → LineStep → List ℕ → ℕ → Moment → Moment → Type 0
Begins listing s text step line before old new = Began listing s text step line before old new ⊎ NotBegun s old new

-- the kernel was booted with these devices, and what it came to
pub record RunsOver (listing : Listing) (p : Part) (text : Option (List ℕ)) (step : LineStep) (line : List ℕ) (before : ℕ) (s : Status) (last : Kernel) (old new : HostView) (v w : StoreView) : Type 0 where
  pub config : Config
  pub wired : IsWired p config
  pub kernel : Kernel
  pub store : StoreView
  pub booted : IsBooted config kernel v store
  pub begins : Begins listing s text step line before (moment kernel old store) (moment last new w)
  pub kept : last.config ≡ kernel.config
  pub tried : new.tried ≡ old.tried

-- there is no kernel: nothing was done to the host
pub record IsCut (s : Status) (old new : HostView) : Type 0 where
  pub failed : (s ≡ status.HostFault) ⊎ (s ≡ status.NoMemory)
  pub host : new ≡ old

abbrev pub RunsBooted : Listing → Part → Option (List ℕ) → LineStep → List ℕ → ℕ → Status → Option Kernel → HostView → HostView → StoreView → StoreView → Type 0
RunsBooted listing p text step line before s None old new v w = IsCut s old new
RunsBooted listing p text step line before s (Some last) old new v w = (s ≢ status.NoMemory) × RunsOver listing p text step line before s last old new v w
