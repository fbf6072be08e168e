-- A kernel that steps a script over a host and a store.
use Rattle.std.specs.Prelude.{◌≡◌, ℕ, ◌+◌, ◌-◌, ◌^◌, ◌<◌, ◌≤◌, List, flat_map, Option, None, Some, IfSome}
use Rattle.genie_base.specs.declared.config.DeviceConfig.{DeviceConfig}
use Rattle.genie_host.specs.Host.{HostView, Mode, Reading, Writing, OthersKept}
use Rattle.genie_store.specs.StoreView.{StoreView}
use Rattle.genie_object.specs.Costs.{AreBelow}
use Rattle.genie_object.specs.Sound.{IsSized}
use Rattle.genie_orderly.specs.Lemmas.RegionNumbers.{times}
use Rattle.genie_model.specs.Tables.{entry}
use Rattle.genie_kernel.specs.declared.kernel.Kernel.{Kernel}
use Rattle.genie_kernel.specs.Good.{IsGood}
use Rattle.genie_kernel.specs.Handles.{HasHandles, handles_of}

-- the next handle was opened in this direction, if there is one
abbrev pub OpensNext : Mode → HostView → HostView → Option ℕ → Type 0
OpensNext mode old new None = new ≡ old
OpensNext mode old new (Some h) = (h ≡ old.opened + 1) × (new.opened ≡ old.opened + 1) × ((new.handle h).mode ≡ mode) × OthersKept h old.handle new.handle

-- a handle that was opened in this direction
abbrev pub IsOpened : HostView → Mode → ℕ → Type 0
IsOpened host mode h = ((host.handle h).mode ≡ mode) × (h ≤ host.opened)

-- the handles of a device are open in their directions
pub record IsWired (host : HostView) (c : DeviceConfig) : Type 0 where
  pub input : IfSome c.input (IsOpened host Reading)
  pub output : IfSome c.output (IsOpened host Writing)

-- so are those of these devices, and each is that of one device in one direction
pub record AreWired (devices : List (Option DeviceConfig)) (host : HostView) : Type 0 where
  pub each : (d : ℕ) → IfSome (entry devices d) (IsWired host)
  pub once : (h : ℕ) → times h (flat_map handles_of devices) ≤ 1
  pub none : times 0 (flat_map handles_of devices) ≡ 0
  pub later : (h : ℕ) → host.opened < h → times h (flat_map handles_of devices) ≡ 0

-- the next event may be stepped
pub record IsReady (k : Kernel) (host : HostView) (v : StoreView) : Type 0 where
  pub good : IsGood k
  pub sized : IsSized k.memory v
  pub handles : HasHandles k.config host

-- there is room for what an event counts, and a number for a transfer
pub record HasRoom (k : Kernel) : Type 0 where
  pub meters : AreBelow (2 ^ 63) k.memory.frames.meters
  pub landed : k.memory.frames.landed < 2 ^ 63
  pub numbered : k.next < 2 ^ 32 - 1
