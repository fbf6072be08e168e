-- The host's handles that a configuration names.
use Rattle.std.specs.Prelude.{◌≡◌, ◌≢◌, ℕ, true, ◌==◌, List, [], ◌∷◌, ◌++◌, flat_map, All, IfSome, Option, None, Some}
use Rattle.std.specs.List.{AllPairs, list_any}
use Rattle.genie_base.specs.declared.config.Config.{Config}
use Rattle.genie_base.specs.declared.config.DeviceConfig.{DeviceConfig}
use Rattle.genie_host.specs.Host.{HostView, Reading, Writing, OnlyHandle}
use Rattle.genie_model.specs.Tables.{entry}

-- the input of a device is a reading handle of the host, and its output a writing one
pub record IsOpen (host : HostView) (c : DeviceConfig) : Type 0 where
  pub input : IfSome c.input (λ h. (host.handle h).mode ≡ Reading)
  pub output : IfSome c.output (λ h. (host.handle h).mode ≡ Writing)

-- so it is of each device
abbrev pub AreOpen : Config → HostView → Type 0
AreOpen c host = (d : ℕ) → IfSome (entry c.devices d) (IsOpen host)

abbrev pub listed : Option ℕ → List ℕ
listed None = []
listed (Some h) = h ∷ []

abbrev pub handles_of : Option DeviceConfig → List ℕ
handles_of None = []
handles_of (Some d) = listed d.input ++ listed d.output

-- all handles that it names
abbrev pub handles : Config → List ℕ
handles c = flat_map handles_of c.devices

-- they are open in their directions, different from each other, and none is the output for replies
pub record HasHandles (c : Config) (host : HostView) : Type 0 where
  pub open_each : AreOpen c host
  pub apart : AllPairs (λ (a b : ℕ). a ≢ b) (handles c)
  pub own : All (λ (h : ℕ). h ≢ 0) (handles c)

-- no handle but those that it names has changed, and no handle was opened or closed
pub record KeepsOthers (c : Config) (old new : HostView) : Type 0 where
  pub handles_kept : (h : ℕ) → All (λ (g : ℕ). h ≢ g) (handles c) → new.handle h ≡ old.handle h
  pub modes : (h : ℕ) → (new.handle h).mode ≡ (old.handle h).mode
  pub names : new.names ≡ old.names
  pub opened : new.opened ≡ old.opened
  pub tried : new.tried ≡ old.tried
  pub refusals : new.refusals ≡ old.refusals

-- a call on one handle leaves each open in its direction
abbrev pub CallsKeepHandles : Type 0
CallsKeepHandles = (c : Config) (handle : ℕ) (old new : HostView) → OnlyHandle handle old new → HasHandles c old → HasHandles c new

-- and one on a handle that the configuration names leaves all others as they are
abbrev pub CallsKeepOthers : Type 0
CallsKeepOthers = (c : Config) (handle : ℕ) (old new : HostView) → OnlyHandle handle old new → list_any (λ h. h == handle) (handles c) ≡ true → KeepsOthers c old new
