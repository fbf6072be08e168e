-- Devices by their kind, and the transfers that end by direction and kind of device.
use Rattle.std.specs.Prelude.{◌≡◌, ℕ, List, find, Option, None, Some, IfSome}
use Rattle.genie_base.specs.declared.config.DeviceConfig.{DeviceConfig}
use Rattle.genie_base.specs.declared.config.Kind.{Kind}
use Rattle.genie_base.specs.declared.semantics.Direction.TheVariants.{Inward}
use Rattle.genie_device.specs.Device.{DeviceView}
use Rattle.genie_model.specs.Tables.{entry}
use Rattle.genie_kernel.specs.declared.kernel.Kernel.{Kernel}
use Rattle.genie_kernel.specs.declared.transfer.Transfer.{Transfer}
use Rattle.genie_kernel.specs.Calls.{has_number}

-- the configuration has a device of this kind there
abbrev pub HasKind : Kind → Option DeviceConfig → Type 0
HasKind kind None = ⊥
HasKind kind (Some c) = c.kind ≡ kind

-- the device is there, and of this kind
abbrev pub IsOfKind : Kind → Option DeviceView → Type 0
IsOfKind kind None = ⊥
IsOfKind kind (Some v) = v.config.kind ≡ kind

-- an input on a device of this kind
pub record IsInputOn (kind : Kind) (devices : List (Option DeviceView)) (t : Transfer) : Type 0 where
  pub inward : t.dir ≡ Inward
  pub device : IsOfKind kind (entry devices t.dev)

-- the pending transfer of this number is one
abbrev pub EndsOn : Kind → Kernel → ℕ → Type 0
EndsOn kind k n = IfSome (find (has_number n) k.transfers) (IsInputOn kind k.devices)
