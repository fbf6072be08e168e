-- The inputs that end, by case.
use Rattle.std.specs.Prelude.{◌≡◌, ℕ, true, List, find, Option, IfSome}
use Rattle.genie_base.specs.Transfers.{class_of}
use Rattle.genie_base.specs.declared.semantics.Class.{Class}
use Rattle.genie_base.specs.declared.semantics.Direction.TheVariants.{Inward}
use Rattle.genie_device.specs.Device.{DeviceView}
use Rattle.genie_model.specs.Tables.{entry}
use Rattle.genie_kernel.specs.declared.kernel.Kernel.{Kernel}
use Rattle.genie_kernel.specs.declared.transfer.Transfer.{Transfer}
use Rattle.genie_kernel.specs.Calls.{has_number}
use Rattle.genie_kernel.specs.Planned.{is_early_device}

-- an input of this class on an early device
pub record IsInputOf (class : Class) (devices : List (Option DeviceView)) (t : Transfer) : Type 0 where
  pub inward : t.dir ≡ Inward
  pub class_is : class_of t.sem ≡ class
  pub early : is_early_device (entry devices t.dev) ≡ true

-- the pending transfer of this number is one
abbrev pub IsEarlyInput : Class → Kernel → ℕ → Type 0
IsEarlyInput class k n = IfSome (find (has_number n) k.transfers) (IsInputOf class k.devices)

-- an input on an early device, of whatever class
pub record IsAnyInput (devices : List (Option DeviceView)) (t : Transfer) : Type 0 where
  pub inward : t.dir ≡ Inward
  pub early : is_early_device (entry devices t.dev) ≡ true

abbrev pub IsOnEarly : Kernel → ℕ → Type 0
IsOnEarly k n = IfSome (find (has_number n) k.transfers) (IsAnyInput k.devices)
