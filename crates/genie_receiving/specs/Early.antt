-- An early device before a receive step.
use Rattle.std.specs.Prelude.{◌≡◌, ℕ, true, false, Option, None, Some}
use Rattle.std.specs.Option.{option_map}
use Rattle.genie_device.specs.Device.{DeviceView}
use Rattle.genie_device.specs.declared.present.Present.{Present}
use Rattle.genie_model.specs.Pending.{is_early}

abbrev pub len_of : Present → ℕ
len_of g = g.header.len

-- a datagram with so many bytes of payload is present
pub record IsWithin (len : ℕ) (v : DeviceView) : Type 0 where
  pub early : is_early v.config.kind ≡ true
  pub fine : v.is_bad ≡ false
  pub present : option_map len_of v.present ≡ Some len

abbrev pub IsWithinAt : ℕ → Option DeviceView → Type 0
IsWithinAt len None = ⊥
IsWithinAt len (Some v) = IsWithin len v

-- none is
pub record IsOutside (v : DeviceView) : Type 0 where
  pub early : is_early v.config.kind ≡ true
  pub fine : v.is_bad ≡ false
  pub absent : v.present ≡ None

abbrev pub IsOutsideAt : Option DeviceView → Type 0
IsOutsideAt None = ⊥
IsOutsideAt (Some v) = IsOutside v
