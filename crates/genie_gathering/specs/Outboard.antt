-- An outboard device before a receive step.
use Rattle.std.specs.Prelude.{◌≡◌, false, Option, None, Some}
use Rattle.genie_base.specs.declared.config.Kind.TheVariants.{Outboard}
use Rattle.genie_device.specs.Device.{DeviceView, header_of, is_full}
use Rattle.genie_wire.specs.declared.header.Header.{Header}

-- a datagram with this header is present
pub record IsWithin (h : Header) (v : DeviceView) : Type 0 where
  pub kind : v.config.kind ≡ Outboard
  pub fine : v.is_bad ≡ false
  pub present : header_of v.present ≡ Some h

abbrev pub IsWithinAt : Header → Option DeviceView → Type 0
IsWithinAt h None = ⊥
IsWithinAt h (Some v) = IsWithin h v

-- none is, and one can come in
pub record IsOutside (v : DeviceView) : Type 0 where
  pub kind : v.config.kind ≡ Outboard
  pub fine : v.is_bad ≡ false
  pub absent : v.present ≡ None
  pub free : is_full v ≡ false

abbrev pub IsOutsideAt : Option DeviceView → Type 0
IsOutsideAt None = ⊥
IsOutsideAt (Some v) = IsOutside v
