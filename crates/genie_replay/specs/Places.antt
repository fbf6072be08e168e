-- The places of devices in a configuration: each at its line's number.
use Rattle.std.specs.Prelude.{◌≡◌, ℕ, ◌<◌, List, [], ◌∷◌, length, replicate, slice_set, Option, None, Some, ⊤}
use Rattle.genie_base.specs.Configs.{DeviceConfig}
use Rattle.genie_model.specs.Tables.{entry}
use Rattle.genie_script.specs.Judge.{Part, line_config}
use Rattle.genie_script.specs.declared.line.DeviceLine.{DeviceLine}
use Rattle.genie_replay.specs.declared.booting.BootRead.{BootRead}
use Rattle.genie_replay.specs.declared.booting.BootRead.TheVariants as read

-- the devices of these lines, put where they belong
abbrev pub places_from : List (Option DeviceConfig) → List DeviceLine → List (Option DeviceConfig)
places_from places [] = places
places_from places (d ∷ devices) = places_from (slice_set places d.number (Some (line_config d))) devices

-- each of them finds its place free
abbrev pub FindPlaces : List (Option DeviceConfig) → List DeviceLine → Type 0
FindPlaces places [] = ⊤
FindPlaces places (d ∷ devices) = (d.number < length places) × (entry places d.number ≡ None) × FindPlaces (slice_set places d.number (Some (line_config d))) devices

abbrev pub no_devices : List (Option DeviceConfig)
no_devices = replicate 8 None

-- the configuration has the devices of the lines and no others
pub record IsPlaced (p : Part) : Type 0 where
  pub is : p.config.devices ≡ places_from no_devices p.devices
  pub free : FindPlaces no_devices p.devices

abbrev pub IsPlacedRead : BootRead → Type 0
IsPlacedRead (read.Refused ending) = ⊤
IsPlacedRead read.NoMemory = ⊤
IsPlacedRead (read.Whole part step before) = IsPlaced part
