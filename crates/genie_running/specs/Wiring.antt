-- The handles of the devices' files, in the configuration that a kernel is booted with.
use Rattle.std.specs.Prelude.{◌≡◌, ℕ, ◌+◌, List, [], ◌∷◌, length, replicate, slice_set, Option, None, Some}
use Rattle.std.specs.Option.{option_map}
use Rattle.genie_base.specs.Configs.{config_of}
use Rattle.genie_base.specs.declared.config.Config.{Config}
use Rattle.genie_base.specs.declared.config.DeviceConfig.{DeviceConfig}
use Rattle.genie_script.specs.Judge.{Part}
use Rattle.genie_script.specs.declared.line.DeviceLine.{DeviceLine}
use Rattle.genie_replay.specs.Files.{openings_of}

-- the device of a line, where so many files were opened before it: its input is the first file that it opens, and its
-- output the last one
abbrev pub device_at : ℕ → DeviceLine → DeviceConfig
device_at opened d = record {
  kind = d.kind;
  input = option_map (λ name. opened + 1) d.input;
  output = option_map (λ name. opened + length (openings_of d)) d.output;
  depth = d.depth;
  offset = d.offset;
}

-- the devices of these lines, put where they belong
abbrev pub wired_from : List (Option DeviceConfig) → ℕ → List DeviceLine → List (Option DeviceConfig)
wired_from places opened [] = places
wired_from places opened (d ∷ devices) = wired_from (slice_set places d.number (Some (device_at opened d))) (opened + length (openings_of d)) devices

abbrev pub no_wires : List (Option DeviceConfig)
no_wires = replicate 8 None

-- the configuration of a boot part, with the handles that the files have once they are open behind the script
pub record IsWired (p : Part) (c : Config) : Type 0 where
  pub config : config_of c ≡ p.config
  pub devices : c.devices ≡ wired_from no_wires 1 p.devices
