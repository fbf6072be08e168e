-- What a host tells of the devices' inputs and outputs.
use Rattle.std.specs.Prelude.{ℕ, List, [], ◌∷◌, map, Option, None, Some, option_and_then, slice_index_or}
use Rattle.std.specs.Option.{option_map}
use Rattle.genie_base.specs.declared.config.DeviceConfig.{DeviceConfig}
use Rattle.genie_base.specs.declared.config.Config.{Config}
use Rattle.genie_host.specs.Host.{HostView}

-- the bytes of a device's file; a device without one has none
abbrev pub told_at : HostView → Option ℕ → Option (List ℕ)
told_at host None = Some []
told_at host (Some handle) = (host.handle handle).bytes

-- the bytes of all these files, where all are told
abbrev pub told : HostView → List (Option ℕ) → Option (List (List ℕ))
told host [] = Some []
told host (h ∷ handles) = option_and_then (λ bytes. option_map (λ rest. bytes ∷ rest) (told host handles)) (told_at host h)

-- by the numbers of their devices
abbrev pub by_number : List (List ℕ) → ℕ → List ℕ
by_number files d = slice_index_or files d []

abbrev pub input_at : Option DeviceConfig → Option ℕ
input_at None = None
input_at (Some d) = d.input

abbrev pub output_at : Option DeviceConfig → Option ℕ
output_at None = None
output_at (Some d) = d.output

-- what is left of each input, and what was written to each output
abbrev pub rests_of : HostView → Config → Option (ℕ → List ℕ)
rests_of host c = option_map by_number (told host (map input_at c.devices))

abbrev pub sents_of : HostView → Config → Option (ℕ → List ℕ)
sents_of host c = option_map by_number (told host (map output_at c.devices))
