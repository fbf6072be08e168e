-- The region of a transfer.
use Rattle.std.specs.Prelude.{ℕ, Option, None, Some}
use Rattle.std.specs.Option.{option_map}
use Rattle.genie_base.specs.declared.numbers.RegionId.{RegionId}
use Rattle.genie_region.specs.declared.region.Region.{Region}
use Rattle.genie_region.specs.Layouts.{region_of}
use Rattle.genie_space.specs.Spaces.{AddressSpaces, regions_of}
use Rattle.genie_endings.specs.declared.region.Placed.{Placed}

abbrev pub placed_in : ℕ → Region → Placed
placed_in p r = record { pid = p; region = r }

-- the region of this number, where this process has it
abbrev pub named : AddressSpaces → Option ℕ → Option RegionId → Option Placed
named spaces None id = None
named spaces (Some p) None = None
named spaces (Some p) (Some id) = option_map (placed_in p) (region_of id (regions_of p spaces))
