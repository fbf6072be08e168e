-- What a process's regions leave in the address spaces once they have been lent.
use Rattle.std.specs.Prelude.{ℕ, List}
use Rattle.std.specs.Borrow.{Lends, MutBor, Fml}
use Rattle.genie_region.specs.declared.region.Region.{Region}
use Rattle.genie_space.specs.Spaces.{AddressSpaces, set_regions}
use Rattle.genie_region.specs.contracts.regions.Regions.{the_row as regions_row}
use Rattle.genie_space.specs.contracts.spaces.Spaces.{the_row as spaces_row}

-- the process has the regions that were left behind the reference, and every other process is as it was
abbrev pub LendsRegions : MutBor AddressSpaces → ℕ → MutBor (List Region) → Fml
LendsRegions s pid r = Lends spaces_row regions_row s r (set_regions s.now pid)
