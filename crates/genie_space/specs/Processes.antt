-- A process of the table.
use Rattle.std.specs.Prelude.{List, Option, Some, None, if◌then◌else◌}
use Rattle.genie_region.specs.declared.region.Region.{Region}
use Rattle.genie_space.specs.declared.space.Space.{Space}

-- its regions, or none where there is no process
abbrev pub process_of : Space → Option (List Region)
process_of s = if s.alive then Some s.regions else None
