use Rattle.std.proofs.Common.{◌≡◌, ◌++◌, take, drop}
use Rattle.std.specs.Prelude.{map}
use Rattle.genie_tables.specs.Changes.{change_of}
use Rattle.genie_model.specs.Regions.{changed}
use Rattle.genie_tables.proofs.process.change_in_all.Given as goal

abbrev pub invariant-loop-region : goal.invariant-loop-region
invariant-loop-region l = l.regions ≡ map (changed l.number (change_of l.change)) (take l.region-index l.fn.regions) ++ drop l.region-index l.fn.regions
