use Rattle.std.proofs.Common.{◌≡◌, ◌++◌, take, drop}
use Rattle.genie_base.specs.Regions.{add_in_order}
use Rattle.genie_model.specs.State.{Region}
use Rattle.genie_model.specs.Regions.{extent_of}
use Rattle.genie_tables.proofs.process.place_for.Given as goal

abbrev pub invariant-loop-i : goal.invariant-loop-i
invariant-loop-i l = (r : Region) → r.start ≡ l.start → take l.i l.regions ++ add_in_order extent_of r (drop l.i l.regions) ≡ add_in_order extent_of r l.regions
