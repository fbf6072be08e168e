use Rattle.std.proofs.Common.{◌≡◌, ◌++◌, ◌≤◌, drop, length}
use Rattle.std.specs.Prelude.{map}
use Rattle.genie_base.specs.declared.region.RegionState.TheVariants.{Live}
use Rattle.genie_model.specs.Regions.{with_state}
use Rattle.genie_model.specs.Space.{accessible}
use Rattle.genie_tables.proofs.process.live_copies.Given as goal

abbrev pub invariant-loop-region : goal.invariant-loop-region
invariant-loop-region l = record {
  so_far : l.copies.items ++ map (with_state Live) (accessible (drop l.region-index l.regions)) ≡ map (with_state Live) (accessible l.regions);
  few : length l.copies.items ≤ l.region-index;
}
