use Rattle.std.proofs.Common.{◌≡◌, ◌≤◌, drop, length}
use Rattle.genie_model.specs.Regions.{regions_at}
use Rattle.genie_model.specs.Space.{add_copies}
use Rattle.genie_flat.proofs.machine.Machine.add_copies.Given as goal

abbrev pub invariant-loop-region : goal.invariant-loop-region
invariant-loop-region l = record {
  so_far : add_copies l.self l.pid (drop l.region-index l.regions) ≡ add_copies l.fn.self l.pid l.regions;
  few : length (regions_at l.self l.pid) ≤ l.region-index;
}
