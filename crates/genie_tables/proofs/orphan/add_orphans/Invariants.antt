use Rattle.std.proofs.Common.{◌≡◌, drop}
use Rattle.genie_model.specs.Space.{add_orphans}
use Rattle.genie_tables.proofs.orphan.add_orphans.Given as goal

abbrev pub invariant-loop-region : goal.invariant-loop-region
invariant-loop-region l = add_orphans (drop l.region-index l.regions) l.orphans.items ≡ add_orphans l.regions l.fn.orphans.items
