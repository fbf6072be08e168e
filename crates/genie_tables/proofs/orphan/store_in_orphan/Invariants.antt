use Rattle.std.proofs.Common.{◌≡◌, ◌++◌, take, drop}
use Rattle.std.specs.Prelude.{map}
use Rattle.genie_model.specs.Regions.{stored_in_orphan}
use Rattle.genie_tables.proofs.orphan.store_in_orphan.Given as goal

abbrev pub invariant-loop-orphan : goal.invariant-loop-orphan
invariant-loop-orphan l = l.orphans ≡ map (stored_in_orphan l.number l.at l.bytes) (take l.orphan-index l.fn.orphans) ++ drop l.orphan-index l.fn.orphans
