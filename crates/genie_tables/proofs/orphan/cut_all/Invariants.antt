use Rattle.std.proofs.Common.{◌≡◌, ◌++◌, take, drop}
use Rattle.std.specs.Prelude.{map}
use Rattle.genie_model.specs.Space.{cut}
use Rattle.genie_tables.proofs.orphan.cut_all.Given as goal

abbrev pub invariant-loop-orphan : goal.invariant-loop-orphan
invariant-loop-orphan l = l.orphans ≡ map (cut l.transfers) (take l.orphan-index l.fn.orphans) ++ drop l.orphan-index l.fn.orphans
