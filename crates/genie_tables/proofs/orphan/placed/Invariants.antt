use Rattle.std.proofs.Common.{◌≡◌, ◌++◌, drop}
use Rattle.genie_model.specs.Space.{placed}
use Rattle.genie_tables.proofs.orphan.placed.Given as goal

abbrev pub invariant-loop-i : goal.invariant-loop-i
invariant-loop-i l = l.pairs.items ++ placed l.i (drop l.i l.bytes) ≡ placed 0 l.bytes
