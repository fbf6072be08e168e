use Rattle.std.proofs.Common.{◌≡◌, ◌++◌, take, drop}
use Rattle.std.specs.Prelude.{map}
use Rattle.genie_model.specs.Regions.{stored_at}
use Rattle.genie_tables.proofs.orphan.store_in_each.Given as goal

abbrev pub invariant-loop-pair : goal.invariant-loop-pair
invariant-loop-pair l = l.pairs ≡ map (stored_at l.at l.bytes) (take l.pair-index l.fn.pairs) ++ drop l.pair-index l.fn.pairs
