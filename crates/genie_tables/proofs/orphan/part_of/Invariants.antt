use Rattle.std.proofs.Common.{◌≡◌, ◌++◌, drop}
use Rattle.genie_model.specs.Regions.{bytes_within}
use Rattle.genie_tables.proofs.orphan.part_of.Given as goal

abbrev pub invariant-loop-pair : goal.invariant-loop-pair
invariant-loop-pair l = l.part.items ++ bytes_within l.at l.n (drop l.pair-index l.pairs) ≡ bytes_within l.at l.n l.pairs
