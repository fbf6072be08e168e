use Rattle.std.proofs.Common.{◌≡◌, ◌+◌, ◌*◌, ◌<◌, length}
use Rattle.genie_script.specs.Hex.{pairs_of}
use Rattle.genie_script.proofs.Pairs.{with_front}
use Rattle.genie_script.proofs.hex.pairs.Given as goal

abbrev pub invariant-pairs : goal.invariant-pairs
invariant-pairs l = record {
  room : 2 * length l.into + length l.rest < 8193;
  so_far : with_front l.into (pairs_of l.rest) ≡ pairs_of l.text;
}

abbrev pub decreases-pairs : goal.decreases-pairs
decreases-pairs l = length l.rest
