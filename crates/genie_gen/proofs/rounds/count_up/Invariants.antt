use Rattle.std.proofs.Common.{◌≡◌, ◌+◌, ◌%◌, map}
use Rattle.std.specs.List.{range_with_len}
use Rattle.genie_gen.proofs.rounds.count_up.Given as goal

abbrev pub invariant-bytes : goal.invariant-bytes
invariant-bytes l = l.into ≡ map (λ j. (l.from + j) % 256) (range_with_len 0 l.at)
