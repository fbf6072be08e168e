use Rattle.std.proofs.Common.{◌≡◌, None, map, vec_len}
use Rattle.std.specs.Prelude.{replicate}
use Rattle.genie_space.specs.Processes.{process_of}
use Rattle.genie_space.proofs.spaces.Spaces.new.Given as goal

abbrev pub invariant-processes : goal.invariant-processes
invariant-processes l = record {
  none : map process_of l.spaces.items ≡ replicate l.counter None;
  len : vec_len l.spaces ≡ l.counter;
}
