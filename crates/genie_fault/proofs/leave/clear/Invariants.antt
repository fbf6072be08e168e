use Rattle.std.proofs.Common.{ℕ, ◌<◌}
use Rattle.genie_object.specs.Leaving.{Empties, IsEmpty, is_object}
use Rattle.genie_fault.proofs.leave.clear.Given as goal

abbrev pub invariant-loop-index : goal.invariant-loop-index
invariant-loop-index l = record {
  empties : Empties (is_object l.object.0) l.fn.memory l.memory;
  empty : (j : ℕ) → j < l.index → IsEmpty l.memory l.object.0 j;
}
