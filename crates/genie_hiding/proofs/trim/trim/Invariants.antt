use Rattle.std.proofs.Common.{ℕ, ◌<◌}
use Rattle.genie_object.specs.Leaving.{Empties, is_object}
use Rattle.genie_hiding.specs.Trimming.{IsTrimmed, AllStay}
use Rattle.genie_hiding.proofs.trim.trim.Given as goal

abbrev pub invariant-loop-index : goal.invariant-loop-index
invariant-loop-index l = record {
  empties : Empties (is_object l.object.0) l.fn.memory l.memory;
  stays : AllStay l.fn.memory l.memory l.object.0;
  trimmed : (j : ℕ) → j < l.index → IsTrimmed l.memory l.object.0 j;
}
