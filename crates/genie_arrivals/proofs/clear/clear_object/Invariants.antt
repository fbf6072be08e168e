use Rattle.genie_arrivals.proofs.Emptying.{ClearsSoFar}
use Rattle.genie_arrivals.proofs.clear.clear_object.Given as goal

abbrev pub invariant-entries : goal.invariant-entries
invariant-entries l = ClearsSoFar l.fn.memory l.memory l.object.0 l.index
