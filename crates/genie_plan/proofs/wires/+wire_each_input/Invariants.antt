use Rattle.std.proofs.Common.{length}
use Rattle.genie_plan.proofs.wires.+wire_each_input.Given as goal

abbrev pub decreases-wire_each_input : goal.decreases-wire_each_input
decreases-wire_each_input l = length l.loans.now
