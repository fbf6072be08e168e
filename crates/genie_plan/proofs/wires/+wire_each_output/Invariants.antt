use Rattle.std.proofs.Common.{length}
use Rattle.genie_plan.proofs.wires.+wire_each_output.Given as goal

abbrev pub decreases-wire_each_output : goal.decreases-wire_each_output
decreases-wire_each_output l = length l.loans.now
