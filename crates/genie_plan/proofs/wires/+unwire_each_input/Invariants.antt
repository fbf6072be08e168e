use Rattle.std.proofs.Common.{length}
use Rattle.genie_plan.proofs.wires.+unwire_each_input.Given as goal

abbrev pub decreases-unwire_each_input : goal.decreases-unwire_each_input
decreases-unwire_each_input l = length l.loans.now
