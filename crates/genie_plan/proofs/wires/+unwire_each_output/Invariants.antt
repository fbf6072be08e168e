use Rattle.std.proofs.Common.{length}
use Rattle.genie_plan.proofs.wires.+unwire_each_output.Given as goal

abbrev pub decreases-unwire_each_output : goal.decreases-unwire_each_output
decreases-unwire_each_output l = length l.loans.now
