use Rattle.std.proofs.Common.{◌-◌}
use Rattle.genie_cases.proofs.outputs.+has_ones.Given as goal

abbrev pub decreases-has_ones : goal.decreases-has_ones
decreases-has_ones g l = 3 - l.index
