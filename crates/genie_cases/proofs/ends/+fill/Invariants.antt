use Rattle.std.proofs.Common.{◌-◌}
use Rattle.genie_cases.proofs.ends.+fill.Given as goal

abbrev pub decreases-fill : goal.decreases-fill
decreases-fill g l = 3 - l.k
