use Rattle.std.proofs.Common.{◌-◌}
use Rattle.genie_cases.proofs.ends.+has_after.Given as goal

abbrev pub decreases-has_after : goal.decreases-has_after
decreases-has_after g l = 3 - l.index
