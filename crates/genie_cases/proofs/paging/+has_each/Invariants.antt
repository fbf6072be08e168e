use Rattle.std.proofs.Common.{◌-◌}
use Rattle.genie_cases.proofs.paging.+has_each.Given as goal

abbrev pub decreases-has_each : goal.decreases-has_each
decreases-has_each g l = 20 - l.index
