use Rattle.std.proofs.Common.{◌-◌}
use Rattle.genie_cases.proofs.paging.+read_each.Given as goal

abbrev pub decreases-read_each : goal.decreases-read_each
decreases-read_each g l = 20 - l.index
