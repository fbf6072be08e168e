use Rattle.std.proofs.Common.{◌-◌}
use Rattle.genie_cases.proofs.paging.+write_each.Given as goal

abbrev pub decreases-write_each : goal.decreases-write_each
decreases-write_each g l = 20 - l.index
