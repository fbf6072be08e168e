use Rattle.std.proofs.Common.{◌-◌}
use Rattle.genie_cases.proofs.outputs.+sends.Given as goal

abbrev pub decreases-sends : goal.decreases-sends
decreases-sends l = 40 - l.at
