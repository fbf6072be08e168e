use Rattle.std.proofs.Common.{◌-◌}
use Rattle.genie_plan.proofs.tests.+land_rest.Given as goal

abbrev pub decreases-land_rest : goal.decreases-land_rest
decreases-land_rest l = 80 - l.at
