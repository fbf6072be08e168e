-- Scripts run alike.
use Rattle.genie_runs.proofs.Alike.{scripts_run_alike}
use Rattle.genie_runs.proofs.laws.scripts_run_alike.Goals as goal

pub returns : goal.returns
returns c = scripts_run_alike c.runs_alike.ensures
