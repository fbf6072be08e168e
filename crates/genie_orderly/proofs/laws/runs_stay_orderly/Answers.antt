-- Every state that a run reaches is orderly.
use Rattle.genie_orderly.proofs.Runs.Orderly.{runs_stay_orderly}
use Rattle.genie_orderly.proofs.laws.runs_stay_orderly.Goals as goal

pub returns : goal.returns
returns c = runs_stay_orderly
