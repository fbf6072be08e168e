-- A step from an orderly state leaves an orderly one.
use Rattle.genie_orderly.proofs.Runs.Orderly.{step_is_orderly}
use Rattle.genie_orderly.proofs.laws.steps_stay_orderly.Goals as goal

pub returns : goal.returns
returns c = step_is_orderly
