-- The outcomes of texts that are alike.
use Rattle.genie_runs.proofs.Outcomes.{outcomes_are_alike}
use Rattle.genie_runs.proofs.laws.outcomes_are_alike.Goals as goal

pub returns : goal.returns
returns c = outcomes_are_alike c.texts_say_alike.ensures.renamed c.texts_run_alike.ensures
