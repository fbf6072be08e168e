-- Texts that are alike run alike.
use Rattle.genie_runs.proofs.ByKernel.{texts_run_alike}
use Rattle.genie_runs.proofs.laws.texts_run_alike.Goals as goal

pub returns : goal.returns
returns c = texts_run_alike c.texts_say_alike.ensures.renamed c.kernel_runs_alike.ensures
