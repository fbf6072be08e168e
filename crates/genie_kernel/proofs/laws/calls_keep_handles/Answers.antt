use Rattle.genie_kernel.specs.Lemmas.OpenHandles.{handles_kept, others_kept}
use Rattle.genie_kernel.proofs.laws.calls_keep_handles.Goals as goal

pub returns-clause-open_each : goal.returns-clause-open_each
returns-clause-open_each c = handles_kept

pub returns-clause-others : goal.returns-clause-others
returns-clause-others c = others_kept
