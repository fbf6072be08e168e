use Rattle.genie_changes.proofs.ProcessGone.{gone_state, process_goes}
use Rattle.genie_changes.proofs.gone.processes_go.Goals as goal

pub returns-clause-settled : goal.returns-clause-settled
returns-clause-settled c = process_goes

pub returns-clause-state : goal.returns-clause-state
returns-clause-state c = λ k p b there g. gone_state k p there g b
