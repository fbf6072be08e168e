use Rattle.genie_changes.proofs.Settling.{good_settled, settled_good}
use Rattle.genie_changes.proofs.settled.good_kernels_are_settled.Goals as goal

pub returns-clause-settled : goal.returns-clause-settled
returns-clause-settled c = good_settled

pub returns-clause-good : goal.returns-clause-good
returns-clause-good c = settled_good
