use Rattle.genie_changes.proofs.Planning.{fitting_less, fitting_more}
use Rattle.genie_changes.proofs.parts.fitting_changes.Goals as goal

pub returns-clause-less : goal.returns-clause-less
returns-clause-less c = fitting_less

pub returns-clause-more : goal.returns-clause-more
returns-clause-more c = fitting_more
