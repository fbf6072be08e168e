use Rattle.genie_changes.proofs.Matching.{sending_less, sending_more}
use Rattle.genie_changes.proofs.parts.sending_changes.Goals as goal

pub returns-clause-less : goal.returns-clause-less
returns-clause-less c = sending_less

pub returns-clause-more : goal.returns-clause-more
returns-clause-more c = sending_more
