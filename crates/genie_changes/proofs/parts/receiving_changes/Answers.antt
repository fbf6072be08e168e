use Rattle.genie_changes.proofs.Matching.{receiving_less, receiving_more}
use Rattle.genie_changes.proofs.parts.receiving_changes.Goals as goal

pub returns-clause-less : goal.returns-clause-less
returns-clause-less c = receiving_less

pub returns-clause-more : goal.returns-clause-more
returns-clause-more c = receiving_more
