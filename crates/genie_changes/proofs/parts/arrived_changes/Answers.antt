use Rattle.genie_changes.proofs.Matching.{arrived_less, arrived_beside_less, arrived_more}
use Rattle.genie_changes.proofs.parts.arrived_changes.Goals as goal

pub returns-clause-less : goal.returns-clause-less
returns-clause-less c = arrived_less

pub returns-clause-beside_less : goal.returns-clause-beside_less
returns-clause-beside_less c = arrived_beside_less

pub returns-clause-more : goal.returns-clause-more
returns-clause-more c = arrived_more
