use Rattle.genie_changes.proofs.Planning.{planned_stay, planned_less, planned_more}
use Rattle.genie_changes.proofs.parts.plans_change.Goals as goal

pub returns-clause-stay : goal.returns-clause-stay
returns-clause-stay c = planned_stay

pub returns-clause-less : goal.returns-clause-less
returns-clause-less c = planned_less

pub returns-clause-more : goal.returns-clause-more
returns-clause-more c = planned_more
