use Rattle.genie_changes.proofs.Beside.{held_beside_strong}
use Rattle.genie_changes.proofs.Fewer.{held_less}
use Rattle.genie_changes.proofs.Holding.{held_stay, held_as_orphans}
use Rattle.genie_changes.proofs.parts.held_pages_change.Goals as goal

pub returns-clause-stay : goal.returns-clause-stay
returns-clause-stay c = held_stay

pub returns-clause-less : goal.returns-clause-less
returns-clause-less c = held_less

pub returns-clause-strong : goal.returns-clause-strong
returns-clause-strong c = held_beside_strong

pub returns-clause-orphans : goal.returns-clause-orphans
returns-clause-orphans c = held_as_orphans
