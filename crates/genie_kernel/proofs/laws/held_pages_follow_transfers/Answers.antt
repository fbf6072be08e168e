use Rattle.genie_kernel.specs.Lemmas.HeldMore.{held_more}
use Rattle.genie_kernel.specs.Lemmas.HeldLess.{held_less}
use Rattle.genie_kernel.specs.Lemmas.Orphaned.{held_as_orphans}
use Rattle.genie_kernel.proofs.laws.held_pages_follow_transfers.Goals as goal

pub returns-clause-more : goal.returns-clause-more
returns-clause-more c = held_more

pub returns-clause-less : goal.returns-clause-less
returns-clause-less c = held_less

pub returns-clause-orphans : goal.returns-clause-orphans
returns-clause-orphans c = held_as_orphans
