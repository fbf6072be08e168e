use Rattle.genie_changes.proofs.Leaving.{leaves_others, finds_others, processes_less, backed_less}
use Rattle.genie_changes.proofs.regions.removed_region.Goals as goal

pub returns-clause-left : goal.returns-clause-left
returns-clause-left c = leaves_others

pub returns-clause-found : goal.returns-clause-found
returns-clause-found c = finds_others

pub returns-clause-processes : goal.returns-clause-processes
returns-clause-processes c = λ s ps queues p n rs. processes_less s n ps queues p rs

pub returns-clause-backed : goal.returns-clause-backed
returns-clause-backed c = backed_less
