use Rattle.genie_changes.proofs.Backing.{guarded_more, guarded_less, guarded_changed}
use Rattle.genie_changes.proofs.regions.guarded_regions.Goals as goal

pub returns-clause-more : goal.returns-clause-more
returns-clause-more c = λ objects ps p r rs e here h. guarded_more objects ps p rs e h r here

pub returns-clause-less : goal.returns-clause-less
returns-clause-less c = λ objects ps p n rs e h. guarded_less objects ps p rs e h n

pub returns-clause-changed : goal.returns-clause-changed
returns-clause-changed c = λ objects ps p n g rs e here h. guarded_changed objects ps p rs e h n g here
