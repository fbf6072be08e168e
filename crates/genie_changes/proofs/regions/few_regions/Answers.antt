use Rattle.genie_changes.proofs.Backing.{few_more, few_less, few_changed}
use Rattle.genie_changes.proofs.regions.few_regions.Goals as goal

pub returns-clause-more : goal.returns-clause-more
returns-clause-more c = λ ps hidden p r rs e. few_more ps hidden p rs e r

pub returns-clause-less : goal.returns-clause-less
returns-clause-less c = λ ps hidden p n rs e. few_less ps hidden p rs e n

pub returns-clause-changed : goal.returns-clause-changed
returns-clause-changed c = λ ps hidden p n g rs e. few_changed ps hidden p rs e n g
