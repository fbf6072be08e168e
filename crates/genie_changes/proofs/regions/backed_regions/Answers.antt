use Rattle.genie_changes.proofs.Backing.{backed_more, backed_changed}
use Rattle.genie_changes.proofs.regions.backed_regions.Goals as goal

pub returns-clause-more : goal.returns-clause-more
returns-clause-more c = backed_more

pub returns-clause-changed : goal.returns-clause-changed
returns-clause-changed c = backed_changed
