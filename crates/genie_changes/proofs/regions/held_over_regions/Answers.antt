use Rattle.genie_changes.proofs.Backing.{held_over_regions, finds_named_more, finds_named_changed}
use Rattle.genie_changes.proofs.regions.held_over_regions.Goals as goal

pub returns-clause-held : goal.returns-clause-held
returns-clause-held c = held_over_regions

pub returns-clause-more : goal.returns-clause-more
returns-clause-more c = finds_named_more

pub returns-clause-changed : goal.returns-clause-changed
returns-clause-changed c = finds_named_changed
