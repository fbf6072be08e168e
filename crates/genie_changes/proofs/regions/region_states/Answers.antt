use Rattle.genie_changes.proofs.Spaces.{added_region, changed_region}
use Rattle.genie_changes.proofs.regions.region_states.Goals as goal

pub returns-clause-added : goal.returns-clause-added
returns-clause-added c = added_region

pub returns-clause-changed : goal.returns-clause-changed
returns-clause-changed c = changed_region
