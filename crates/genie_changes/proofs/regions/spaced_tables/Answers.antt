use Rattle.genie_changes.proofs.Spaces.{spaced_stay}
use Rattle.genie_changes.proofs.regions.spaced_tables.Goals as goal

pub returns : goal.returns
returns c = spaced_stay
