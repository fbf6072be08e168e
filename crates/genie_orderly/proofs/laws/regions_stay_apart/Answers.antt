-- Regions stay apart.
use Rattle.genie_orderly.proofs.Regions.Spaces.{regions_stay_apart}
use Rattle.genie_orderly.proofs.laws.regions_stay_apart.Goals as goal

pub returns : goal.returns
returns c = regions_stay_apart
