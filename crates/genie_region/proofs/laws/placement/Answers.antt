use Rattle.genie_region.proofs.Places.{place_is_lowest, no_place_is_full}
use Rattle.genie_region.proofs.laws.placement.Goals as goal

pub returns-clause-lowest : goal.returns-clause-lowest
returns-clause-lowest c = place_is_lowest

pub returns-clause-full : goal.returns-clause-full
returns-clause-full c = no_place_is_full
