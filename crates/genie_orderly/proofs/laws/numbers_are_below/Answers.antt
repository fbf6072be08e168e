-- The numbers of regions and orphans.
use Rattle.genie_orderly.proofs.Regions.Distinct.{numbers_are_below}
use Rattle.genie_orderly.proofs.laws.numbers_are_below.Goals as goal

pub returns : goal.returns
returns c = numbers_are_below
