-- The regions that inputs fill.
use Rattle.genie_orderly.proofs.Regions.Filled.{buffers_are_filled}
use Rattle.genie_orderly.proofs.laws.buffers_are_filled.Goals as goal

pub returns : goal.returns
returns c = buffers_are_filled
