use Rattle.genie_room.proofs.Bounds.{counts_low}
use Rattle.genie_room.proofs.laws.counts_are_low.Goals as goal

pub returns : goal.returns
returns c = counts_low
