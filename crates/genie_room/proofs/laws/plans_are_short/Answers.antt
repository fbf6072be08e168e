use Rattle.genie_room.proofs.Bounds.{plans_short}
use Rattle.genie_room.proofs.laws.plans_are_short.Goals as goal

pub returns : goal.returns
returns c = plans_short
