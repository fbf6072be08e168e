use Rattle.genie_room.proofs.Available.{four_available}
use Rattle.genie_room.proofs.laws.four_are_available.Goals as goal

pub returns : goal.returns
returns c = four_available
