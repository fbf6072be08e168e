use Rattle.genie_room.proofs.Named.{owned_committed}
use Rattle.genie_room.proofs.laws.pages_are_committed.Goals as goal

pub returns : goal.returns
returns c = owned_committed
