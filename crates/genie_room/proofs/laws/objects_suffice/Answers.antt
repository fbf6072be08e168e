use Rattle.genie_room.proofs.Objects.{objects_below}
use Rattle.genie_room.proofs.laws.objects_suffice.Goals as goal

pub returns : goal.returns
returns c = objects_below
