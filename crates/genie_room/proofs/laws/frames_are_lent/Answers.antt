use Rattle.genie_room.proofs.Available.{frames_lent}
use Rattle.genie_room.proofs.laws.frames_are_lent.Goals as goal

pub returns : goal.returns
returns c = frames_lent
