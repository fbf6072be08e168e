use Rattle.genie_room.proofs.Kept.{buffers_suffice}
use Rattle.genie_room.proofs.laws.buffers_suffice.Goals as goal

pub returns : goal.returns
returns c = buffers_suffice
