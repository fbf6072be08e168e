use Rattle.genie_room.proofs.Bounds.{calls_begin}
use Rattle.genie_room.proofs.laws.calls_can_begin.Goals as goal

pub returns : goal.returns
returns c = calls_begin
