use Rattle.genie_changes.proofs.Moved.{memory_moved, room_made}
use Rattle.genie_changes.proofs.making.memory_moves.Goals as goal

pub returns-clause-room : goal.returns-clause-room
returns-clause-room c = λ old new v w good sized only room. room_made c.memory_calls_keep_good.ensures.good c.memory_calls_keep_good.ensures.lent old new v w good only sized room

pub returns-clause-calls : goal.returns-clause-calls
returns-clause-calls c = λ old new v w good only shows. memory_moved c.memory_calls_keep_good.ensures.good c.memory_calls_keep_good.ensures.lent old new v w good only shows
