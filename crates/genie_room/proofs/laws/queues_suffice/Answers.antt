use Rattle.genie_room.proofs.Queues.{queues_suffice}
use Rattle.genie_room.proofs.laws.queues_suffice.Goals as goal

pub returns : goal.returns
returns c = queues_suffice
