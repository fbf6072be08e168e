-- The weak queues.
use Rattle.genie_orderly.proofs.Regions.Queues.{queues_list_out}
use Rattle.genie_orderly.proofs.laws.queues_list_out.Goals as goal

pub returns : goal.returns
returns c = queues_list_out
