use Rattle.genie_changes.proofs.EndedTransfer.{transfer_ends_over}
use Rattle.genie_changes.proofs.released.transfers_end_over.Goals as goal

pub returns : goal.returns
returns c = transfer_ends_over
