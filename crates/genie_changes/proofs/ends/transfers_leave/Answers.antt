use Rattle.genie_changes.proofs.EndedTransfer.{transfer_leaves}
use Rattle.genie_changes.proofs.ends.transfers_leave.Goals as goal

pub returns : goal.returns
returns c = transfer_leaves
