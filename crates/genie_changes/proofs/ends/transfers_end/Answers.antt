use Rattle.genie_changes.proofs.EndedTransfer.{transfer_ends, no_buffer_ends}
use Rattle.genie_changes.proofs.ends.transfers_end.Goals as goal

pub returns-clause-ends : goal.returns-clause-ends
returns-clause-ends c = transfer_ends

pub returns-clause-unbuffered : goal.returns-clause-unbuffered
returns-clause-unbuffered c = no_buffer_ends
