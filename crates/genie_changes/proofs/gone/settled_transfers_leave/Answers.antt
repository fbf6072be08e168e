use Rattle.genie_changes.proofs.SettledEnds.{settled_leaves}
use Rattle.genie_changes.proofs.gone.settled_transfers_leave.Goals as goal

pub returns : goal.returns
returns c = settled_leaves
