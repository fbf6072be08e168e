use Rattle.genie_changes.proofs.InRegion.{weak_begins}
use Rattle.genie_changes.proofs.beginning.weak_transfers_begin.Goals as goal

pub returns : goal.returns
returns c = weak_begins
