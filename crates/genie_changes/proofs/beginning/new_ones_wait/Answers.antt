use Rattle.genie_changes.proofs.Starting.{new_waits}
use Rattle.genie_changes.proofs.beginning.new_ones_wait.Goals as goal

pub returns : goal.returns
returns c = new_waits
