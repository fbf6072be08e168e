use Rattle.genie_changes.proofs.Receiving.{arrived_worked}
use Rattle.genie_changes.proofs.work.worked_arrival.Goals as goal

pub returns : goal.returns
returns c = arrived_worked
