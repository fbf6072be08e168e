use Rattle.genie_changes.proofs.Receiving.{sending_worked, receiving_worked}
use Rattle.genie_changes.proofs.Working.{first_worked, receiver_worked}
use Rattle.genie_changes.proofs.work.worked_devices.Goals as goal

pub returns-clause-first : goal.returns-clause-first
returns-clause-first c = first_worked

pub returns-clause-receiver : goal.returns-clause-receiver
returns-clause-receiver c = receiver_worked

pub returns-clause-sending : goal.returns-clause-sending
returns-clause-sending c = sending_worked

pub returns-clause-receiving : goal.returns-clause-receiving
returns-clause-receiving c = receiving_worked
