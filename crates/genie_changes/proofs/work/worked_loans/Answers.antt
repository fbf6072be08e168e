use Rattle.genie_changes.proofs.Working.{counted_worked, owned_worked, held_worked, planned_worked, fitting_worked}
use Rattle.genie_changes.proofs.work.worked_loans.Goals as goal

pub returns-clause-counted : goal.returns-clause-counted
returns-clause-counted c = counted_worked

pub returns-clause-owned : goal.returns-clause-owned
returns-clause-owned c = owned_worked

pub returns-clause-held : goal.returns-clause-held
returns-clause-held c = held_worked

pub returns-clause-planned : goal.returns-clause-planned
returns-clause-planned c = planned_worked

pub returns-clause-fitting : goal.returns-clause-fitting
returns-clause-fitting c = fitting_worked
