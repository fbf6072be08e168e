use Rattle.genie_changes.proofs.Receiving.{posted_worked, posted_taken}
use Rattle.genie_changes.proofs.work.worked_posted.Goals as goal

pub returns-clause-worked : goal.returns-clause-worked
returns-clause-worked c = posted_worked

pub returns-clause-taken : goal.returns-clause-taken
returns-clause-taken c = posted_taken
