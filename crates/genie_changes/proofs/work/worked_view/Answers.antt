use Rattle.genie_changes.proofs.Ending.{transfers_sent}
use Rattle.genie_changes.proofs.Working.{orphans_worked, transfers_worked}
use Rattle.genie_changes.proofs.work.worked_view.Goals as goal

pub returns-clause-orphans : goal.returns-clause-orphans
returns-clause-orphans c = orphans_worked

pub returns-clause-transfers : goal.returns-clause-transfers
returns-clause-transfers c = transfers_worked

pub returns-clause-sent : goal.returns-clause-sent
returns-clause-sent c = transfers_sent
