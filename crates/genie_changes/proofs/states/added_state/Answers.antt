use Rattle.genie_changes.proofs.Begun.{transfers_more, added_state}
use Rattle.genie_changes.proofs.states.added_state.Goals as goal

pub returns-clause-transfers : goal.returns-clause-transfers
returns-clause-transfers c = transfers_more

pub returns-clause-state : goal.returns-clause-state
returns-clause-state c = added_state
