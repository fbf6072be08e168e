use Rattle.genie_changes.proofs.Removed.{removed_state}
use Rattle.genie_changes.proofs.states.removed_state.Goals as goal

pub returns : goal.returns
returns c = removed_state
