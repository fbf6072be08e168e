use Rattle.genie_changes.proofs.Ended.{left_state}
use Rattle.genie_changes.proofs.states.left_state.Goals as goal

pub returns : goal.returns
returns c = left_state
