use Rattle.genie_changes.proofs.MovedOut.{moved_parts, moved_state}
use Rattle.genie_changes.proofs.moving_out.regions_move_out.Goals as goal

pub returns-clause-parts : goal.returns-clause-parts
returns-clause-parts c = moved_parts

pub returns-clause-state : goal.returns-clause-state
returns-clause-state c = λ k p id rs b there. moved_state k p id rs there b
