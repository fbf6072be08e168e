use Rattle.genie_finish.proofs.Moving.{empty_can_store, zeros_behind}
use Rattle.genie_finish.proofs.laws.moves_end_in_zeros.Goals as goal

pub returns-clause-can : goal.returns-clause-can
returns-clause-can c = empty_can_store

pub returns-clause-zeros : goal.returns-clause-zeros
returns-clause-zeros c = zeros_behind
