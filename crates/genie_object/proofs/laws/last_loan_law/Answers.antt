use Rattle.genie_object.proofs.laws.last_loan_law.Goals as goal
use Rattle.genie_object.specs.Lemmas.Changing.{shows_last_loan}

pub returns : goal.returns
returns c = shows_last_loan
