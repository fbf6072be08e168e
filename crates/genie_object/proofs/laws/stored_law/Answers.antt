use Rattle.genie_object.proofs.laws.stored_law.Goals as goal
use Rattle.genie_object.specs.Lemmas.Showing.{shows_stored}

pub returns : goal.returns
returns c = shows_stored
