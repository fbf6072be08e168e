use Rattle.genie_object.proofs.laws.taken_law.Goals as goal
use Rattle.genie_object.specs.Lemmas.Changing.{shows_taken}

pub returns : goal.returns
returns c = shows_taken
