use Rattle.genie_object.proofs.laws.lent_law.Goals as goal
use Rattle.genie_object.specs.Lemmas.Changing.{shows_lent}

pub returns : goal.returns
returns c = shows_lent
