use Rattle.genie_object.proofs.laws.unlent_law.Goals as goal
use Rattle.genie_object.specs.Lemmas.Changing.{shows_unlent}

pub returns : goal.returns
returns c = shows_unlent
