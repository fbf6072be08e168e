use Rattle.genie_object.proofs.laws.landed_law.Goals as goal
use Rattle.genie_object.specs.Lemmas.Showing.{shows_landed}

pub returns : goal.returns
returns c = shows_landed
