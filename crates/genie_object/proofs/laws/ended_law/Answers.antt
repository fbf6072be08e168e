use Rattle.genie_object.proofs.laws.ended_law.Goals as goal
use Rattle.genie_object.specs.Lemmas.Changing.{shows_ended}

pub returns : goal.returns
returns c = shows_ended
