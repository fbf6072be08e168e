use Rattle.genie_object.proofs.laws.unseen_end_law.Goals as goal
use Rattle.genie_object.specs.Lemmas.Changing.{shows_unseen_end}

pub returns : goal.returns
returns c = shows_unseen_end
