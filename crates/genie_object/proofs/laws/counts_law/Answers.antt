use Rattle.genie_object.proofs.laws.counts_law.Goals as goal
use Rattle.genie_object.specs.Lemmas.Showing.{shows_counts}

pub returns : goal.returns
returns c = shows_counts
