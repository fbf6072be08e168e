use Rattle.genie_kernel.specs.Lemmas.Removing.{posted_left}
use Rattle.genie_kernel.proofs.laws.posted_shrinks.Goals as goal

pub returns : goal.returns
returns c = posted_left
