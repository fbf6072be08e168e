use Rattle.genie_kernel.specs.Lemmas.Owning.{owned_more, owned_less}
use Rattle.genie_kernel.proofs.laws.owners_follow_transfers.Goals as goal

pub returns-clause-more : goal.returns-clause-more
returns-clause-more c = owned_more

pub returns-clause-less : goal.returns-clause-less
returns-clause-less c = owned_less
