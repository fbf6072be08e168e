use Rattle.genie_kernel.specs.Lemmas.Lending.{counts_grow, counts_shrink}
use Rattle.genie_kernel.proofs.laws.counts_follow_transfers.Goals as goal

pub returns-clause-more : goal.returns-clause-more
returns-clause-more c = counts_grow

pub returns-clause-less : goal.returns-clause-less
returns-clause-less c = counts_shrink
