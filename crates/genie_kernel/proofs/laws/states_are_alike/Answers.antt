use Rattle.genie_kernel.specs.Lemmas.Alike.{lent_suffice}
use Rattle.genie_kernel.proofs.laws.states_are_alike.Goals as goal

pub returns-clause-lent : goal.returns-clause-lent
returns-clause-lent c = lent_suffice
