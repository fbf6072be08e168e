use Rattle.genie_kernel.specs.Lemmas.Staying.{memory_good}
use Rattle.genie_kernel.specs.Lemmas.Keeping.{calls_kept}
use Rattle.genie_kernel.proofs.laws.memory_calls_keep_good.Goals as goal

pub returns-clause-good : goal.returns-clause-good
returns-clause-good c = memory_good

pub returns-clause-lent : goal.returns-clause-lent
returns-clause-lent c = calls_kept
