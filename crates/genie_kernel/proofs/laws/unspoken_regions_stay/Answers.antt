use Rattle.genie_kernel.specs.Lemmas.Keeping.{hidden_kept, guards_kept}
use Rattle.genie_kernel.proofs.laws.unspoken_regions_stay.Goals as goal

pub returns-clause-hidden : goal.returns-clause-hidden
returns-clause-hidden c = hidden_kept

pub returns-clause-guards : goal.returns-clause-guards
returns-clause-guards c = guards_kept
