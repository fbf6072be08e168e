use Rattle.genie_kernel.specs.Lemmas.Changing.{changed_view}
use Rattle.genie_kernel.proofs.laws.regions_change.Goals as goal

pub returns : goal.returns
returns c = changed_view
