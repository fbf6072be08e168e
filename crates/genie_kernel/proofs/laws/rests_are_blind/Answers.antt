use Rattle.genie_kernel.specs.Lemmas.DeviceViews.{rests_blind}
use Rattle.genie_kernel.proofs.laws.rests_are_blind.Goals as goal

pub returns : goal.returns
returns c = rests_blind
