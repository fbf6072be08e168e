use Rattle.genie_kernel.specs.Lemmas.Receiving.{moving_received}
use Rattle.genie_kernel.proofs.laws.moving_are_receivers.Goals as goal

pub returns : goal.returns
returns c = moving_received
