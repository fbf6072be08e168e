-- The inputs that are receiving.
use Rattle.genie_orderly.proofs.Inputs.Receivers.{moving_are_received}
use Rattle.genie_orderly.proofs.laws.moving_are_received.Goals as goal

pub returns : goal.returns
returns c = moving_are_received
