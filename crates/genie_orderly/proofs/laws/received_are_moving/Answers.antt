-- The inputs for which devices receive.
use Rattle.genie_orderly.proofs.Inputs.Receivers.{received_are_moving}
use Rattle.genie_orderly.proofs.laws.received_are_moving.Goals as goal

pub returns : goal.returns
returns c = received_are_moving
