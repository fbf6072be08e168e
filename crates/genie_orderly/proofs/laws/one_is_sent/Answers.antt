-- The outputs that wait for a device.
use Rattle.genie_orderly.proofs.Inputs.Receivers.{one_is_sent}
use Rattle.genie_orderly.proofs.laws.one_is_sent.Goals as goal

pub returns : goal.returns
returns c = one_is_sent
