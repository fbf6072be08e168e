-- How many datagrams wait in a device.
use Rattle.genie_orderly.proofs.Inputs.Receivers.{depths_are_kept}
use Rattle.genie_orderly.proofs.laws.depths_are_kept.Goals as goal

pub returns : goal.returns
returns c = depths_are_kept
