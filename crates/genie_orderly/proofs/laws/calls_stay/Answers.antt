-- What is so of each pending transfer.
use Rattle.genie_orderly.proofs.Inputs.Receivers.{calls_stay}
use Rattle.genie_orderly.proofs.laws.calls_stay.Goals as goal

pub returns : goal.returns
returns c = calls_stay
