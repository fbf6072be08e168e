-- The datagrams that devices receive.
use Rattle.genie_orderly.proofs.Inputs.Receivers.{datagrams_suit}
use Rattle.genie_orderly.proofs.laws.datagrams_suit.Goals as goal

pub returns : goal.returns
returns c = datagrams_suit
