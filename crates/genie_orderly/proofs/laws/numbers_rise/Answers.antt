-- The numbers of the pending transfers.
use Rattle.genie_orderly.proofs.laws.numbers_rise.Goals as goal
use Rattle.genie_orderly.proofs.Transfers.Numbers.{numbers_rise}

pub returns : goal.returns
returns c = numbers_rise
