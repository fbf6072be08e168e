-- What the ends of inputs stand on.
use Rattle.genie_kernel.specs.Steps.{StaysOrderly}
use Rattle.genie_changes.specs.Ending.{NoBufferEnds, TransferEnds, GivenBackLeavesOthers, SettledLendsSoundly, GivenBackEndsLoans, GivenBackKeeps, GivenBackShows, OutlinesShowOthers, TransferLeaves}
use Rattle.genie_changes.specs.Pending.{PostedBesideLess}
use Rattle.genie_changes.specs.Settled.{GoodIsSettled, SettledIsGood}

-- what a transfer less leaves of the state and of what is true of a kernel
pub record EndLaws : Type 0 where
  pub orderly : StaysOrderly
  pub settled : GoodIsSettled
  pub good : SettledIsGood
  pub ends : TransferEnds
  pub unbuffered : NoBufferEnds
  pub lends : SettledLendsSoundly
  pub given : GivenBackLeavesOthers
  pub ended : GivenBackEndsLoans
  pub kept : GivenBackKeeps
  pub shows : GivenBackShows
  pub outlines : OutlinesShowOthers
  pub leaves : TransferLeaves
  pub posted : PostedBesideLess
