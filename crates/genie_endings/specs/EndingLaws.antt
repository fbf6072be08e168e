-- What the ends of transfers stand on.
use Rattle.genie_kernel.specs.Steps.{StaysOrderly}
use Rattle.genie_changes.specs.Ending.{NoBufferEnds, TransferEnds, GivenBackLeavesOthers, SettledLendsSoundly, GivenBackEndsLoans, GivenBackKeeps, GivenBackShows, OutlinesShowOthers, TransferLeaves}
use Rattle.genie_changes.specs.Pending.{PostedLess, PostedBesideLess}
use Rattle.genie_changes.specs.Removal.{RemovalKeeps, RemovalSettles}
use Rattle.genie_changes.specs.Settled.{GoodIsSettled, SettledIsGood}
use Rattle.genie_changes.specs.Turned.{TurnedSettles, MovedOutState, MovedOutLists}
use Rattle.genie_changes.specs.Unnamed.{OutlinesShowOtherRegions, RemovalShowsOthers, UnnamedRemoval, UnnamedState}

-- what a transfer less leaves of the state and of what is true of a kernel
pub record EndingLaws : Type 0 where
  pub orderly : StaysOrderly
  pub settled : GoodIsSettled
  pub good : SettledIsGood
  pub ends : TransferEnds
  pub unbuffered : NoBufferEnds
  pub others : GivenBackLeavesOthers
  pub sound : SettledLendsSoundly
  pub loans : GivenBackEndsLoans
  pub kept : GivenBackKeeps
  pub shown : GivenBackShows
  pub outlines : OutlinesShowOthers
  pub state : TransferLeaves
  pub posted : PostedLess
  pub beside : PostedBesideLess
  pub turns : TurnedSettles
  pub moved : MovedOutState
  pub lists : MovedOutLists

-- what a region leaves that is removed while no weak transfer names it
pub record RemovalLaws : Type 0 where
  pub settles : RemovalSettles
  pub keeps : RemovalKeeps
  pub shows : RemovalShowsOthers
  pub outlines : OutlinesShowOtherRegions
  pub state : UnnamedState
  pub removal : UnnamedRemoval
