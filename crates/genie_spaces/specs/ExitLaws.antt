-- What the removal of regions and the end of a process stand on.
use Rattle.genie_kernel.specs.Steps.{StaysOrderly}
use Rattle.genie_changes.specs.Ending.{NoBufferEnds, TransferEnds, GivenBackLeavesOthers, SettledLendsSoundly, GivenBackEndsLoans, GivenBackShows, OutlinesShowOthers}
use Rattle.genie_changes.specs.Gone.{GoneState, KeptBytesAreAlike, ProcessGoes, SettledTransferLeaves}
use Rattle.genie_changes.specs.Pending.{PostedLess}
use Rattle.genie_changes.specs.Removal.{OutlinesShowRemoval, RemovalKeeps, RemovalSettles, RemovalShows, RemovalState}
use Rattle.genie_changes.specs.Settled.{GoodIsSettled, SettledIsGood}

-- what a region less leaves of the state and of what is true of a kernel
pub record RemovalLaws : Type 0 where
  pub orderly : StaysOrderly
  pub settled : GoodIsSettled
  pub good : SettledIsGood
  pub settles : RemovalSettles
  pub keeps : RemovalKeeps
  pub shows : RemovalShows
  pub outlines : OutlinesShowRemoval
  pub state : RemovalState

-- and what a posted input less and a process less leave of them
pub record ExitLaws : Type 0 where
  pub removal : RemovalLaws
  pub alike : KeptBytesAreAlike
  pub ends : TransferEnds
  pub unbuffered : NoBufferEnds
  pub others : GivenBackLeavesOthers
  pub sound : SettledLendsSoundly
  pub loans : GivenBackEndsLoans
  pub shown : GivenBackShows
  pub blind : OutlinesShowOthers
  pub leaves : SettledTransferLeaves
  pub posted : PostedLess
  pub goes : ProcessGoes
  pub gone : GoneState
