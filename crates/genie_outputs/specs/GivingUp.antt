-- What an output call stands on that gives its buffer up.
use Rattle.genie_changes.specs.Hiding.{HidingSettles, HidingKeeps, HidingShows, HidingState}
use Rattle.genie_changes.specs.MovingOut.{MovedOutHasParts, MovedOutState}
use Rattle.genie_changes.specs.Removal.{RemovalSettles, RemovalKeeps, RemovalShows, OutlinesShowRemoval, RemovalState}
use Rattle.genie_changes.specs.Removing.{GoodIsOnlyIn, GoodTransfersRise}
use Rattle.genie_changes.specs.Settled.{GoodIsSettled, SettledIsGood}
use Rattle.genie_room.specs.Places.{QueuesSuffice}

-- what a region leaves that is moved out, and the room that there is for it in the weak queue
pub record MovingLaws : Type 0 where
  pub parts : MovedOutHasParts
  pub state : MovedOutState
  pub only : GoodIsOnlyIn
  pub queues : QueuesSuffice

-- what a region leaves that is removed, between two changes of the event
pub record RemovalLaws : Type 0 where
  pub settled : GoodIsSettled
  pub rising : GoodTransfersRise
  pub good : SettledIsGood
  pub settles : RemovalSettles
  pub keeps : RemovalKeeps
  pub shows : RemovalShows
  pub outlines : OutlinesShowRemoval
  pub state : RemovalState

-- and one that is hidden
pub record HidingLaws : Type 0 where
  pub settles : HidingSettles
  pub keeps : HidingKeeps
  pub shows : HidingShows
  pub state : HidingState
