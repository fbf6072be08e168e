-- What input calls stand on.
use Rattle.genie_kernel.specs.Laws.{ViewIsTidy}
use Rattle.genie_kernel.specs.Steps.{StaysOrderly, AloneIsTold}
use Rattle.genie_changes.specs.Regions.{SpacedStay}
use Rattle.genie_changes.specs.Removing.{GoodIsListedIn, GoodIsOnlyIn, GoodRegionsFit, GoodTransfersRise}
use Rattle.genie_changes.specs.States.{AddedState}
use Rattle.genie_room.specs.Frames.{CallsCanBegin}
use Rattle.genie_changes.specs.Beginning.{GoodHasParts, PartsMakeGood, NewWaitsBehind, BegunHasParts, BegunIsKept, WeakBegins}

-- what a transfer more leaves of the state and of what is true of a kernel
pub record InputLaws : Type 0 where
  pub room : CallsCanBegin
  pub rise : GoodTransfersRise
  pub small : GoodRegionsFit
  pub only : GoodIsOnlyIn
  pub listed : GoodIsListedIn
  pub spaced : SpacedStay
  pub tidied : ViewIsTidy
  pub orderly : StaysOrderly
  pub alone : AloneIsTold
  pub added : AddedState
  pub made : PartsMakeGood
  pub has : GoodHasParts
  pub waits : NewWaitsBehind
  pub parts : BegunHasParts
  pub kept : BegunIsKept
  pub weak : WeakBegins
