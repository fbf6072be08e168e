-- What an output call stands on.
use Rattle.genie_kernel.specs.Steps.{StaysOrderly}
use Rattle.genie_changes.specs.Beginning.{PartsMakeGood, NewWaitsBehind, BegunHasParts, BegunIsKept, WeakBegins}
use Rattle.genie_changes.specs.Making.{MemoryIsMoved, MovesOn, KeptSinceMoved}
use Rattle.genie_changes.specs.Removing.{GoodRegionsFit}
use Rattle.genie_changes.specs.States.{AddedState}
use Rattle.genie_room.specs.Bounds.{CountsAreLow}
use Rattle.genie_room.specs.Frames.{CallsCanBegin}
use Rattle.genie_room.specs.Places.{PlacesSuffice}

-- what one transfer more leaves of the state and of what is true of a kernel, and the room that there is for it
pub record OutputLaws : Type 0 where
  pub orderly : StaysOrderly
  pub good : PartsMakeGood
  pub waits : NewWaitsBehind
  pub parts : BegunHasParts
  pub kept : BegunIsKept
  pub weak : WeakBegins
  pub added : AddedState
  pub moved : MemoryIsMoved
  pub on : MovesOn
  pub since : KeptSinceMoved
  pub fits : GoodRegionsFit
  pub begin : CallsCanBegin
  pub places : PlacesSuffice
  pub low : CountsAreLow
