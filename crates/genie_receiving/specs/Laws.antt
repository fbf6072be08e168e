-- What receive steps stand on.
use Rattle.genie_kernel.specs.Steps.{StaysOrderly}
use Rattle.genie_changes.specs.Orphans.{ByteOfPage}
use Rattle.genie_changes.specs.Premises.{NobodysFramesShow, OrphansLieInFrames, RegionsLeavePages}
use Rattle.genie_changes.specs.Removing.{GoodTransfersRise}
use Rattle.genie_changes.specs.Working.{OrphansWorked, TransfersWorked, CountedWorked, OwnedWorked, HeldWorked, PlannedWorked, FittingWorked, PostedWorked, PostedTaken, SendingWorked, ReceivingWorked, FirstWorked, ArrivedWorked}

-- what a transfer at another point of its work leaves of the state and of what is true of a kernel
pub record ReceiveLaws : Type 0 where
  pub orderly : StaysOrderly
  pub rise : GoodTransfersRise
  pub leaves : RegionsLeavePages
  pub show : NobodysFramesShow
  pub lie : OrphansLieInFrames
  pub byte : ByteOfPage
  pub orphans : OrphansWorked
  pub transfers : TransfersWorked
  pub counted : CountedWorked
  pub owned : OwnedWorked
  pub held : HeldWorked
  pub planned : PlannedWorked
  pub fitting : FittingWorked
  pub posted : PostedWorked
  pub taken : PostedTaken
  pub first : FirstWorked
  pub sending : SendingWorked
  pub receiving : ReceivingWorked
  pub arrived : ArrivedWorked
