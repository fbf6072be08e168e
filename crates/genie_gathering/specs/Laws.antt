-- What receive steps stand on.
use Rattle.genie_kernel.specs.Steps.{StaysOrderly}
use Rattle.genie_changes.specs.Removing.{GoodTransfersRise}
use Rattle.genie_changes.specs.Working.{OrphansWorked, TransfersWorked, CountedWorked, OwnedWorked, HeldWorked, PlannedWorked, FittingWorked, PostedTaken, SendingWorked, ReceivingWorked, ReceiverWorked, FirstWorked, ArrivedWorked}

-- what an input that has a datagram leaves of the state and of what is true of a kernel
pub record GatheringLaws : Type 0 where
  pub orderly : StaysOrderly
  pub rise : GoodTransfersRise
  pub orphans : OrphansWorked
  pub transfers : TransfersWorked
  pub counted : CountedWorked
  pub owned : OwnedWorked
  pub held : HeldWorked
  pub planned : PlannedWorked
  pub fitting : FittingWorked
  pub taken : PostedTaken
  pub first : FirstWorked
  pub sending : SendingWorked
  pub receiving : ReceivingWorked
  pub receiver : ReceiverWorked
  pub arrived : ArrivedWorked
