-- What a send step stands on.
use Rattle.genie_kernel.specs.Steps.{StaysOrderly}
use Rattle.genie_changes.specs.Orphans.{ByteOfPage, OrphanLies}
use Rattle.genie_changes.specs.Premises.{NobodysFramesShow, OrphansLieInFrames, RegionsLeavePages}
use Rattle.genie_changes.specs.Removing.{GoodTransfersRise}
use Rattle.genie_changes.specs.Working.{OrphansWorked, TransfersSent, CountedWorked, OwnedWorked, HeldWorked, PlannedWorked, FittingWorked, PostedWorked, SendingWorked, ReceivingWorked, ReceiverWorked, ArrivedWorked}

-- what the work on one transfer leaves of the state and of what is true of a kernel, and where the bytes of regions and
-- orphans are
pub record WorkLaws : Type 0 where
  pub orderly : StaysOrderly
  pub rise : GoodTransfersRise
  pub orphans : OrphansWorked
  pub sent : TransfersSent
  pub counted : CountedWorked
  pub owned : OwnedWorked
  pub held : HeldWorked
  pub planned : PlannedWorked
  pub fitting : FittingWorked
  pub posted : PostedWorked
  pub sending : SendingWorked
  pub receiving : ReceivingWorked
  pub receiver : ReceiverWorked
  pub arrived : ArrivedWorked
  pub byte : ByteOfPage
  pub show : NobodysFramesShow
  pub lies : OrphanLies
  pub lie : OrphansLieInFrames
  pub leaves : RegionsLeavePages
