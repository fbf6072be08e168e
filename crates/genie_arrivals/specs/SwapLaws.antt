-- What the end of a transfer stands on whose buffer is stored.
use Rattle.genie_kernel.specs.Laws.{LentFramesSuffice}
use Rattle.genie_changes.specs.Pages.{HeldLess, HeldStay}
use Rattle.genie_changes.specs.Pending.{ArrivedBesideLess, FittingLess, PlannedLess, PlannedStay, ReceivingLess, SendingLess}
use Rattle.genie_changes.specs.Premises.{NobodysFramesShow}

-- the parts of what is true of a kernel, over other owners and with one transfer less
pub record SwapLaws : Type 0 where
  pub held_stay : HeldStay
  pub held_less : HeldLess
  pub planned_stay : PlannedStay
  pub planned_less : PlannedLess
  pub fitting : FittingLess
  pub sending : SendingLess
  pub receiving : ReceivingLess
  pub arrived : ArrivedBesideLess
  pub nobody : NobodysFramesShow
  pub suffice : LentFramesSuffice
