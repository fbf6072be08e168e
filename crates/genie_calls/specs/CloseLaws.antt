-- What the end of all transfers stands on.
use Rattle.genie_kernel.specs.Lending.{CountsShrink}
use Rattle.genie_kernel.specs.Owning.{OwnedLess}
use Rattle.genie_changes.specs.Ending.{GivenBackLeavesOthers}
use Rattle.genie_changes.specs.Pending.{PlannedLess, PlannedStay, PostedLess}

pub record CloseLaws : Type 0 where
  pub others : GivenBackLeavesOthers
  pub counts : CountsShrink
  pub owners : OwnedLess
  pub stay : PlannedStay
  pub planned : PlannedLess
  pub posted : PostedLess
