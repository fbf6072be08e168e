-- What the end of an input leaves.
use Rattle.std.specs.Prelude.{◌≡◌, ℕ}
use Rattle.genie_base.specs.Events.{mark_of}
use Rattle.genie_base.specs.declared.event.Event.TheVariants.{Finish}
use Rattle.genie_base.specs.declared.reply.Mark.TheVariants.{NoFault}
use Rattle.genie_base.specs.declared.reply.Reply.{Reply}
use Rattle.genie_store.specs.StoreView.{StoreView}
use Rattle.genie_object.specs.Sound.{IsSized}
use Rattle.genie_kernel.specs.declared.kernel.Kernel.{Kernel}
use Rattle.genie_kernel.specs.Good.{IsGood}
use Rattle.genie_kernel.specs.Kept.{Kept}
use Rattle.genie_kernel.specs.Steps.{StepsAlone}

-- the kernel is good, what it stands for and the reply are those of the flat machine's step, whatever the host and the
-- store hold, no frame is freed or gets another owner while a device holds it, and no number is given out
pub record EndsAlone (old : Kernel) (n : ℕ) (new : Kernel) (reply : Reply) : Type 0 where
  pub good : IsGood new
  pub sized : (v : StoreView) → IsSized old.memory v → IsSized new.memory v
  pub kept : Kept old new
  pub step : StepsAlone old (Finish n) new reply
  pub config : new.config ≡ old.config
  pub numbers : new.next ≡ old.next
  -- nothing fails, no byte moves or lands, and no page and no frame is taken
  pub unfailed : mark_of reply ≡ NoFault
  pub meters : new.memory.frames.meters ≡ old.memory.frames.meters
  pub landed : new.memory.frames.landed ≡ old.memory.frames.landed
