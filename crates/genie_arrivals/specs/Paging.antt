-- What the end of an input leaves that asks neither the host nor the store.
use Rattle.std.specs.Prelude.{◌≡◌, ℕ, ◌^◌}
use Rattle.genie_base.specs.Events.{mark_of}
use Rattle.genie_base.specs.declared.event.Event.TheVariants.{Finish}
use Rattle.genie_base.specs.declared.reply.Mark.TheVariants.{NoFault}
use Rattle.genie_base.specs.declared.reply.Reply.{Reply}
use Rattle.genie_store.specs.StoreView.{StoreView}
use Rattle.genie_object.specs.Sound.{IsSized}
use Rattle.genie_kernel.specs.declared.kernel.Kernel.{Kernel}
use Rattle.genie_kernel.specs.Good.{IsGood}
use Rattle.genie_kernel.specs.Kept.{Kept}
use Rattle.genie_kernel.specs.Rising.{MetersRise}
use Rattle.genie_changes.specs.Paged.{StepsPaged}

-- the kernel is good, no frame is freed or gets another owner while a device holds it, and what it stands for and the
-- reply are those of the flat machine's step, whatever the host holds and the slots of the store, which have a page each;
-- no number is given out, and the meters rise by so much at most
pub record EndsPaged (old : Kernel) (n : ℕ) (new : Kernel) (reply : Reply) : Type 0 where
  pub good : IsGood new
  pub sized : (v : StoreView) → IsSized old.memory v → IsSized new.memory v
  pub kept : Kept old new
  pub step : StepsPaged old (Finish n) new reply
  pub config : new.config ≡ old.config
  pub numbers : new.next ≡ old.next
  pub unfailed : mark_of reply ≡ NoFault
  pub rises : MetersRise (2 ^ 35) old.memory.frames new.memory.frames
