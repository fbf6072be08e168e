-- What an event leaves that may ask the store.
use Rattle.std.specs.Prelude.{◌≡◌, ◌^◌}
use Rattle.genie_base.specs.Events.{mark_of}
use Rattle.genie_base.specs.declared.event.Event.{Event}
use Rattle.genie_base.specs.declared.reply.Reply.{Reply}
use Rattle.genie_host.specs.Host.{HostView}
use Rattle.genie_store.specs.StoreView.{StoreView}
use Rattle.genie_object.specs.Sound.{IsSized}
use Rattle.genie_kernel.specs.declared.kernel.Kernel.{Kernel}
use Rattle.genie_kernel.specs.Good.{IsGood}
use Rattle.genie_kernel.specs.Kept.{Kept}
use Rattle.genie_kernel.specs.Rising.{MetersRise}
use Rattle.genie_kernel.specs.Steps.{StepsTold, StoreCause}
use Rattle.genie_kernel.specs.View.{view}

-- the kernel is good, what it stands for and the reply are those of the flat machine's step, no frame is freed or gets
-- another owner while a device holds it, and a failure of the store is answered only where its count of faults rose; no
-- number is given out, and the meters rise by so much at most
pub record Serves (old : Kernel) (e : Event) (new : Kernel) (v w : StoreView) (reply : Reply) : Type 0 where
  pub good : IsGood new
  pub sized : IsSized new.memory w
  pub kept : Kept old new
  pub config : new.config ≡ old.config
  pub numbers : new.next ≡ old.next
  pub step : (host : HostView) → StepsTold (view old host v) e (view new host w) reply
  pub cause : StoreCause (mark_of reply) v.faults w.faults
  pub rises : MetersRise (2 ^ 36) old.memory.frames new.memory.frames
