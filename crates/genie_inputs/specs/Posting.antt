-- A transfer that is posted.
use Rattle.std.specs.Prelude.{◌≡◌, ℕ, ◌+◌, ◌<◌, ◌≤◌, [], ◌∷◌, ◌++◌, length, All}
use Rattle.genie_base.specs.declared.event.Event.{Event}
use Rattle.genie_base.specs.declared.reply.Reply.{Reply}
use Rattle.genie_demux.specs.declared.input.Input.{Input}
use Rattle.genie_host.specs.Host.{HostView}
use Rattle.genie_store.specs.StoreView.{StoreView}
use Rattle.genie_object.specs.Sound.{IsSized}
use Rattle.genie_kernel.specs.declared.kernel.Kernel.{Kernel}
use Rattle.genie_kernel.specs.declared.transfer.Transfer.{Transfer}
use Rattle.genie_kernel.specs.Good.{IsGood}
use Rattle.genie_kernel.specs.Kept.{Kept}
use Rattle.genie_kernel.specs.Matching.{posted_as}
use Rattle.genie_kernel.specs.Steps.{StepsTold}
use Rattle.genie_kernel.specs.View.{view}

-- the kernel with one posted input more, and the next number
abbrev pub with_input : Kernel → Transfer → Kernel
with_input k t = record k { transfers = k.transfers ++ t ∷ []; posted = k.posted ++ posted_as t ∷ []; next = k.next + 1 }

-- there is room for one input more of number n, which is above all others
pub record CanPost (k : Kernel) (n : ℕ) : Type 0 where
  pub few : length k.transfers < 64
  pub room : length k.posted < 64
  pub last : All (λ (p : Input). p.id < n) k.posted

-- the event is one step of the flat machine: the kernel is good, no frame is freed or gets another owner while a device
-- holds it, and what the kernel stands for is that of the step, where the host and the store tell it
pub record IsAnswered (old new : Kernel) (v w : StoreView) (e : Event) (reply : Reply) : Type 0 where
  pub good : IsGood new
  pub sized : IsSized new.memory w
  pub kept : Kept old new
  pub config : new.config ≡ old.config
  pub numbers : new.next ≤ old.next + 1
  pub step : (host : HostView) → StepsTold (view old host v) e (view new host w) reply
