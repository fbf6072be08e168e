-- What is left of a kernel once room was made for a call: of regions, hidden ones counted, and of frames.
use Rattle.std.specs.Prelude.{◌≡◌}
use Rattle.genie_host.specs.Host.{HostView}
use Rattle.genie_store.specs.StoreView.{StoreView}
use Rattle.genie_object.specs.Sound.{IsSized}
use Rattle.genie_kernel.specs.declared.kernel.Kernel.{Kernel}
use Rattle.genie_kernel.specs.Good.{IsGood}
use Rattle.genie_kernel.specs.Kept.{Kept}
use Rattle.genie_kernel.specs.View.{view}

-- nothing but the memory, the hidden regions and the clock has changed: the kernel is good, lends what it lent, and stands
-- for the same state
pub record IsReady (old new : Kernel) (v w : StoreView) : Type 0 where
  pub only : new ≡ record old { memory = new.memory; hidden = new.hidden; clock = new.clock }
  pub good : IsGood new
  pub sized : IsSized new.memory w
  pub kept : Kept old new
  pub told : (host : HostView) → view new host w ≡ view old host v
