-- What a kernel that is stepped by events stands over, and for how many steps its counts have room.
use Rattle.std.specs.Prelude.{ℕ, ◌+◌, ◌*◌, ◌-◌, ◌^◌, ◌<◌, ◌≤◌}
use Rattle.genie_host.specs.Host.{HostView}
use Rattle.genie_store.specs.StoreView.{StoreView}
use Rattle.genie_object.specs.Costs.{AreBelow}
use Rattle.genie_object.specs.Sound.{IsSized}
use Rattle.genie_kernel.specs.declared.kernel.Kernel.{Kernel}
use Rattle.genie_kernel.specs.Handles.{HasHandles}

-- the store has the slots of the kernel, and the handles of its devices are open
pub record IsOver (k : Kernel) (host : HostView) (store : StoreView) : Type 0 where
  pub sized : IsSized k.memory store
  pub handles_open : HasHandles k.config host

-- no meter has reached 2^63, and there is a number for a transfer
pub record HasRoom (k : Kernel) : Type 0 where
  pub meters : AreBelow (2 ^ 63) k.memory.frames.meters
  pub landed : k.memory.frames.landed < 2 ^ 63
  pub numbers : k.next < 2 ^ 32 - 1

-- there is room for n steps, whatever they are
pub record HasRoomFor (n : ℕ) (k : Kernel) : Type 0 where
  pub bound : ℕ
  pub meters : AreBelow bound k.memory.frames.meters
  pub within : bound + 2 ^ 36 * n ≤ 2 ^ 63
  pub landed : k.memory.frames.landed + 2 ^ 36 * n < 2 ^ 63
  pub numbers : k.next + n < 2 ^ 32 - 1
