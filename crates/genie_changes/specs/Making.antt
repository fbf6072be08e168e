-- What is left of a kernel once room was made for an event, or pages have only moved.
use Rattle.std.specs.Prelude.{◌≡◌, ℕ}
use Rattle.genie_host.specs.Host.{HostView}
use Rattle.genie_store.specs.StoreView.{StoreView}
use Rattle.genie_object.specs.declared.memory.Memory.{Memory}
use Rattle.genie_object.specs.Memory.{seen_with}
use Rattle.genie_object.specs.Sound.{IsSound, IsSized, FitsHidden}
use Rattle.genie_object.specs.Touching.{KeepsLoans}
use Rattle.genie_frame.specs.FrameTable.{counts_at}
use Rattle.genie_hiding.specs.Hidden.{objects_of}
use Rattle.genie_hiding.specs.Rooms.{MakesRoom}
use Rattle.genie_kernel.specs.declared.kernel.Kernel.{Kernel}
use Rattle.genie_kernel.specs.Backed.{AreGuarded}
use Rattle.genie_kernel.specs.Good.{IsGood}
use Rattle.genie_kernel.specs.Kept.{Kept}
use Rattle.genie_kernel.specs.Regions.{owned_regions}
use Rattle.genie_kernel.specs.View.{view}

-- the kernel with another memory and another place of the clock
abbrev pub with_memory : Kernel → Memory → ℕ → Kernel
with_memory k m clock = record k { memory = m; clock = clock }

-- nothing but the memory and the clock has changed: the kernel is good, lends what it lent, and stands for the same state
pub record IsMoved (old new : Kernel) (v w : StoreView) : Type 0 where
  pub only : new ≡ with_memory old new.memory new.clock
  pub good : IsGood new
  pub sized : IsSized new.memory w
  pub kept : Kept old new
  pub told : (host : HostView) → view new host w ≡ view old host v

-- so it is once room was made
abbrev pub RoomIsMade : Type 0
RoomIsMade = (old new : Kernel) (v w : StoreView) → IsGood old → IsSized old.memory v → new ≡ with_memory old new.memory new.clock → MakesRoom (objects_of old.hidden) old.memory new.memory v w → IsMoved old new v w

-- a memory that shows what it showed, and lends what it lent
pub record ShowsAndLends (k : Kernel) (m : Memory) (v w : StoreView) : Type 0 where
  pub sound : IsSound m
  pub sized : IsSized m w
  pub cached : FitsHidden m (objects_of k.hidden)
  pub guarded : AreGuarded m.objects (owned_regions k.spaces.processes)
  pub shows : seen_with m w ≡ seen_with k.memory v
  pub keeps : KeepsLoans k.memory m
  pub counts : (f : ℕ) → counts_at m.frames f ≡ counts_at k.memory.frames f

-- so it is with such a memory
abbrev pub MemoryIsMoved : Type 0
MemoryIsMoved = (old new : Kernel) (v w : StoreView) → IsGood old → new ≡ with_memory old new.memory new.clock → ShowsAndLends old new.memory v w → IsMoved old new v w

-- and so it is after two such changes
abbrev pub MovesOn : Type 0
MovesOn = (a b c : Kernel) (u v w : StoreView) → IsMoved a b u v → IsMoved b c v w → IsMoved a c u w

-- what is kept after one is kept from before it on
abbrev pub KeptSinceMoved : Type 0
KeptSinceMoved = (old mid new : Kernel) (v w : StoreView) → IsMoved old mid v w → Kept mid new → Kept old new
