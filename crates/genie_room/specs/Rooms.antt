-- What an event still has of room, once it has made room, or made other calls that keep loans.
use Rattle.std.specs.Prelude.{◌≡◌, ℕ}
use Rattle.genie_frame.specs.FrameTable.{counts_at}
use Rattle.genie_object.specs.declared.memory.Memory.{Memory}
use Rattle.genie_object.specs.Sound.{IsSound, FitsHidden}
use Rattle.genie_object.specs.Touching.{KeepsLoans}
use Rattle.genie_hiding.specs.Hidden.{objects_of}
use Rattle.genie_hiding.specs.Rooms.{available}
use Rattle.genie_kernel.specs.declared.kernel.Kernel.{Kernel}
use Rattle.genie_kernel.specs.Good.{IsGood}
use Rattle.genie_room.specs.Bounds.{AreLow}
use Rattle.genie_room.specs.Places.{HasPlaces}

-- the memory has room for pages and slots, as many frames can be had as at the start, and no count is high
pub record HasRoom (k : Kernel) (m : Memory) : Type 0 where
  pub places : HasPlaces m (objects_of k.hidden)
  pub frames : available m.frames ≡ available k.memory.frames
  pub counts : (f : ℕ) → AreLow (counts_at m.frames f)

abbrev pub RoomIsKept : Type 0
RoomIsKept = (k : Kernel) (m : Memory) → IsGood k → IsSound m → FitsHidden m (objects_of k.hidden) → KeepsLoans k.memory m → m.frames.counts ≡ k.memory.frames.counts → HasRoom k m
