-- What is stored in an object, and where an address leads.
use Rattle.std.specs.Prelude.{◌≡◌, ◌≢◌, ℕ, List, length, IfSome}
use Rattle.genie_base.specs.Bytes.{overlaid}
use Rattle.genie_base.specs.declared.numbers.ObjectId.{ObjectId}
use Rattle.genie_frame.specs.declared.frame.Meters.{Meters}
use Rattle.genie_store.specs.StoreView.{StoreView}
use Rattle.genie_object.specs.declared.memory.Memory.{Memory}
use Rattle.genie_object.specs.Calls.{OnlyMoves}
use Rattle.genie_object.specs.Memory.{Seen, seen}
use Rattle.genie_object.specs.Objects.{object_at}
use Rattle.genie_object.specs.Sound.{IsSound}
use Rattle.genie_kernel.specs.declared.kernel.Kernel.{Kernel}
use Rattle.genie_kernel.specs.Regions.{object_bytes}
use Rattle.genie_access.specs.Moving.{KeepsSeen}
use Rattle.genie_access.specs.Reached.{LeadsTo}
use Rattle.genie_access.specs.Reading.{is_of_object}

-- the memory with other bytes in its frames, and other meters
abbrev pub with_stored : Memory → List (List ℕ) → Meters → Memory
with_stored m bytes meters = record m { frames = record (m.frames) { bytes = bytes; meters = meters } }

-- the bytes stand at place off of the n pages of an object, and nothing else of what is seen has changed
pub record ShowsStored (old new : Seen) (o n off : ℕ) (bytes : List ℕ) : Type 0 where
  pub range : object_bytes new.entry_bytes o n ≡ overlaid off bytes (object_bytes old.entry_bytes o n)
  pub others : (a b : ℕ) → a ≢ o → new.entry_bytes a b ≡ old.entry_bytes a b
  pub kept : new.kept_bytes ≡ old.kept_bytes

-- the same of a memory before and after bytes were stored in its frames, where the store tells its own
pub record Stores (old new : Memory) (v : StoreView) (o off : ℕ) (bytes : List ℕ) : Type 0 where
  pub only : new ≡ with_stored old new.frames.bytes new.frames.meters
  pub sound : IsSound new
  pub shows : IfSome v.slots (λ slots. ShowsStored (seen old slots) (seen new slots) o (length (object_at old.objects o)) off bytes)

-- pages of the object moved, and then the bytes were stored in it
pub record WritesObject (old new : Memory) (v w : StoreView) (o off : ℕ) (bytes : List ℕ) : Type 0 where
  pub mid : Memory
  pub moves : OnlyMoves (is_of_object o) old mid v w
  pub stores : Stores mid new w o off bytes

-- pages moved, and then the bytes were stored where the address leads
pub record WritesAt (k : Kernel) (m : Memory) (v w : StoreView) (p a : ℕ) (bytes : List ℕ) : Type 0 where
  pub object : ObjectId
  pub off : ℕ
  pub leads : LeadsTo k p a (length bytes) object off
  pub mid : Memory
  pub seen : KeepsSeen k mid v w
  pub stores : Stores mid m w object.0 off bytes
