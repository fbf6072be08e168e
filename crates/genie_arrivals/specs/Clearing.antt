-- The object of a region that is held for a move input.
use Rattle.std.specs.Prelude.{◌≡◌, ℕ, ◌<◌, ◌≤◌, false, List, length, count_by}
use Rattle.genie_frame.specs.FrameTable.{is_free}
use Rattle.genie_object.specs.declared.memory.Memory.{Memory}
use Rattle.genie_object.specs.declared.objects.Entry.{Entry}
use Rattle.genie_object.specs.Leaving.{Empties, IsEmpty, is_object}
use Rattle.genie_object.specs.Memory.{seen}
use Rattle.genie_object.specs.Objects.{entry_at, object_at}
use Rattle.genie_object.specs.Sound.{times_named}
use Rattle.genie_object.specs.Touching.{KeepsLoans, Narrows}
use Rattle.genie_arrivals.specs.Stored.{StoresBuffer}

-- no entry of the object names a page any more, all loans are kept, and no frame that was free isn't
pub record ClearsObject (old new : Memory) (o : ℕ) : Type 0 where
  pub empties : Empties (is_object o) old new
  pub keeps : KeepsLoans old new
  pub empty : (i : ℕ) → IsEmpty new o i
  pub shows : (slots : ℕ → List ℕ) → (seen new slots).kept_bytes ≡ (seen old slots).kept_bytes
  pub free : count_by is_free old.frames.owners ≤ count_by is_free new.frames.owners

-- each entry names the page that it named and permits nothing new, and no object gets another size
pub record NarrowsAll (old new : List (List Entry)) : Type 0 where
  pub narrows : (o i : ℕ) → Narrows (entry_at old o i) (entry_at new o i)
  pub sizes : (o : ℕ) → length (object_at new o) ≡ length (object_at old o)
  pub named : (p : ℕ) → times_named new p ≡ times_named old p

-- and the first n entries of object o permit no writing
pub record Forbids (o n : ℕ) (old new : List (List Entry)) : Type 0 where
  pub all : NarrowsAll old new
  pub first : (i : ℕ) → i < n → (entry_at new o i).writable ≡ false

-- the object was emptied, a buffer's bytes were stored at its start, and no entry of it permits writing
pub record FillsObject (old new : Memory) (o len : ℕ) (frames : List ℕ) : Type 0 where
  pub clear : Memory
  pub clears : ClearsObject old clear o
  pub stores : StoresBuffer clear new o 0 len frames
  pub shut : (i : ℕ) → (entry_at new.objects o i).writable ≡ false
