-- A page of a buffer is stored in a page of a region.
use Rattle.std.specs.Prelude.{◌≡◌, ◌≢◌, ◌||◌, ◌&&◌, ℕ, ◌+◌, ◌-◌, ◌<◌, ◌≤◌, Bool, true, false, List, [], ◌∷◌, length, count_by, Option, Some, None, nat_le, nat_lt, if◌then◌else◌}
use Rattle.genie_base.specs.Bytes.{overlaid, part}
use Rattle.genie_frame.specs.declared.frame.Counts.{Counts}
use Rattle.genie_frame.specs.declared.frame.Meters.{Meters}
use Rattle.genie_frame.specs.FrameTable.{is_system, FrameTable, owner_at, counts_at, bytes_at, set_bytes, is_held, no_counts}
use Rattle.genie_object.specs.declared.memory.Memory.{Memory}
use Rattle.genie_object.specs.Objects.{entry_at}
use Rattle.genie_object.specs.Pages.{is_there}
use Rattle.genie_object.specs.Sound.{IsSound, IsPrivate}
use Rattle.genie_object.specs.Touching.{Touches, is_entry}
use Rattle.genie_object.specs.Costs.{Spends, is_untouched, place_of}
use Rattle.genie_object.specs.Memory.{Seen, seen, see_entry, see_kept, entry_frame}
use Rattle.genie_input.specs.Buffers.{IsBuffer}
use Rattle.genie_finish.specs.Besides.{KeepsBesides}

-- a device holds the page of the entry
abbrev pub held_in : Memory → Option ℕ → Bool
held_in m None = false
held_in m (Some f) = is_held (counts_at m.frames f)

abbrev pub is_held_at : Memory → ℕ → ℕ → Bool
is_held_at m o i = held_in m (entry_frame m o i)

-- the entry has the frame's n bytes from place off on, and the frame has left the buffer: nothing is seen of it by itself
abbrev pub see_stored : Seen → ℕ → ℕ → ℕ → ℕ → ℕ → List ℕ → Seen
see_stored s o i f off n bytes = see_kept (see_entry s o i (overlaid off (part off n bytes) (s.entry_bytes o i))) f []

-- the same of a memory, where each told slot has a page's length
abbrev pub ShowsStoredPage : Memory → Memory → ℕ → ℕ → ℕ → ℕ → ℕ → Type 0
ShowsStoredPage old new o i f off n = (slots : ℕ → List ℕ) → ((s : ℕ) → length (slots s) ≡ old.frames.page) → seen new slots ≡ see_stored (seen old slots) o i f off n (bytes_at old.frames f)

-- whether n bytes are copied out, and else the page is swapped: where a device holds it, or they are few and not a whole
-- page
abbrev pub is_copied : Memory → ℕ → ℕ → ℕ → ℕ → Bool
is_copied m o i n few = is_held_at m o i || (nat_lt n m.frames.page && nat_le n few)

-- the bytes that are copied, or zeroed: those that are stored, or the rest of the page
abbrev pub stored_work : Memory → ℕ → ℕ → ℕ → ℕ → ℕ
stored_work m o i n few = if is_copied m o i n few then n else m.frames.page - n

-- n bytes may be stored in the entry's page, a whole page without more: a part that is copied out, or whose page has
-- other bytes than zeros, needs a page of the entry's own in a frame
pub record CanStore (m : Memory) (o i n few : ℕ) : Type 0 where
  pub few_bytes : n < m.frames.page → n ≤ few → IsPrivate m.frames.counts m.pages.pages (entry_at m.objects o i).page
  pub touched : n < m.frames.page → is_untouched m o i ≡ false → IsPrivate m.frames.counts m.pages.pages (entry_at m.objects o i).page

-- a frame of a buffer stays so, with its bytes
pub record StaysBuffer (old new : FrameTable) (g : ℕ) : Type 0 where
  pub buffer : IsBuffer new g
  pub bytes : bytes_at new g ≡ bytes_at old g

-- n bytes of frame f were stored at place off of the entry's page, and the frame has left the buffer; all else is as it
-- was but for the meters, which rose by the bytes that were copied or zeroed
pub record StoresPage (old new : Memory) (o i f off n work : ℕ) : Type 0 where
  pub sound : IsSound new
  pub shows : ShowsStoredPage old new o i f off n
  pub buffers : (g : ℕ) → g ≢ f → IsBuffer old.frames g → StaysBuffer old.frames new.frames g
  pub places : (a b : ℕ) → ((a ≡ o) × (b ≡ i) → ⊥) → place_of new a b ≡ place_of old a b
  pub touches : Touches (is_entry o i) old new
  pub keeps : KeepsBesides (f ∷ []) old new
  pub ended : counts_at new.frames f ≡ no_counts
  pub landed : new.frames.landed ≡ old.frames.landed
  pub added : count_by is_there new.pages.pages ≤ count_by is_there old.pages.pages + 1
  pub spends : Spends work 0 0 0 old.frames.meters new.frames.meters

-- the frames with other bytes in one of them, and other meters
abbrev pub completed : FrameTable → ℕ → List ℕ → Meters → FrameTable
completed t f bytes meters = record (set_bytes t f bytes) { meters = meters }
