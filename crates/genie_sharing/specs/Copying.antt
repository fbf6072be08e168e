-- What is left once entries were copied to other ones.
use Rattle.std.specs.Prelude.{zero, suc, slice_index_or, if◌then◌else◌, ◌≡◌, ℕ, ◌+◌, ◌-◌, ◌<◌, ◌≤◌, ◌^◌, Bool, true, false, not, List, length, count_by}
use Rattle.std.specs.Option.{option_map}
use Rattle.genie_frame.specs.declared.frame.Counts.{Counts}
use Rattle.genie_object.specs.declared.pages.Place.{Place}
use Rattle.genie_object.specs.declared.pages.Place.TheVariants.{Zero, Frame, Slot}
use Rattle.genie_object.specs.Costs.{place_of}
use Rattle.genie_frame.specs.FrameTable.{is_held, no_counts, owner_at, bytes_at, is_free}
use Rattle.genie_frame.specs.declared.frame.FrameId.{FrameId}
use Rattle.genie_frame.specs.declared.frame.Owner.TheVariants.{Free}
use Rattle.genie_store.specs.StoreView.{StoreView}
use Rattle.genie_object.specs.declared.memory.Memory.{Memory}
use Rattle.genie_object.specs.Leaving.{IsUnheld, is_object}
use Rattle.genie_object.specs.Memory.{Seen}
use Rattle.genie_object.specs.Objects.{entry_at, object_at}
use Rattle.genie_object.specs.Pages.{is_there, no_page, page_at}
use Rattle.genie_object.specs.Sound.{IsSound, IsSized, FitsHidden}
use Rattle.genie_object.specs.Steps.{filled, metered, renamed}
use Rattle.genie_object.specs.Touching.{KeepsLoans, is_entry}
use Rattle.genie_hiding.specs.Hidden.{is_among, seen_outside}
use Rattle.genie_hiding.specs.Rooms.{available, visible_pages}

-- entry i of object o names a new page in a frame that was free, with the bytes of frame f
pub record PartsFrom (old new : Memory) (f o i : ℕ) : Type 0 where
  pub number : ℕ
  pub frame : FrameId
  pub room : number < length old.pages.pages
  pub spare : page_at old.pages.pages number ≡ no_page
  pub there : frame.0 < length old.frames.owners
  pub was_free : owner_at old.frames frame.0 ≡ Free
  pub full : length (bytes_at old.frames f) ≡ old.frames.page
  pub arrived : new ≡ metered (filled (renamed old o i number) number frame (bytes_at old.frames f)) new.frames.meters

-- a frame can be had and pages can go to slots, there may be a page more for each free frame, and a holder more of each page
pub record IsRoomy (m : Memory) (hidden : List ℕ) : Type 0 where
  pub slots : visible_pages m hidden ≤ count_by not m.slots
  pub frames : 1 ≤ available m.frames
  pub pages : count_by is_there m.pages.pages + count_by is_free m.frames.owners ≤ m.pages.most
  pub holders : (p : ℕ) → (page_at m.pages.pages p).shares < 2 ^ 32 - 1

-- so it stays after all calls that keep loans and change no count
abbrev pub StaysRoomy : List ℕ → Memory → Type 0
StaysRoomy hidden old = (m : Memory) → IsSound m → FitsHidden m hidden → KeepsLoans old m → m.frames.counts ≡ old.frames.counts → IsRoomy m hidden

-- what is seen, where each entry shows the bytes of the entry at its place in the object that is its source
abbrev pub see_from : (ℕ → ℕ → ℕ) → Seen → Seen
see_from source s = record s { entry_bytes = λ a b. s.entry_bytes (source a b) b }

-- what a call leaves that copies to these entries: each of them may show what another one showed, every other entry shows
-- its own bytes and keeps its page, none gains the permission to write, and loans are as they were
pub record Copies (hidden : List ℕ) (spoken : ℕ → ℕ → Bool) (old new : Memory) (v w : StoreView) : Type 0 where
  pub source : ℕ → ℕ → ℕ
  pub own : (a b : ℕ) → spoken a b ≡ false → source a b ≡ a
  pub sound : IsSound new
  pub sized : IsSized new w
  pub fits : FitsHidden new hidden
  pub seen : seen_outside hidden new w ≡ option_map (see_from source) (seen_outside hidden old v)
  pub keeps : KeepsLoans old new
  pub counts : new.frames.counts ≡ old.frames.counts
  pub landed : new.frames.landed ≡ old.frames.landed
  pub narrow : (a b : ℕ) → is_among a hidden ≡ false → (entry_at new.objects a b).writable ≡ true → (entry_at old.objects a b).writable ≡ true
  pub pages : (a b : ℕ) → is_among a hidden ≡ false → spoken a b ≡ false → (entry_at new.objects a b).page ≡ (entry_at old.objects a b).page

-- entry i of object o shows what that of the source showed, and names its page unless a device holds that
pub record CopiesEntry (hidden : List ℕ) (source o i : ℕ) (old new : Memory) (v w : StoreView) : Type 0 where
  pub copies : Copies hidden (is_entry o i) old new v w
  pub from : copies.source o i ≡ source
  pub same : IsUnheld old source i → (entry_at new.objects o i).page ≡ (entry_at old.objects source i).page

-- so does each entry of object o
pub record CopiesObject (hidden : List ℕ) (source o : ℕ) (old new : Memory) (v w : StoreView) : Type 0 where
  pub copies : Copies hidden (is_object o) old new v w
  pub from : (i : ℕ) → i < length (object_at old.objects source) → copies.source o i ≡ source
  pub same : (i : ℕ) → i < length (object_at old.objects source) → IsUnheld old source i → (entry_at new.objects o i).page ≡ (entry_at old.objects source i).page

-- whether a device holds a page at this place
abbrev pub is_held_in : List Counts → Place → Bool
is_held_in counts Zero = false
is_held_in counts (Frame f) = is_held (slice_index_or counts f.0 no_counts)
is_held_in counts (Slot s) = false

-- the bytes that are moved to copy an entry: a page where a device holds its own, and else none
abbrev pub copy_work : Memory → ℕ → ℕ → ℕ
copy_work m o i = if is_held_in m.frames.counts (place_of m o i) then m.frames.page else 0

-- and to copy the first n entries of an object
abbrev pub copies_work : Memory → ℕ → ℕ → ℕ
copies_work m o zero = 0
copies_work m o (suc n) = copies_work m o n + copy_work m o n
