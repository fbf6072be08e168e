-- When a memory is sound, in parts over its lists.
use Rattle.std.specs.Prelude.{◌≡◌, ℕ, ◌+◌, ◌<◌, Bool, true, false, ◌==◌, List, [], All, length, replicate, count_by, sum_by, Option, Some, slice_index_or, if◌then◌else◌}
use Rattle.genie_frame.specs.declared.frame.Owner.{Owner}
use Rattle.genie_frame.specs.declared.frame.Owner.TheVariants.{Free, Page}
use Rattle.genie_frame.specs.declared.frame.Counts.{Counts}
use Rattle.genie_frame.specs.declared.frame.FrameId.{FrameId}
use Rattle.genie_frame.specs.FrameTable.{is_system, is_held, no_counts, counts_at, free_frames, IsShaped, AreLoansOwned}
use Rattle.genie_store.specs.StoreView.{StoreView}
use Rattle.genie_store.specs.Slots.{slot_at}
use Rattle.genie_object.specs.declared.pages.Place.{Place}
use Rattle.genie_object.specs.declared.pages.Place.TheVariants.{Zero, Frame, Slot}
use Rattle.genie_object.specs.declared.pages.PageId.{PageId}
use Rattle.genie_object.specs.declared.pages.PageInfo.{PageInfo}
use Rattle.genie_object.specs.declared.objects.Entry.{Entry}
use Rattle.genie_object.specs.declared.memory.Memory.{Memory}
use Rattle.genie_object.specs.Pages.{page_at, no_page, is_there}
use Rattle.genie_object.specs.Objects.{object_at, entry_at, names}

-- how many entries name the page
abbrev pub times_named : List (List Entry) → ℕ → ℕ
times_named objects p = sum_by (count_by (names p)) objects

abbrev pub strong_at : List Counts → ℕ → ℕ
strong_at counts f = (slice_index_or counts f no_counts).strong

-- each page is in the frame that it has, and no two pages in one
pub record IsPlaced (owners : List Owner) (pages : List PageInfo) : Type 0 where
  pub in_frame : (p : ℕ) (f : FrameId) → (page_at pages p).place ≡ Frame f → slice_index_or owners f.0 Free ≡ Page p
  pub of_page : (f : FrameId) (p : ℕ) → slice_index_or owners f.0 Free ≡ Page p → (page_at pages p).place ≡ Frame f

-- a page that a device holds is named by one entry, and its frame, or that of an orphan, isn't strongly lent
pub record AreHeld (owners : List Owner) (counts : List Counts) (pages : List PageInfo) : Type 0 where
  pub alone : (f p : ℕ) → slice_index_or owners f Free ≡ Page p → is_held (slice_index_or counts f no_counts) ≡ true → (page_at pages p).shares ≡ 1
  pub unlent : (f : ℕ) → is_system (slice_index_or owners f Free) ≡ false → is_held (slice_index_or counts f no_counts) ≡ true → strong_at counts f ≡ 0

-- only a held page is wired
abbrev pub AreWired : List Counts → Type 0
AreWired counts = (f : ℕ) → 0 < (slice_index_or counts f no_counts).wires → is_held (slice_index_or counts f no_counts) ≡ true

abbrev pub is_slot : ℕ → Place → Bool
is_slot s Zero = false
is_slot s (Frame f) = false
is_slot s (Slot r) = r == s

abbrev pub is_in_slot : ℕ → PageInfo → Bool
is_in_slot s q = is_slot s q.place

-- each taken slot has one page, and no other slot has one
pub record AreSlotted (slots : List Bool) (pages : List PageInfo) : Type 0 where
  pub counted : (s : ℕ) → count_by (is_in_slot s) pages ≡ (if slot_at slots s then 1 else 0)

-- a page is shared by the entries that name it, and one that nobody shares is nowhere
pub record IsShared (pages : List PageInfo) (objects : List (List Entry)) : Type 0 where
  pub counted : (p : ℕ) → (page_at pages p).shares ≡ times_named objects p
  pub spare : (p : ℕ) → (page_at pages p).shares ≡ 0 → (page_at pages p).place ≡ Zero

-- an entry that may be read has a page in a frame
pub record IsFramed (pages : List PageInfo) (page : Option PageId) : Type 0 where
  pub number : PageId
  pub frame : FrameId
  pub is_page : page ≡ Some number
  pub is_place : (page_at pages number.0).place ≡ Frame frame

-- an entry that may be written has a page of its own, in a frame without a strong loan
pub record IsPrivate (counts : List Counts) (pages : List PageInfo) (page : Option PageId) : Type 0 where
  pub number : PageId
  pub frame : FrameId
  pub is_page : page ≡ Some number
  pub is_place : (page_at pages number.0).place ≡ Frame frame
  pub alone : (page_at pages number.0).shares ≡ 1
  pub unlent : strong_at counts frame.0 ≡ 0

pub record IsProtected (counts : List Counts) (pages : List PageInfo) (objects : List (List Entry)) : Type 0 where
  pub readable : (o i : ℕ) → (entry_at objects o i).readable ≡ true → IsFramed pages (entry_at objects o i).page
  pub writable : (o i : ℕ) → (entry_at objects o i).writable ≡ true → IsPrivate counts pages (entry_at objects o i).page

pub record IsSound (m : Memory) : Type 0 where
  pub shaped : IsShaped m.frames.page m.frames.owners m.frames.counts m.frames.bytes
  pub placed : IsPlaced m.frames.owners m.pages.pages
  pub lent : AreLoansOwned m.frames.owners m.frames.counts
  pub held : AreHeld m.frames.owners m.frames.counts m.pages.pages
  pub wired : AreWired m.frames.counts
  pub slotted : AreSlotted m.slots m.pages.pages
  pub shared : IsShared m.pages.pages m.objects
  pub guarded : IsProtected m.frames.counts m.pages.pages m.objects

-- all frames and slots are free, and no page and no object is there
pub record IsUnused (m : Memory) (frames page slots : ℕ) : Type 0 where
  pub free : m.frames ≡ free_frames frames page
  pub pages : All (λ q. q ≡ no_page) m.pages.pages
  pub none : count_by is_there m.pages.pages ≡ 0
  pub most : m.pages.most ≡ frames + slots
  pub absent : m.objects ≡ replicate 512 []
  pub untaken : m.slots ≡ replicate slots false

-- the store has as many slots as the memory, of the frames' page size
pub record IsSized (m : Memory) (v : StoreView) : Type 0 where
  pub count : v.count ≡ length m.slots
  pub page : v.page ≡ m.frames.page

-- each page that the object's entries name is their own, in a frame that no device holds
pub record IsCached (m : Memory) (o : ℕ) : Type 0 where
  pub there : 0 < length (object_at m.objects o)
  pub own : (i : ℕ) (p : PageId) → (entry_at m.objects o i).page ≡ Some p → (page_at m.pages.pages p.0).shares ≡ 1
  pub frame : (i : ℕ) (p : PageId) → (entry_at m.objects o i).page ≡ Some p → FrameId
  pub in_frame : (i : ℕ) (p : PageId) (e : (entry_at m.objects o i).page ≡ Some p) → (page_at m.pages.pages p.0).place ≡ Frame (frame i p e)
  pub unheld : (i : ℕ) (p : PageId) (e : (entry_at m.objects o i).page ≡ Some p) → is_held (counts_at m.frames (frame i p e).0) ≡ false

-- a cache of hidden regions with these objects fits the memory
pub record FitsHidden (m : Memory) (objects : List ℕ) : Type 0 where
  pub cached : (k : ℕ) → k < length objects → IsCached m (slice_index_or objects k 0)
  pub apart : (j k : ℕ) → j < length objects → k < length objects → slice_index_or objects j 0 ≡ slice_index_or objects k 0 → j ≡ k
