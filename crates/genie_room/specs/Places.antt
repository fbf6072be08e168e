-- How many slots, pages and objects there may still be, and how many regions in a weak queue.
use Rattle.std.specs.Prelude.{◌≡◌, ℕ, ◌+◌, ◌≤◌, ◌<◌, Bool, true, not, List, [], length, sum_by, count_by, Option, None, Some, slice_index_or}
use Rattle.genie_frame.specs.declared.frame.Owner.{Owner}
use Rattle.genie_frame.specs.FrameTable.{is_free, is_page, is_system, owner_at}
use Rattle.genie_object.specs.declared.memory.Memory.{Memory}
use Rattle.genie_object.specs.declared.objects.Entry.{Entry}
use Rattle.genie_object.specs.Objects.{is_absent, object_at}
use Rattle.genie_object.specs.Pages.{is_there}
use Rattle.genie_object.specs.Sound.{IsSound, FitsHidden}
use Rattle.genie_plan.specs.Plans.{AreApart}
use Rattle.genie_region.specs.declared.region.Region.{Region}
use Rattle.genie_hiding.specs.declared.hidden.Hidden.{Hidden}
use Rattle.genie_hiding.specs.Hidden.{objects_of, is_of}
use Rattle.genie_hiding.specs.Rooms.{visible_pages}
use Rattle.genie_model.specs.Regions.{committed}
use Rattle.genie_model.specs.Tables.{entry}
use Rattle.genie_orderly.specs.Orderly.{is_out}
use Rattle.genie_kernel.specs.declared.kernel.Kernel.{Kernel}
use Rattle.genie_kernel.specs.Backed.{AreBacked, AreFew, all_regions}
use Rattle.genie_kernel.specs.Regions.{regions_of, owned_regions}
use Rattle.genie_kernel.specs.View.{outline}
use Rattle.genie_kernel.specs.Good.{IsGood}

-- how many pages the regions of these processes have
abbrev pub pages_of : List (Option (List Region)) → ℕ
pages_of processes = sum_by (λ (r : Region). r.pages) (owned_regions processes)

-- no page is in the frame
abbrev pub is_pageless : Owner → Bool
is_pageless owner = not (is_page owner)

-- each page outside hidden regions that is in a frame fits a free slot, and there can be a page more for each frame
-- without one, and so for each free one
pub record HasPlaces (m : Memory) (hidden : List ℕ) : Type 0 where
  pub slots : visible_pages m hidden ≤ count_by not m.slots
  pub pages : count_by is_there m.pages.pages + count_by is_pageless m.frames.owners ≤ m.pages.most
  pub free : count_by is_there m.pages.pages + count_by is_free m.frames.owners ≤ m.pages.most

-- so it is of any memory whose objects are those of regions, where the regions' pages fit the slots
abbrev pub PlacesFit : Type 0
PlacesFit = (m : Memory) (processes : List (Option (List Region))) (hidden : List Hidden) → IsSound m → FitsHidden m (objects_of hidden) → AreBacked m.objects (all_regions processes hidden) → pages_of processes ≤ length m.slots → m.pages.most ≡ length m.frames.owners + length m.slots → HasPlaces m (objects_of hidden)

-- the pages of a kernel's regions are the flat machine's
abbrev pub PagesAreCommitted : Type 0
PagesAreCommitted = (k : Kernel) → pages_of k.spaces.processes ≡ committed (outline k)

-- so a kernel has that room
abbrev pub PlacesSuffice : Type 0
PlacesSuffice = (k : Kernel) → IsGood k → HasPlaces k.memory (objects_of k.hidden)

-- the sizes that no call changes, but one that makes or removes an object
pub record KeepsSizes (old new : Memory) : Type 0 where
  pub entries : (o : ℕ) → length (object_at new.objects o) ≡ length (object_at old.objects o)
  pub number : length new.frames.owners ≡ length old.frames.owners
  pub slots : length new.slots ≡ length old.slots
  pub most : new.pages.most ≡ old.pages.most

-- after calls that keep them a memory has as much room as the kernel's own
abbrev pub PlacesAreKept : Type 0
PlacesAreKept = (k : Kernel) (m : Memory) → IsGood k → KeepsSizes k.memory m → IsSound m → FitsHidden m (objects_of k.hidden) → HasPlaces m (objects_of k.hidden)

-- there can be a page more for each of these frames of the system, beside those for free frames: so the frames of a
-- buffer can become pages
abbrev pub BuffersSuffice : Type 0
BuffersSuffice = (m : Memory) (hidden : List ℕ) (frames : List ℕ) → HasPlaces m hidden → ((k : ℕ) → k < length frames → is_system (owner_at m.frames (slice_index_or frames k 0)) ≡ true) → AreApart frames → count_by is_there m.pages.pages + count_by is_free m.frames.owners + length frames ≤ m.pages.most

-- where a process has room for one more region, one more object can be there
abbrev pub ObjectsSuffice : Type 0
ObjectsSuffice = (objects : List (List Entry)) (processes : List (Option (List Region))) (hidden : List Hidden) → AreBacked objects (all_regions processes hidden) → AreFew processes hidden → length processes ≡ 16 → (pid : ℕ) → pid < 16 → length (regions_of (slice_index_or processes pid None)) + count_by (is_of pid) hidden < 32 → count_by (λ entries. not (is_absent entries)) objects < 512

-- the weak queue of a process and its regions that aren't Out are together at most 32, so there is room in the queue for
-- each of these
abbrev pub QueuesSuffice : Type 0
QueuesSuffice = (k : Kernel) (p : ℕ) (regions : List Region) → IsGood k → entry k.spaces.processes p ≡ Some regions → length (slice_index_or k.queues p []) + count_by (λ (r : Region). not (is_out r.state)) regions ≤ 32
