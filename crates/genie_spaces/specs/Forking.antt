-- A process that begins as a copy of another one.
use Rattle.std.specs.Prelude.{◌≡◌, ℕ, ◌+◌, ◌<◌, ◌≤◌, Bool, true, false, List, [], not, count_by, length, map, filter, find, take, replicate, Some, slice_index_or, slice_set, None, sum_by}
use Rattle.std.specs.List.{list_any}
use Rattle.genie_base.specs.Regions.{AreInOrder, is_accessible}
use Rattle.genie_base.specs.declared.numbers.ObjectId.{ObjectId}
use Rattle.genie_base.specs.declared.numbers.RegionId.{RegionId}
use Rattle.genie_base.specs.declared.region.RegionState.TheVariants.{Live}
use Rattle.genie_hiding.specs.Hidden.{is_of, objects_of}
use Rattle.genie_object.specs.declared.memory.Memory.{Memory}
use Rattle.genie_object.specs.declared.objects.Entry.{Entry}
use Rattle.genie_object.specs.Leaving.{IsUnheld}
use Rattle.genie_object.specs.Objects.{entry_at, is_absent, no_entry, object_at}
use Rattle.genie_object.specs.Sound.{IsSound}
use Rattle.genie_region.specs.declared.region.Region.{Region}
use Rattle.genie_region.specs.Layouts.{extent, starts_at}
use Rattle.genie_space.specs.Spaces.{is_alive, regions_of, set_regions}
use Rattle.genie_sharing.specs.Copying.{copies_work}
use Rattle.genie_sharing.specs.Regions.{AreCopies, has_object}
use Rattle.genie_model.specs.Lemmas.Lists.{Has}
use Rattle.genie_model.specs.Space.{add_copies, spawned}
use Rattle.genie_kernel.specs.declared.kernel.Kernel.{Kernel}
use Rattle.genie_kernel.specs.Backed.{AreBacked, AreFew, all_regions}
use Rattle.genie_kernel.specs.Good.{IsGood}
use Rattle.genie_kernel.specs.Regions.{owned_regions, region_view}
use Rattle.genie_kernel.specs.View.{Bytes, state_of}
use Rattle.genie_spaces.specs.Clearing.{Clears}
use Rattle.genie_changes.specs.Regions.{FindsNamed, with_added}

-- the kernel with a process more, which has these regions and an empty queue
abbrev pub with_child : Kernel → ℕ → List Region → Kernel
with_child k child copies = record k { spaces = set_regions k.spaces child copies; queues = slice_set k.queues child [] }

-- the kernel's memory with other objects
abbrev pub with_entries : Kernel → List (List Entry) → Memory
with_entries k objects = record (k.memory) { objects = objects }

-- a Live copy of a region, with a number and an object of its own
abbrev pub copy_region : RegionId → ObjectId → Region → Region
copy_region id object r = record r { id = id; state = Live; object = object }

-- a region more among the copies, with an object of untouched pages that is made for it
pub record AddsCopy (id : RegionId) (r : Region) (copies more : List Region) (old new : Memory) : Type 0 where
  pub object : ObjectId
  pub absent : object_at old.objects object.0 ≡ []
  pub size : length (object_at new.objects object.0) ≡ r.pages
  pub sound : IsSound new
  pub made : new ≡ record old { objects = slice_set old.objects object.0 (replicate r.pages no_entry) }
  pub added : more ≡ with_added (copy_region id object r) copies

-- a child gets a copy of the region
abbrev pub is_forked : Region → Bool
is_forked r = is_accessible r.state

-- the copy starts where this region starts, and has as many pages
pub record IsSource (regions : List Region) (c : Region) : Type 0 where
  pub region : Region
  pub found : find (starts_at c.start) regions ≡ Some region
  pub pages : c.pages ≡ region.pages

-- the copy shows at each of its pages what that region shows
abbrev pub ShowsSource : (ℕ → ℕ → List ℕ) → List Region → Region → Type 0
ShowsSource s regions c = (r : Region) (i : ℕ) → find (starts_at c.start) regions ≡ Some r → i < r.pages → s c.object.0 i ≡ s r.object.0 i

-- what a copy's source counts for
abbrev pub source_work : (Region → ℕ) → List Region → Region → ℕ
source_work f regions c = elim (find (starts_at c.start) regions) [ None ↦ 0 | Some r ↦ f r ]

-- those of the first n of these regions that a child gets have copies, with objects of their own
pub record HasCopies (k : Kernel) (child : ℕ) (regions : List Region) (n : ℕ) (copies : List Region) (objects : List (List Entry)) : Type 0 where
  pub sound : IsSound (with_entries k objects)
  pub entries : (a i : ℕ) → entry_at objects a i ≡ entry_at k.memory.objects a i
  pub others : (a : ℕ) → list_any (has_object a) copies ≡ false → object_at objects a ≡ object_at k.memory.objects a
  pub absent : (a : ℕ) → list_any (has_object a) copies ≡ true → object_at k.memory.objects a ≡ []
  pub number : length copies ≤ n
  pub spare : count_by (λ o. not (is_absent o)) objects ≤ 512
  pub few : AreFew (slice_set k.spaces.processes child (Some copies)) k.hidden
  pub backed : AreBacked objects (all_regions (slice_set k.spaces.processes child (Some copies)) k.hidden)
  pub named : FindsNamed k.transfers (owned_regions k.spaces.processes) (owned_regions (slice_set k.spaces.processes child (Some copies)))
  pub ends : (c : Region) (j : ℕ) (d : Region) → Has c copies → n ≤ j → j < length regions → c.start + c.pages ≤ (slice_index_or regions j d).start
  pub sources : (c : Region) → Has c copies → IsSource regions c
  pub works : (f : Region → ℕ) → sum_by (source_work f regions) copies ≤ sum_by f (filter is_forked (take n regions))
  pub state : (b : Bytes) → ((c : Region) → Has c copies → ShowsSource b.seen.entry_bytes regions c) → state_of (with_child k child copies) b ≡ add_copies (spawned (state_of k b) child) child (map (region_view b.seen.entry_bytes) (filter is_forked (take n regions)))

-- the pages of the parent's regions may be copied to the copies: the kernel with the child is good, and has few objects
pub record CanCopyPages (k : Kernel) (p child : ℕ) (copies : List Region) : Type 0 where
  pub alive : is_alive p k.spaces ≡ true
  pub good : IsGood (with_child k child copies)
  pub spare : count_by (λ o. not (is_absent o)) k.memory.objects ≤ 512
  pub are : AreCopies k.memory (objects_of k.hidden) (regions_of p k.spaces) copies

-- each page of the child is that of the parent's region which starts where its own does, unless a device holds that page
abbrev pub SharesPages : Kernel → ℕ → ℕ → Type 0
SharesPages k p child = (c r : Region) (i : ℕ) → Has c (regions_of child k.spaces) → find (starts_at c.start) (regions_of p k.spaces) ≡ Some r → i < r.pages → IsUnheld k.memory r.object.0 i → (entry_at k.memory.objects c.object.0 i).page ≡ (entry_at k.memory.objects r.object.0 i).page

-- the hidden regions of the child were dropped, and the copies made
pub record Begins (old new : Kernel) (p child : ℕ) (copies : List Region) : Type 0 where
  pub cleared : Kernel
  pub clears : Clears old cleared
  pub unhidden : count_by (is_of child) cleared.hidden ≡ 0
  pub only : new ≡ record cleared { memory = with_entries cleared new.memory.objects }
  pub ordered : AreInOrder extent (regions_of p cleared.spaces)
  pub made : HasCopies cleared child (regions_of p cleared.spaces) (length (regions_of p cleared.spaces)) copies new.memory.objects

-- the bytes that are moved for a fork of process p: those of each page of its regions that a device holds. Such a page stays
-- held, in its frame
abbrev pub fork_work : Kernel → ℕ → ℕ
fork_work k p = sum_by (λ (r : Region). copies_work k.memory r.object.0 r.pages) (filter is_forked (regions_of p k.spaces))
