-- The regions that are kept hidden, and the pages that they have.
use Rattle.std.specs.Prelude.{◌≡◌, ℕ, ◌≤◌, ◌<◌, ◌==◌, ◌&&◌, slice_index_or, remove, Some, None, Bool, false, not, List, [], Option, length, map, filter, count_by, sum_by, nat_lt, if◌then◌else◌}
use Rattle.std.specs.Option.{option_map}
use Rattle.genie_base.specs.declared.region.Area.TheVariants.{App}
use Rattle.genie_base.specs.declared.region.RegionState.TheVariants.{Live}
use Rattle.genie_frame.specs.declared.frame.Owner.{Owner}
use Rattle.genie_frame.specs.declared.frame.Owner.TheVariants.{Free, Page, System, Pool, Nobody}
use Rattle.genie_store.specs.StoreView.{StoreView}
use Rattle.genie_object.specs.declared.objects.Entry.{Entry}
use Rattle.genie_object.specs.declared.memory.Memory.{Memory}
use Rattle.genie_object.specs.Objects.{object_at, names}
use Rattle.genie_object.specs.Memory.{Seen, seen_with}
use Rattle.genie_object.specs.Sound.{IsCached, FitsHidden}
use Rattle.genie_region.specs.declared.region.Region.{Region}
use Rattle.genie_hiding.specs.declared.hidden.Hidden.{Hidden}

abbrev pub no_hidden : Hidden
no_hidden = record { pid = 0; region = record { id = record { 0 = 0 }; start = 0; pages = 0; area = App; state = Live; writable = false; object = record { 0 = 0 } } }

abbrev pub object_of : Hidden → ℕ
object_of h = h.region.object.0

-- the objects of the hidden regions
abbrev pub objects_of : List Hidden → List ℕ
objects_of kept = map object_of kept

abbrev pub is_of : ℕ → Hidden → Bool
is_of pid h = h.pid == pid

-- the hidden regions of every process but this one
abbrev pub others : ℕ → List Hidden → List Hidden
others pid kept = filter (λ h. not (is_of pid h)) kept

-- a hidden region of that process, start and size
abbrev pub is_same : ℕ → ℕ → ℕ → Hidden → Bool
is_same pid start pages h = (h.pid == pid) && (h.region.start == start) && (h.region.pages == pages)

-- the hidden region at a place, and the other ones
abbrev pub region_at : Option ℕ → List Hidden → Option Region
region_at None kept = None
region_at (Some k) kept = Some (slice_index_or kept k no_hidden).region

abbrev pub without : Option ℕ → List Hidden → List Hidden
without None kept = kept
without (Some k) kept = remove kept k

-- what every cache keeps: the regions are of processes below 16, and at most 32 of each
pub record AreFew (kept : List Hidden) : Type 0 where
  pub process : (k : ℕ) → k < length kept → (slice_index_or kept k no_hidden).pid < 16
  pub few : (pid : ℕ) → count_by (is_of pid) kept ≤ 32

pub record IsKept (kept : List Hidden) (capacity : ℕ) : Type 0 where
  pub are : AreFew kept
  pub most : length kept ≤ 512
  pub room : 512 ≤ capacity

-- how many entries of hidden regions name the page
abbrev pub times_hidden : List (List Entry) → List ℕ → ℕ → ℕ
times_hidden objects hidden p = sum_by (λ o. count_by (names p) (object_at objects o)) hidden

abbrev pub is_hidden : List (List Entry) → List ℕ → ℕ → Bool
is_hidden objects hidden p = nat_lt 0 (times_hidden objects hidden p)

-- the frame has a page that is no hidden region's
abbrev pub is_visible : List (List Entry) → List ℕ → Owner → Bool
is_visible objects hidden Free = false
is_visible objects hidden (Page p) = not (is_hidden objects hidden p)
is_visible objects hidden (System t) = false
is_visible objects hidden (Pool d) = false
is_visible objects hidden Nobody = false

-- the frame's page is a hidden region's
abbrev pub has_hidden : List (List Entry) → List ℕ → Owner → Bool
has_hidden objects hidden Free = false
has_hidden objects hidden (Page p) = is_hidden objects hidden p
has_hidden objects hidden (System t) = false
has_hidden objects hidden (Pool d) = false
has_hidden objects hidden Nobody = false

-- whether the object is one of these
abbrev pub is_among : ℕ → List ℕ → Bool
is_among o hidden = nat_lt 0 (count_by (λ h. h == o) hidden)

-- what is seen outside hidden regions
abbrev pub outside : List ℕ → Seen → Seen
outside hidden s = record s { entry_bytes = λ o i. if is_among o hidden then [] else s.entry_bytes o i }

abbrev pub seen_outside : List ℕ → Memory → StoreView → Option Seen
seen_outside hidden m v = option_map (outside hidden) (seen_with m v)

-- a region that is no longer kept: its pages are still its own, and the other regions fit the memory without it
pub record IsTakenBack (m : Memory) (kept : List Hidden) (region : Region) : Type 0 where
  pub cached : IsCached m region.object.0
  pub apart : is_among region.object.0 (objects_of kept) ≡ false
  pub fits : FitsHidden m (objects_of kept)
