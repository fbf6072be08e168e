-- A region that is moved out, and used again as the buffer of a weak move input.
use Rattle.std.specs.Prelude.{◌≡◌, ℕ, ◌+◌, ◌-◌, ◌/◌, false, List, [], find, Option, Some, None, slice_set, slice_index_or}
use Rattle.std.specs.List.{list_any}
use Rattle.genie_base.specs.declared.numbers.RegionId.{RegionId}
use Rattle.genie_base.specs.declared.region.RegionState.TheVariants.{In}
use Rattle.genie_hiding.specs.Queues.{without}
use Rattle.genie_region.specs.declared.region.Region.{Region}
use Rattle.genie_region.specs.Layouts.{with_region}
use Rattle.genie_space.specs.Spaces as spaces
use Rattle.genie_model.specs.Tables.{entry}
use Rattle.genie_kernel.specs.declared.kernel.Kernel.{Kernel}
use Rattle.genie_kernel.specs.declared.transfer.Transfer.{Transfer}
use Rattle.genie_kernel.specs.Asked.{has_pages, is_reusable}
use Rattle.genie_kernel.specs.Regions.{regions_of}
use Rattle.genie_inputs.specs.declared.call.Call.{Call}

-- how many pages the call's bytes need
abbrev pub pages_of : Kernel → Call → ℕ
pages_of k c = (c.len + k.config.page - 1) / k.config.page

-- the first region of the weak queue that has as many pages as the call's bytes need, and that no transfer names
pub record IsReusable (k : Kernel) (c : Call) (r : Region) : Type 0 where
  pub first : find (is_reusable (regions_of (entry k.spaces.processes c.pid)) k.transfers (pages_of k c)) (slice_index_or k.queues c.pid []) ≡ Some r.id.0
  pub found : find (has_pages r.id.0 (pages_of k c)) (regions_of (entry k.spaces.processes c.pid)) ≡ Some r

-- the same region, moved into
abbrev pub filled_region : Region → Region
filled_region r = record r { state = In }

-- the region is In, and leaves the weak queue of its process
abbrev pub moved_in : Kernel → ℕ → RegionId → Kernel
moved_in k p id = record k { spaces = spaces.set_regions k.spaces p (with_region id filled_region (spaces.regions_of p k.spaces)); queues = slice_set k.queues p (without id.0 (slice_index_or k.queues p [])) }

-- the region is In
abbrev pub with_filled : Kernel → ℕ → RegionId → Kernel
with_filled k p id = record k { spaces = spaces.set_regions k.spaces p (with_region id filled_region (spaces.regions_of p k.spaces)) }

-- what is found in this queue: the first region that has so many pages and that no transfer names, or none
abbrev pub FindsIn : List ℕ → List Region → List Transfer → ℕ → Option Region → Type 0
FindsIn queue regions transfers pages None = list_any (is_reusable regions transfers pages) queue ≡ false
FindsIn queue regions transfers pages (Some r) = (find (is_reusable regions transfers pages) queue ≡ Some r.id.0) × (find (has_pages r.id.0 pages) regions ≡ Some r)

-- what is found for a call
abbrev pub FindsReusable : Kernel → Call → Option Region → Type 0
FindsReusable k c None = list_any (is_reusable (regions_of (entry k.spaces.processes c.pid)) k.transfers (pages_of k c)) (slice_index_or k.queues c.pid []) ≡ false
FindsReusable k c (Some r) = IsReusable k c r
