-- What the causes of refusal ask, of the kernel's own tables.
use Rattle.std.specs.Prelude.{ℕ, Bool, true, false, not, ◌&&◌, ◌==◌, List, sum_by, if◌then◌else◌, Option}
use Rattle.std.specs.List.{list_any}
use Rattle.genie_base.specs.Counts.{span, cost}
use Rattle.genie_base.specs.Regions.{is_accessible}
use Rattle.genie_base.specs.Transfers.{class_of}
use Rattle.genie_region.specs.declared.region.Region.{Region}
use Rattle.genie_refusal.specs.declared.tables.FoundRegion.{FoundRegion}
use Rattle.genie_kernel.specs.declared.transfer.Transfer.{Transfer}
use Rattle.genie_kernel.specs.Calls.{begins_at}
use Rattle.genie_kernel.specs.Regions.{has_id, regions_of}
use Rattle.genie_kernel.specs.Searches.{names}

abbrev pub found_as : Region → FoundRegion
found_as r = record { number = r.id.0; area = r.area; state = r.state; writable = r.writable }

-- the pages of a region, or those that a child gets a copy of
abbrev pub counted_pages : Bool → Region → ℕ
counted_pages true r = if is_accessible r.state then r.pages else 0
counted_pages false r = r.pages

abbrev pub pages_in : Option (List Region) → ℕ
pages_in p = sum_by (counted_pages false) (regions_of p)

-- how many frames a transfer may need
abbrev pub cost_of : ℕ → Transfer → ℕ
cost_of page t = cost (class_of t.sem) t.dir (span page (begins_at t) t.len)

abbrev pub has_pages : ℕ → ℕ → Region → Bool
has_pages k pages r = has_id k r && (r.pages == pages)

-- region k of a process has exactly so many pages, and no pending transfer names it
abbrev pub is_reusable : List Region → List Transfer → ℕ → ℕ → Bool
is_reusable regions transfers pages k = list_any (has_pages k pages) regions && not (list_any (names k) transfers)
