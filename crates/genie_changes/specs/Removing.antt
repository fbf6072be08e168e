-- Laws of a region that goes: which regions are left, and what the view and the parts of the invariant make of that.
use Rattle.std.specs.Prelude.{◌≡◌, ◌≢◌, ℕ, ◌==◌, ◌<◌, ◌≤◌, true, false, not, List, [], length, map, filter, find, AllPairs, All, Option, Some, is_some, slice_set, slice_index_or}
use Rattle.std.specs.List.{list_any}
use Rattle.genie_hiding.specs.declared.hidden.Hidden.{Hidden}
use Rattle.genie_object.specs.declared.objects.Entry.{Entry}
use Rattle.genie_object.specs.Objects.{object_at, is_absent}
use Rattle.genie_region.specs.declared.region.Region.{Region}
use Rattle.genie_model.specs.Regions.{change_process}
use Rattle.genie_model.specs.Space.{without_region}
use Rattle.genie_model.specs.Tables.{entry}
use Rattle.genie_kernel.specs.declared.kernel.Kernel.{Kernel}
use Rattle.genie_kernel.specs.declared.transfer.Transfer.{Transfer}
use Rattle.genie_kernel.specs.Backed.{AreBacked, all_regions}
use Rattle.genie_kernel.specs.Good.{IsGood}
use Rattle.genie_kernel.specs.Regions.{has_id, owned_regions, regions_of, processes_view}
use Rattle.genie_changes.specs.Orphans.{IsWithout}
use Rattle.genie_changes.specs.Pages.{FindsOthers}
use Rattle.genie_changes.specs.Regions.{without_number}

-- no process but p has region n
abbrev pub IsOnlyIn : ℕ → ℕ → List (Option (List Region)) → Type 0
IsOnlyIn n p ps = (i : ℕ) → i ≢ p → list_any (has_id n) (regions_of (entry ps i)) ≡ false

-- numbers of transfers rise, and are below the next one
pub record TransfersRise (k : Kernel) : Type 0 where
  pub order : AllPairs (λ (x y : Transfer). x.id.0 < y.id.0) k.transfers
  pub below : All (λ (t : Transfer). t.id.0 < k.next) k.transfers

abbrev pub GoodTransfersRise : Type 0
GoodTransfersRise = (k : Kernel) → IsGood k → TransfersRise k

-- a region of a process is only in it
abbrev pub GoodIsOnlyIn : Type 0
GoodIsOnlyIn = (k : Kernel) (p n : ℕ) → IsGood k → list_any (has_id n) (regions_of (entry k.spaces.processes p)) ≡ true → IsOnlyIn n p k.spaces.processes

-- the regions of all processes without one of process p
abbrev pub LeavesOthers : Type 0
LeavesOthers = (ps : List (Option (List Region))) (p : ℕ) (r : Region) (rs : List Region) → entry ps p ≡ Some rs → find (has_id r.id.0) rs ≡ Some r → IsOnlyIn r.id.0 p ps → IsWithout r (owned_regions ps) (owned_regions (slice_set ps p (Some (without_number r.id.0 rs))))

-- the others are found as before, and have other objects
abbrev pub FindsOthersStill : Type 0
FindsOthersStill = (objects : List (List Entry)) (hidden : List Hidden) (ps : List (Option (List Region))) (p : ℕ) (r : Region) (rs : List Region) → entry ps p ≡ Some rs → find (has_id r.id.0) rs ≡ Some r → IsOnlyIn r.id.0 p ps → AreBacked objects (all_regions ps hidden) → FindsOthers r (owned_regions ps) (owned_regions (slice_set ps p (Some (without_number r.id.0 rs))))

-- no queue of a live process but that of p lists n
abbrev pub IsListedIn : ℕ → ℕ → List (Option (List Region)) → List (List ℕ) → Type 0
IsListedIn n p ps queues = (i : ℕ) → i ≢ p → is_some (entry ps i) ≡ true → list_any (λ m. m == n) (slice_index_or queues i []) ≡ false

-- the processes of the view without the region
abbrev pub ProcessesLess : Type 0
ProcessesLess = (s : ℕ → ℕ → List ℕ) (ps : List (Option (List Region))) (queues : List (List ℕ)) (p n : ℕ) (rs : List Region) → entry ps p ≡ Some rs → p < length queues → IsOnlyIn n p ps → IsListedIn n p ps queues
    → processes_view s (slice_set ps p (Some (without_number n rs))) (slice_set queues p (filter (λ m. not (m == n)) (slice_index_or queues p []))) ≡ map (change_process (without_region n)) (processes_view s ps queues)

-- the region's object is dropped, and no other one comes, goes or gets another length
pub record DropsObject (r : Region) (old new : List (List Entry)) : Type 0 where
  pub absent : is_absent (object_at new r.object.0) ≡ true
  pub others : (o : ℕ) → o ≢ r.object.0 → length (object_at new o) ≡ length (object_at old o)
  pub absences : (o : ℕ) → o ≢ r.object.0 → is_absent (object_at new o) ≡ is_absent (object_at old o)

abbrev pub BackedLess : Type 0
BackedLess = (old new : List (List Entry)) (ps : List (Option (List Region))) (hidden : List Hidden) (p : ℕ) (r : Region) (rs : List Region) → entry ps p ≡ Some rs → find (has_id r.id.0) rs ≡ Some r → AllPairs (λ (a b : Region). a.id.0 ≢ b.id.0) rs → DropsObject r old new → AreBacked old (all_regions ps hidden) → AreBacked new (all_regions (slice_set ps p (Some (without_number r.id.0 rs))) hidden)

-- a region has 1 to 64 pages, and a number below 577
pub record FitsTables (r : Region) : Type 0 where
  pub low : r.id.0 < 577
  pub some : 0 < r.pages
  pub most : r.pages ≤ 64

abbrev pub GoodRegionsFit : Type 0
GoodRegionsFit = (k : Kernel) → IsGood k → All FitsTables (owned_regions k.spaces.processes)

abbrev pub GoodPageHasBytes : Type 0
GoodPageHasBytes = (k : Kernel) → IsGood k → 0 < k.config.page

-- a region that only process p has is listed in no other queue
abbrev pub GoodIsListedIn : Type 0
GoodIsListedIn = (k : Kernel) (p n : ℕ) → IsGood k → IsOnlyIn n p k.spaces.processes → IsListedIn n p k.spaces.processes k.queues
