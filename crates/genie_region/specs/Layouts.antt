-- The regions of a process, in order.
use Rattle.std.specs.Prelude.{◌≡◌, ◌≢◌, ℕ, ◌+◌, ◌*◌, ◌<◌, ◌≤◌, Bool, true, false, not, ◌==◌, ◌&&◌, nat_le, List, length, find, filter, map, Option, if◌then◌else◌}
use Rattle.std.specs.List.{AllPairs}
use Rattle.genie_base.specs.declared.numbers.RegionId.{RegionId}
use Rattle.genie_base.specs.Regions.{Extent, AreInOrder, is_free, is_accessible}
use Rattle.genie_region.specs.declared.region.Region.{Region}

abbrev pub extent : Region → Extent
extent r = record { start = r.start; pages = r.pages; state = r.state; writable = r.writable }

-- the page after its last
abbrev pub end_of : Region → ℕ
end_of r = r.start + r.pages

-- it ends at this page, or before
abbrev pub ends_by : ℕ → Region → Bool
ends_by page r = nat_le (end_of r) page

-- it starts at this address, or before
abbrev pub starts_by : ℕ → ℕ → Region → Bool
starts_by page addr r = nat_le (r.start * page) addr

-- an access may reach it, and it starts at this page
abbrev pub starts_at : ℕ → Region → Bool
starts_at page r = is_accessible r.state && (r.start == page)

abbrev pub has_id : RegionId → Region → Bool
has_id id r = r.id.0 == id.0

-- the region with this number
abbrev pub region_of : RegionId → List Region → Option Region
region_of id regions = find (has_id id) regions

-- the other regions
abbrev pub without : RegionId → List Region → List Region
without id regions = filter (λ r. not (has_id id r)) regions

-- the regions with one changed
abbrev pub with_region : RegionId → (Region → Region) → List Region → List Region
with_region id change regions = map (λ r. if has_id id r then change r else r) regions

-- at most 32 regions in order of start pages, none overlapping another, each with a number of its own
pub record IsLayout (regions : List Region) : Type 0 where
  pub few : length regions ≤ 32
  pub ordered : AreInOrder extent regions
  pub numbered : AllPairs (λ a b. a.id.0 ≢ b.id.0) regions

-- from page 512 on the first one at which so many pages are free
pub record IsLowestFit (pages : ℕ) (regions : List Region) (start : ℕ) : Type 0 where
  pub low : 512 ≤ start
  pub free : is_free extent start pages regions ≡ true
  pub taken : (lower : ℕ) → 512 ≤ lower → lower < start → is_free extent lower pages regions ≡ false
