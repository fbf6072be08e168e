-- Where regions lie in an address space, and which of them an access reaches.
use Rattle.std.specs.Prelude.{ℕ, ◌+◌, ◌-◌, ◌*◌, Bool, true, false, ◌&&◌, ◌||◌, nat_le, nat_lt, ◌≤◌, List, [], ◌∷◌, find, Option, Some, None, option_and_then, if◌then◌else◌}
use Rattle.std.specs.List.{list_all, range_with_len, AllPairs}
use Rattle.genie_base.specs.declared.region.RegionState.{RegionState}
use Rattle.genie_base.specs.declared.region.RegionState.TheVariants.{Live, Out, In, Held}

-- what an access asks of a region: its pages, its state, and whether it may be written
pub record Extent : Type 0 where
  pub start : ℕ
  pub pages : ℕ
  pub state : RegionState
  pub writable : Bool

-- a held region is reserved for a move input, and no access reaches it
abbrev pub is_accessible : RegionState → Bool
is_accessible Live = true
is_accessible Out = true
is_accessible In = true
is_accessible Held = false

-- the range begins in the region, and doesn't pass its end
abbrev pub contains_range : ℕ → ℕ → ℕ → Extent → Bool
contains_range page addr len e = nat_le (e.start * page) addr && nat_lt addr ((e.start + e.pages) * page) && nat_le (addr + len) ((e.start + e.pages) * page)

abbrev pub is_reached : ℕ → ℕ → ℕ → Extent → Bool
is_reached page addr len e = is_accessible e.state && contains_range page addr len e

-- the region that a range of bytes reaches, or none
abbrev pub reach : {X : Type 0} → (X → Extent) → ℕ → ℕ → ℕ → List X → Option X
reach extent page addr len regions = find (λ r. is_reached page addr len (extent r)) regions

-- the region that a write of this range reaches, or none
abbrev pub write_reach : {X : Type 0} → (X → Extent) → ℕ → ℕ → ℕ → List X → Option X
write_reach extent page addr len regions = option_and_then (λ r. if (extent r).writable then Some r else None) (reach extent page addr len regions)

-- no page of these lies in the region
abbrev pub is_apart : ℕ → ℕ → Extent → Bool
is_apart start pages e = nat_le (e.start + e.pages) start || nat_le (start + pages) e.start

abbrev pub is_free : {X : Type 0} → (X → Extent) → ℕ → ℕ → List X → Bool
is_free extent start pages regions = list_all (λ r. is_apart start pages (extent r)) regions

-- the lowest start in the system area, pages 512 to 1,023, at which so many pages are free
abbrev pub place : {X : Type 0} → (X → Extent) → ℕ → List X → Option ℕ
place extent pages regions = find (λ start. is_free extent start pages regions) (range_with_len 512 (513 - pages))

-- in order of start pages, none overlapping another: each ends before the later ones start
abbrev pub AreInOrder : {X : Type 0} → (X → Extent) → List X → Type 0
AreInOrder extent regions = AllPairs (λ a b. (extent a).start + (extent a).pages ≤ (extent b).start) regions

-- the regions with one more in its place by start page: after those that end before it starts
abbrev pub add_in_order : {X : Type 0} → (X → Extent) → X → List X → List X
add_in_order extent new [] = new ∷ []
add_in_order extent new (r ∷ rest) = if nat_le ((extent r).start + (extent r).pages) (extent new).start then r ∷ add_in_order extent new rest else new ∷ r ∷ rest
