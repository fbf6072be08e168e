-- The regions of the processes, what is left of those that were removed, and the bytes of both.
use Rattle.std.specs.Prelude.{ℕ, zero, suc, ◌+◌, ◌-◌, ◌*◌, Bool, ◌&&◌, ◌||◌, ◌==◌, nat_le, nat_lt, List, [], ◌∷◌, ◌++◌, map, find, sum_by, length, slice_index, Option, None, Some, if◌then◌else◌, is_some}
use Rattle.std.specs.List.{list_any}
use Rattle.std.specs.Option.{option_flatten}
use Rattle.genie_base.specs.Bytes.{overlaid, part}
use Rattle.genie_base.specs.Regions.{Extent, reach, write_reach, place}
use Rattle.genie_base.specs.declared.region.RegionState.{RegionState}
use Rattle.genie_model.specs.State.{State, Region, Orphan, Process}
use Rattle.genie_model.specs.Tables.{entry}

abbrev pub extent_of : Region → Extent
extent_of r = record { start = r.start; pages = r.pages; state = r.state; writable = r.writable }

abbrev pub regions_of : Option Process → List Region
regions_of None = []
regions_of (Some p) = p.regions

abbrev pub regions_at : State → ℕ → List Region
regions_at s p = regions_of (entry s.processes p)

abbrev pub queue_of : Option Process → List ℕ
queue_of None = []
queue_of (Some p) = p.queue

abbrev pub is_alive : State → ℕ → Bool
is_alive s p = is_some (entry s.processes p)

-- the region of process p that the n bytes from address a on reach, or none
abbrev pub reach_of : State → ℕ → ℕ → ℕ → Option Region
reach_of s p a n = reach extent_of s.config.page a n (regions_at s p)

-- the same for a write: only where it may be written
abbrev pub write_reach_of : State → ℕ → ℕ → ℕ → Option Region
write_reach_of s p a n = write_reach extent_of s.config.page a n (regions_at s p)

-- the place for n pages in process p: the lowest start in the system area, or none
abbrev pub place_of : State → ℕ → ℕ → Option ℕ
place_of s p n = place extent_of n (regions_at s p)

-- where an address lies in its region
abbrev pub place_in : State → Region → ℕ → ℕ
place_in s r a = a - r.start * s.config.page

-- the address at which a region begins
abbrev pub address_of : State → Region → ℕ
address_of s r = r.start * s.config.page

abbrev pub is_region : ℕ → Region → Bool
is_region k r = r.number == k

abbrev pub has_number : ℕ → Option Process → Bool
has_number k p = list_any (is_region k) (regions_of p)

-- the region with this number, whoever has it, or none
abbrev pub region_numbered : State → ℕ → Option Region
region_numbered s k = find (is_region k) (regions_of (option_flatten (find (has_number k) s.processes)))

abbrev pub is_orphan : ℕ → Orphan → Bool
is_orphan k o = o.number == k

abbrev pub orphan_numbered : State → ℕ → Option Orphan
orphan_numbered s k = find (is_orphan k) s.orphans

-- an orphan or a region has this number
abbrev pub is_used : State → ℕ → Bool
is_used s k = list_any (is_orphan k) s.orphans || list_any (has_number k) s.processes

-- the first number from n on that isn't used, where so many are tried
unfoldable pub least_unused : State → ℕ → ℕ → ℕ
least_unused s zero n = n
least_unused s (suc tries) n = if is_used s n then least_unused s tries (n + 1) else n

-- the least number that no region and no orphan has: there are at most 512 regions and 64 orphans
unfoldable pub fresh : State → ℕ
fresh s = least_unused s 577 0

abbrev pub region_pages : Option Process → ℕ
region_pages p = sum_by (λ r. r.pages) (regions_of p)

-- the pages of all regions
abbrev pub committed : State → ℕ
committed s = sum_by region_pages s.processes

-- the place is one of the n from place x on
abbrev pub is_within_range : ℕ → ℕ → ℕ × ℕ → Bool
is_within_range x n e = nat_le x e.0 && nat_lt e.0 (x + n)

-- the byte of a pair, where its place is one of them
abbrev pub byte_within : ℕ → ℕ → ℕ × ℕ → List ℕ
byte_within x n e = if is_within_range x n e then e.1 ∷ [] else []

-- the bytes at those places
abbrev pub bytes_within : ℕ → ℕ → List (ℕ × ℕ) → List ℕ
bytes_within x n [] = []
bytes_within x n (e ∷ pairs) = byte_within x n e ++ bytes_within x n pairs

-- the bytes that an orphan has at the n places from place x on
abbrev pub orphan_part : ℕ → ℕ → Option Orphan → List ℕ
orphan_part x n None = []
orphan_part x n (Some o) = bytes_within x n o.bytes

abbrev pub region_part : ℕ → ℕ → Option Region → List ℕ → List ℕ
region_part x n None otherwise = otherwise
region_part x n (Some r) otherwise = part x n r.bytes

-- the n bytes from place x on of region or orphan k
abbrev pub bytes_of : State → ℕ → ℕ → ℕ → List ℕ
bytes_of s k x n = region_part x n (region_numbered s k) (orphan_part x n (orphan_numbered s k))

abbrev pub change_process : (Process → Process) → Option Process → Option Process
change_process f None = None
change_process f (Some p) = Some (f p)

-- f is done to region k, and to no other one
abbrev pub changed : ℕ → (Region → Region) → Region → Region
changed k f r = if r.number == k then f r else r

abbrev pub changed_in : ℕ → (Region → Region) → Process → Process
changed_in k f p = record p { regions = map (changed k f) p.regions }

-- f is done to region k, whoever has it
abbrev pub change_region : State → ℕ → (Region → Region) → State
change_region s k f = record s { processes = map (change_process (changed_in k f)) s.processes }

abbrev pub with_bytes : ℕ → List ℕ → Region → Region
with_bytes x new r = record r { bytes = overlaid x new r.bytes }

abbrev pub with_state : RegionState → Region → Region
with_state state r = record r { state = state }

abbrev pub with_mode : Bool → Region → Region
with_mode writable r = record r { writable = writable }

-- the byte at this place of the orphan is one of the new ones from place x on, or stays
abbrev pub stored_at : ℕ → List ℕ → ℕ × ℕ → ℕ × ℕ
stored_at x new e = if is_within_range x (length new) e then (e.0, slice_index new (e.0 - x)) else e

-- Only the places that the orphan still has are stored.
abbrev pub stored_in_orphan : ℕ → ℕ → List ℕ → Orphan → Orphan
stored_in_orphan k x new o = if o.number == k then record o { bytes = map (stored_at x new) o.bytes } else o

-- region or orphan k with other bytes from place x on, and nothing else changed
abbrev pub put : State → ℕ → ℕ → List ℕ → State
put s k x new = record (change_region s k (with_bytes x new)) { orphans = map (stored_in_orphan k x new) s.orphans }
