-- The events on address spaces: processes, regions and accesses.
use Rattle.std.specs.Prelude.{ℕ, ◌+◌, ◌*◌, Bool, true, false, not, ◌&&◌, ◌==◌, List, [], ◌∷◌, length, map, filter, find, replicate, slice_set, Option, None, Some, unwrap_or, if◌then◌else◌}
use Rattle.std.specs.List.{list_any}
use Rattle.genie_base.specs.Bytes.{part}
use Rattle.genie_base.specs.Regions.{is_accessible, add_in_order}
use Rattle.genie_base.specs.declared.region.Area.{Area}
use Rattle.genie_base.specs.declared.region.Area.TheVariants.{App, Sys}
use Rattle.genie_base.specs.declared.region.RegionState.{RegionState}
use Rattle.genie_base.specs.declared.region.RegionState.TheVariants.{Live}
use Rattle.genie_base.specs.declared.reply.Reply.{Reply}
use Rattle.genie_base.specs.declared.reply.Reply.TheVariants as reply
use Rattle.genie_base.specs.declared.semantics.Class.{Class}
use Rattle.genie_base.specs.declared.semantics.Class.TheVariants.{Copy, Share, Move, WeakMove}
use Rattle.genie_model.specs.State.{State, Region, Orphan, Process, Transfer}
use Rattle.genie_model.specs.Tables.{put_in, entry, set_entry}
use Rattle.genie_model.specs.Regions.{extent_of, regions_at, is_region, fresh, place_of, place_in, address_of, reach_of, change_process, change_region, with_mode, put}
use Rattle.genie_model.specs.Pending.{is_posted, is_just, names_weakly, covers}

-- a state and a reply
abbrev pub Outcome : Type 0
Outcome = State × Reply

-- a process without a region
abbrev pub spawned : State → ℕ → State
spawned s p = record s { processes = set_entry s.processes p (record { queue = []; regions = [] }) }

abbrev pub spawn : State → ℕ → Outcome
spawn s p = (spawned s p, reply.Okay)

-- a region of zeros, from page g on
abbrev pub zeros : State → Area → RegionState → ℕ → ℕ → Region
zeros s area state g n = record { number = fresh s; start = g; pages = n; area = area; state = state; writable = true; bytes = replicate (n * s.config.page) 0 }

-- the same at the place for n pages
abbrev pub zeros_at_place : State → RegionState → ℕ → ℕ → Region
zeros_at_place s state p n = zeros s Sys state (unwrap_or (place_of s p n) 0) n

abbrev pub with_region : Region → Process → Process
with_region r p = record p { regions = add_in_order extent_of r p.regions }

abbrev pub add_region : State → ℕ → Region → State
add_region s p r = record s { processes = slice_set s.processes p (change_process (with_region r) (entry s.processes p)) }

abbrev pub map_pages : State → ℕ → ℕ → ℕ → Outcome
map_pages s p g n = (add_region s p (zeros s App Live g n), reply.Okay)

abbrev pub alloc : State → ℕ → ℕ → Outcome
alloc s p n = (add_region s p (zeros_at_place s Live p n), reply.At (address_of s (zeros_at_place s Live p n)))

-- the bytes of a region with their places, from place x on
abbrev pub placed : ℕ → List ℕ → List (ℕ × ℕ)
placed x [] = []
placed x (b ∷ bytes) = (x, b) ∷ placed (x + 1) bytes

abbrev pub as_orphan : Region → Orphan
as_orphan r = record { number = r.number; bytes = placed 0 r.bytes }

abbrev pub add_orphan : Region → List Orphan → List Orphan
add_orphan r orphans = put_in (λ (o : Orphan). o.number) (as_orphan r) orphans

abbrev pub without_region : ℕ → Process → Process
without_region k p = record { queue = filter (λ n. not (n == k)) p.queue; regions = filter (λ r. not (is_region k r)) p.regions }

-- the region goes, also from the weak queue, and is an orphan: `tidy`, which ends the event, leaves of it what pending
-- weak transfers cover
abbrev pub remove : State → Region → State
remove s r = record s { processes = map (change_process (without_region r.number)) s.processes; orphans = add_orphan r s.orphans }

abbrev pub remove_found : State → Option Region → State
remove_found s None = s
remove_found s (Some r) = remove s r

-- the orphan without the places that no pending weak transfer covers
abbrev pub cut : List Transfer → Orphan → Orphan
cut transfers o = record o { bytes = filter (λ (e : ℕ × ℕ). list_any (covers o.number e.0) transfers) o.bytes }

abbrev pub is_named : List Transfer → Orphan → Bool
is_named transfers o = list_any (names_weakly o.number) transfers

-- each orphan is cut to the covered places, and one that no pending weak transfer names goes
abbrev pub tidy : State → State
tidy s = record s { orphans = map (cut s.transfers) (filter (is_named s.transfers) s.orphans) }

abbrev pub starts_at : ℕ → Region → Bool
starts_at g r = is_accessible r.state && (r.start == g)

-- the accessible region of process p that starts at page g, or none
abbrev pub region_from : State → ℕ → ℕ → Option Region
region_from s p g = find (starts_at g) (regions_at s p)

abbrev pub unmap : State → ℕ → ℕ → Outcome
unmap s p g = (remove_found s (region_from s p g), reply.Okay)

abbrev pub protect_found : State → Option Region → Bool → State
protect_found s None writable = s
protect_found s (Some r) writable = change_region s r.number (with_mode writable)

abbrev pub protect : State → ℕ → ℕ → Bool → Outcome
protect s p g writable = (protect_found s (region_from s p g) writable, reply.Okay)

abbrev pub accessible : List Region → List Region
accessible regions = filter (λ r. is_accessible r.state) regions

abbrev pub copy_of : State → Region → Region
copy_of s r = record r { number = fresh s; state = Live }

-- a Live copy of each region, with the same start, area, mode and bytes
abbrev pub add_copies : State → ℕ → List Region → State
add_copies s q [] = s
add_copies s q (r ∷ regions) = add_copies (add_region s q (copy_of s r)) q regions

abbrev pub fork : State → ℕ → ℕ → Outcome
fork s p q = (add_copies (spawned s q) q (accessible (regions_at s p)), reply.Okay)

abbrev pub add_orphans : List Region → List Orphan → List Orphan
add_orphans [] orphans = orphans
add_orphans (r ∷ regions) orphans = add_orphans regions (add_orphan r orphans)

abbrev pub is_move : Class → Bool
is_move Copy = false
is_move Share = false
is_move Move = true
is_move WeakMove = false

-- a transfer of process p without its owner, and a move without its region
abbrev pub disowned : ℕ → Transfer → Transfer
disowned p t = if is_just t.owner p then record t { owner = None; region = if is_move t.class then None else t.region } else t

abbrev pub is_posted_by : ℕ → Transfer → Bool
is_posted_by p t = is_just t.owner p && is_posted t.phase

-- the posted inputs end, the other transfers lose their owner, all regions are removed, and the process goes
abbrev pub exit : State → ℕ → Outcome
exit s p = (
  record s {
    processes = slice_set s.processes p None;
    orphans = add_orphans (regions_at s p) s.orphans;
    transfers = map (disowned p) (filter (λ t. not (is_posted_by p t)) s.transfers);
  },
  reply.Okay,
)

-- the n bytes from address a on of the region that was reached
abbrev pub bytes_reached : State → Option Region → ℕ → ℕ → List ℕ
bytes_reached s None a n = []
bytes_reached s (Some r) a n = part (place_in s r a) n r.bytes

abbrev pub read : State → ℕ → ℕ → ℕ → Outcome
read s p a n = (s, reply.Bytes (bytes_reached s (reach_of s p a n) a n))

-- bytes stored where an access reaches
abbrev pub stored : State → Option Region → ℕ → List ℕ → State
stored s None a bytes = s
stored s (Some r) a bytes = put s r.number (place_in s r a) bytes

abbrev pub write : State → ℕ → ℕ → List ℕ → Outcome
write s p a bytes = (stored s (reach_of s p a (length bytes)) a bytes, reply.Okay)
