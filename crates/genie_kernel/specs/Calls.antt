-- What a pending transfer is, of what the flat machine asks of it.
use Rattle.std.specs.Prelude.{ℕ, Bool, true, false, not, ◌&&◌, ◌||◌, ◌==◌, List, find, Option, None, Some, if◌then◌else◌, unwrap_or}
use Rattle.std.specs.Option.{option_map}
use Rattle.std.specs.List.{list_any}
use Rattle.genie_base.specs.Transfers.{class_of, is_strong}
use Rattle.genie_base.specs.declared.numbers.RegionId.{RegionId}
use Rattle.genie_base.specs.declared.semantics.Class.{Class}
use Rattle.genie_base.specs.declared.semantics.Class.TheVariants.{Copy, Share, Move, WeakMove}
use Rattle.genie_base.specs.declared.semantics.Direction.{Direction}
use Rattle.genie_base.specs.declared.semantics.Direction.TheVariants.{Outward, Inward}
use Rattle.genie_region.specs.declared.region.Region.{Region}
use Rattle.genie_model.specs.Pending.{is_queued, is_ready, is_moving, is_inward, is_just}
use Rattle.genie_model.specs.Refusing.{is_live}
use Rattle.genie_kernel.specs.declared.transfer.Transfer.{Transfer}

abbrev pub number_of : Transfer → ℕ
number_of t = t.id.0

abbrev pub has_number : ℕ → Transfer → Bool
has_number k t = t.id.0 == k

abbrev pub region_number : Transfer → Option ℕ
region_number t = option_map (λ (k : RegionId). k.0) t.region

abbrev pub is_strong_call : Transfer → Bool
is_strong_call t = is_strong (class_of t.sem)

abbrev pub is_copy_input : Class → Direction → Bool
is_copy_input Copy Inward = true
is_copy_input Copy Outward = false
is_copy_input Share direction = false
is_copy_input Move direction = false
is_copy_input WeakMove direction = false

-- the address that a copy input keeps
abbrev pub addr_of : Transfer → Option ℕ
addr_of t = if is_copy_input (class_of t.sem) t.dir then Some t.addr else None

-- the address or the place in a region from which its pages are counted
abbrev pub begins_at : Transfer → ℕ
begins_at t = unwrap_or (addr_of t) t.offset

abbrev pub is_named : Option RegionId → ℕ → Bool
is_named region k = is_just (option_map (λ (r : RegionId). r.0) region) k

-- it names region or orphan k, and its bytes move as they are at that moment
abbrev pub names_weakly : ℕ → Transfer → Bool
names_weakly k t = not (is_strong_call t) && is_named t.region k

abbrev pub is_weak_input_into : ℕ → Transfer → Bool
is_weak_input_into k t = is_inward t.dir && names_weakly k t

-- an output of this device that isn't wholly sent
abbrev pub waits_for : ℕ → Transfer → Bool
waits_for d t = is_queued t.phase && (t.dev == d)

-- the first one of them
abbrev pub first_waiting : List Transfer → ℕ → Option Transfer
first_waiting transfers d = find (waits_for d) transfers

-- it is the first output that waits for its device; first says which one waits for each
abbrev pub is_first : (ℕ → Option Transfer) → Transfer → Bool
is_first first t = is_queued t.phase && is_just (option_map number_of (first t.dev)) t.id.0

-- the input into which a device moves a datagram
abbrev pub receives_from : ℕ → Transfer → Bool
receives_from d t = is_moving t.phase && (t.dev == d)

abbrev pub receiver : List Transfer → ℕ → Option Transfer
receiver transfers d = find (receives_from d) transfers

-- an output that is wholly sent
abbrev pub is_sent : Transfer → Bool
is_sent t = not (is_inward t.dir) && is_ready t.phase

-- an input whose datagram has ended
abbrev pub has_arrived : ℕ → Transfer → Bool
has_arrived d t = is_inward t.dir && is_ready t.phase && (t.dev == d)

-- the region is moved out or moved into, or a weak input may still store in it
abbrev pub must_stay : List Transfer → Option Region → Bool
must_stay transfers None = false
must_stay transfers (Some r) = not (is_live r.state) || list_any (is_weak_input_into r.id.0) transfers
