-- Which events are refused: for each event the causes in order, of which the first one that holds is the answer.
use Rattle.std.specs.Prelude.{ℕ, ◌+◌, ◌-◌, Bool, true, false, not, ◌&&◌, ◌||◌, nat_lt, nat_le, List, [], ◌∷◌, ◌++◌, length, find, sum_by, Option, None, Some, if◌then◌else◌, is_some}
use Rattle.std.specs.List.{list_any}
use Rattle.std.specs.Option.{option_map}
use Rattle.genie_base.specs.Configs.{DeviceConfig, most, pool_of}
use Rattle.genie_base.specs.Counts.{span, cost}
use Rattle.genie_base.specs.Regions.{is_free, is_accessible}
use Rattle.genie_base.specs.Transfers.{class_of, is_strong, is_system}
use Rattle.genie_base.specs.declared.event.Event.{Event}
use Rattle.genie_base.specs.declared.event.Event.TheVariants.{Spawn, Fork, Exit, Map, Alloc, Unmap, Protect, Read, Write, Output, Input, Send, Recv, Finish, Cancel, Pageout}
use Rattle.genie_base.specs.declared.refusal.Refusal.{Refusal}
use Rattle.genie_base.specs.declared.refusal.Refusal.TheVariants as cause
use Rattle.genie_base.specs.declared.region.Area.{Area}
use Rattle.genie_base.specs.declared.region.Area.TheVariants.{App, Sys}
use Rattle.genie_base.specs.declared.region.RegionState.{RegionState}
use Rattle.genie_base.specs.declared.region.RegionState.TheVariants.{Live, Out, In, Held}
use Rattle.genie_base.specs.declared.semantics.Class.{Class}
use Rattle.genie_base.specs.declared.semantics.Class.TheVariants.{Copy, Share, Move, WeakMove}
use Rattle.genie_base.specs.declared.semantics.Direction.TheVariants.{Outward, Inward}
use Rattle.genie_model.specs.State.{State, Region, Transfer}
use Rattle.genie_model.specs.Tables.{entry}
use Rattle.genie_model.specs.Regions.{extent_of, regions_at, is_alive, reach_of, write_reach_of, place_of, committed}
use Rattle.genie_model.specs.Pending.{wired, is_ready, is_posted, is_inward, names_weakly, pending}
use Rattle.genie_model.specs.Space.{region_from}
use Rattle.genie_model.specs.Inputs.{pages_for, reusable, address_or_zero}

abbrev pub is_within : ℕ → ℕ → ℕ → Bool
is_within low high n = nat_le low n && nat_le n high

abbrev pub has_output : Option DeviceConfig → Bool
has_output None = false
has_output (Some d) = d.has_output

abbrev pub has_input : Option DeviceConfig → Bool
has_input None = false
has_input (Some d) = d.has_input

-- the longest datagram of a device
abbrev pub most_of : ℕ → Option DeviceConfig → ℕ
most_of page None = 0
most_of page (Some d) = most d.kind page

abbrev pub is_live : RegionState → Bool
is_live Live = true
is_live Out = false
is_live In = false
is_live Held = false

abbrev pub is_sys : Area → Bool
is_sys App = false
is_sys Sys = true

-- a region of the system's that is neither moved out, nor moved into, nor held
abbrev pub may_move : Option Region → Bool
may_move None = false
may_move (Some r) = is_sys r.area && is_live r.state

abbrev pub is_weak_input_into : ℕ → Transfer → Bool
is_weak_input_into k t = is_inward t.direction && names_weakly k t

-- the region is moved out or moved into, or a weak input may still store in it
abbrev pub must_stay_writable : State → Option Region → Bool
must_stay_writable s None = false
must_stay_writable s (Some r) = not (is_live r.state) || list_any (is_weak_input_into r.number) s.transfers

-- the pages of a region that a child gets a copy of
abbrev pub accessible_pages : Region → ℕ
accessible_pages r = if is_accessible r.state then r.pages else 0

abbrev pub is_finished : Option Transfer → Bool
is_finished None = false
is_finished (Some t) = is_ready t.phase

-- a posted input that is unmatched
abbrev pub may_cancel : Option Transfer → Bool
may_cancel None = false
may_cancel (Some t) = is_posted t.phase

-- a move input makes its region, and a weak move input where none can be used again
abbrev pub must_make : State → ℕ → Class → ℕ → Bool
must_make s p Copy n = false
must_make s p Share n = false
must_make s p Move n = true
must_make s p WeakMove n = not (is_some (reusable s p (pages_for s n)))

-- how many frames the pending transfers may need at most
abbrev pub frames_to_wire : State → ℕ
frames_to_wire s = s.config.frames - pool_of s.config.devices - 4

-- so many pages more would not fit the store
abbrev pub over_backing : State → ℕ → Bool
over_backing s pages = nat_lt s.config.slots (committed s + pages)

-- one more transfer of this cost
abbrev pub call_causes : State → ℕ → List (Bool × Refusal)
call_causes s frames = (nat_le 64 (length s.transfers), cause.Transfers) ∷ (nat_lt (frames_to_wire s) (wired s + frames), cause.Frames) ∷ []

abbrev pub new_region_causes : State → ℕ → ℕ → List (Bool × Refusal)
new_region_causes s p pages = (nat_le 32 (length (regions_at s p)), cause.Regions)
    ∷ (not (is_some (place_of s p pages)), cause.Space)
    ∷ (over_backing s pages, cause.Backing)
    ∷ []

-- a buffer of the application's
abbrev pub app_causes : State → ℕ → ℕ → ℕ → ℕ → List (Bool × Refusal)
app_causes s p most a n = (not (nat_le n most && is_some (reach_of s p a n)), cause.Range) ∷ (not (is_some (write_reach_of s p a n)), cause.Denied) ∷ []

-- a buffer of the system's
abbrev pub sys_causes : State → ℕ → Class → ℕ → ℕ → List (Bool × Refusal)
sys_causes s p class most n = (not (is_within 1 most n), cause.Range) ∷ (if must_make s p class n then new_region_causes s p (pages_for s n) else [])

abbrev pub buffer_causes : State → ℕ → Class → ℕ → ℕ → ℕ → List (Bool × Refusal)
buffer_causes s p class most a n = if is_system class then sys_causes s p class most n else app_causes s p most a n

-- all causes of an input but the limits on pending transfers
abbrev pub target_causes : State → ℕ → Class → ℕ → ℕ → ℕ → List (Bool × Refusal)
target_causes s p class d a n = (not (is_alive s p), cause.Proc)
    ∷ (not (has_input (entry s.config.devices d)), cause.Dev)
    ∷ buffer_causes s p class (most_of s.config.page (entry s.config.devices d)) a n

-- the causes of an event, each with whether it holds
abbrev pub causes : State → Event → List (Bool × Refusal)
causes s (Spawn p) = (nat_lt 15 p, cause.Proc) ∷ (is_alive s p, cause.Exists) ∷ []
causes s (Fork p q) = (not (is_alive s p) || nat_lt 15 q, cause.Proc)
    ∷ (is_alive s q, cause.Exists)
    ∷ (over_backing s (sum_by accessible_pages (regions_at s p)), cause.Backing)
    ∷ []
causes s (Exit p) = (not (is_alive s p), cause.Proc) ∷ []
causes s (Map p g n) = (not (is_alive s p), cause.Proc)
    ∷ (not (is_within 1 64 n), cause.Range)
    ∷ (nat_lt 512 (g + n) || not (is_free extent_of g n (regions_at s p)), cause.Region)
    ∷ (nat_le 32 (length (regions_at s p)), cause.Regions)
    ∷ (over_backing s n, cause.Backing)
    ∷ []
causes s (Alloc p n) = (not (is_alive s p), cause.Proc) ∷ (not (is_within 1 64 n), cause.Range) ∷ new_region_causes s p n
causes s (Unmap p g) = (not (is_alive s p), cause.Proc) ∷ (not (is_some (region_from s p g)), cause.Region) ∷ []
causes s (Protect p g writable) = (not (is_alive s p), cause.Proc)
    ∷ (not (is_some (region_from s p g)), cause.Region)
    ∷ (not writable && must_stay_writable s (region_from s p g), cause.State)
    ∷ []
causes s (Read p a n) = (not (is_alive s p), cause.Proc)
    ∷ (not (is_within 1 s.config.page n && is_some (reach_of s p a n)), cause.Range)
    ∷ []
causes s (Write p a bytes) = (not (is_alive s p), cause.Proc)
    ∷ (not (is_within 1 s.config.page (length bytes) && is_some (reach_of s p a (length bytes))), cause.Range)
    ∷ (not (is_some (write_reach_of s p a (length bytes))), cause.Denied)
    ∷ []
causes s (Output p sem d port flow a n) = (not (is_alive s p), cause.Proc)
    ∷ (not (has_output (entry s.config.devices d)), cause.Dev)
    ∷ (not (nat_le n (most_of s.config.page (entry s.config.devices d)) && is_some (reach_of s p a n)), cause.Range)
    ∷ (is_system (class_of sem) && not (is_strong (class_of sem)) && not (is_some (write_reach_of s p a n)), cause.Denied)
    ∷ (is_system (class_of sem) && not (may_move (reach_of s p a n)), cause.State)
    ∷ call_causes s (cost (class_of sem) Outward (span s.config.page a n))
causes s (Input p sem d port flow addr n) = target_causes s p (class_of sem) d (address_or_zero addr) n
    ++ call_causes s (cost (class_of sem) Inward (span s.config.page (address_or_zero addr) n))
causes s (Send d n) = (not (has_output (entry s.config.devices d)), cause.Dev) ∷ (not (is_within 1 65536 n), cause.Range) ∷ []
causes s (Recv d n) = (not (has_input (entry s.config.devices d)), cause.Dev) ∷ (not (is_within 1 65536 n), cause.Range) ∷ []
causes s (Finish k) = (not (is_finished (pending s k)), cause.State) ∷ []
causes s (Cancel k) = (not (may_cancel (pending s k)), cause.State) ∷ []
causes s (Pageout n) = []

-- the first cause that holds, or none
abbrev pub first_cause : List (Bool × Refusal) → Option Refusal
first_cause rows = option_map (λ (row : Bool × Refusal). row.1) (find (λ (row : Bool × Refusal). row.0) rows)

abbrev pub refuse : State → Event → Option Refusal
refuse s e = first_cause (causes s e)
