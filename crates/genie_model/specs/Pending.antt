-- The pending transfers: those of the state, in the order of their numbers.
use Rattle.std.specs.Prelude.{ℕ, ◌+◌, Bool, true, false, not, ◌&&◌, ◌==◌, nat_le, nat_lt, [], ◌∷◌, ◌++◌, find, sum_by, count_by, Option, None, Some, unwrap_or}
use Rattle.std.specs.Option.{option_map}
use Rattle.genie_base.specs.Counts.{span, cost}
use Rattle.genie_base.specs.Posted.{Address, meets}
use Rattle.genie_base.specs.Transfers.{is_strong}
use Rattle.genie_base.specs.declared.config.Kind.{Kind}
use Rattle.genie_base.specs.declared.config.Kind.TheVariants as kind
use Rattle.genie_base.specs.declared.semantics.Direction.{Direction}
use Rattle.genie_base.specs.declared.semantics.Direction.TheVariants.{Outward, Inward}
use Rattle.genie_model.specs.declared.phase.Phase.TheVariants.{Queued, Posted, Moving, Ready}
use Rattle.genie_model.specs.declared.phase.Phase.{Phase}
use Rattle.genie_model.specs.State.{State, Transfer, Device}
use Rattle.genie_model.specs.Tables.{entry}

abbrev pub is_queued : Phase → Bool
is_queued Queued = true
is_queued Posted = false
is_queued Moving = false
is_queued Ready = false

abbrev pub is_posted : Phase → Bool
is_posted Queued = false
is_posted Posted = true
is_posted Moving = false
is_posted Ready = false

abbrev pub is_ready : Phase → Bool
is_ready Queued = false
is_ready Posted = false
is_ready Moving = false
is_ready Ready = true

abbrev pub is_moving : Phase → Bool
is_moving Queued = false
is_moving Posted = false
is_moving Moving = true
is_moving Ready = false

abbrev pub is_inward : Direction → Bool
is_inward Outward = false
is_inward Inward = true

abbrev pub is_early : Kind → Bool
is_early kind.Early = true
is_early kind.Pooled = false
is_early kind.Outboard = false

abbrev pub is_outboard : Kind → Bool
is_outboard kind.Early = false
is_outboard kind.Pooled = false
is_outboard kind.Outboard = true

abbrev pub early_device : Option Device → Bool
early_device None = false
early_device (Some d) = is_early d.kind

abbrev pub outboard_device : Option Device → Bool
outboard_device None = false
outboard_device (Some d) = is_outboard d.kind

abbrev pub is_early_at : State → ℕ → Bool
is_early_at s d = early_device (entry s.devices d)

abbrev pub is_outboard_at : State → ℕ → Bool
is_outboard_at s d = outboard_device (entry s.devices d)

-- the pages that a transfer's range touches: a copy input keeps its address, a system input begins a page, and every
-- other one has a place in its region
abbrev pub touched : ℕ → Transfer → ℕ
touched page t = span page (unwrap_or t.addr t.offset) t.len

abbrev pub cost_of : ℕ → Transfer → ℕ
cost_of page t = cost t.class t.direction (touched page t)

-- the costs of all pending transfers
abbrev pub wired : State → ℕ
wired s = sum_by (cost_of s.config.page) s.transfers

abbrev pub is_numbered : ℕ → Transfer → Bool
is_numbered k t = t.number == k

-- the pending transfer of this number, or none
abbrev pub pending : State → ℕ → Option Transfer
pending s k = find (is_numbered k) s.transfers

-- an output of this device that isn't wholly sent
abbrev pub waits_for : ℕ → Transfer → Bool
waits_for d t = is_queued t.phase && (t.device == d)

-- the first one of them: the transfers are in the order of their numbers
abbrev pub first_queued : State → ℕ → Option Transfer
first_queued s d = find (waits_for d) s.transfers

-- what an input was posted for
abbrev pub posted_for : Transfer → Address
posted_for t = record { device = t.device; port = t.port; flow = t.flow }

-- a posted input that a record of this device and port, with this flow or without one, meets
abbrev pub awaits : ℕ → ℕ → Option ℕ → Transfer → Bool
awaits d port flow t = is_posted t.phase && meets d port flow (posted_for t)

-- the number of the first one of them
abbrev pub first_posted : State → ℕ → ℕ → Option ℕ → Option ℕ
first_posted s d port flow = option_map (λ (t : Transfer). t.number) (find (awaits d port flow) s.transfers)

abbrev pub has_arrived : ℕ → Transfer → Bool
has_arrived d t = is_inward t.direction && is_ready t.phase && (t.device == d)

-- how many datagrams of a device wait for their `done`
abbrev pub arrived : State → ℕ → ℕ
arrived s d = count_by (has_arrived d) s.transfers

abbrev pub is_just : Option ℕ → ℕ → Bool
is_just None k = false
is_just (Some n) k = n == k

-- it names region or orphan k
abbrev pub names : ℕ → Transfer → Bool
names k t = is_just t.region k

abbrev pub names_weakly : ℕ → Transfer → Bool
names_weakly k t = not (is_strong t.class) && names k t

-- a weak transfer covers the places of its range in the region that it names
abbrev pub covers : ℕ → ℕ → Transfer → Bool
covers k x t = names_weakly k t && nat_le t.offset x && nat_lt x (t.offset + t.len)

-- a call is pending from now on, and has the next number
abbrev pub add_transfer : State → Transfer → State
add_transfer s t = record s { transfers = s.transfers ++ t ∷ []; next = s.next + 1 }
