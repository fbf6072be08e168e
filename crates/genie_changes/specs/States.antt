-- Laws of the state that a kernel stands for: a transfer less, a transfer more, a region less.
use Rattle.std.specs.Prelude.{◌≡◌, ◌≢◌, ℕ, ◌+◌, ◌<◌, ◌≤◌, true, false, List, [], ◌∷◌, ◌++◌, map, find, All, Option, None, Some, if◌then◌else◌}
use Rattle.genie_base.specs.Transfers.{class_of}
use Rattle.genie_base.specs.declared.semantics.Direction.{Direction}
use Rattle.genie_base.specs.declared.semantics.Direction.TheVariants.{Outward, Inward}
use Rattle.genie_demux.specs.declared.input.Input.{Input}
use Rattle.genie_device.specs.Device.{DeviceView}
use Rattle.genie_input.specs.Pools.{PoolState}
use Rattle.genie_object.specs.declared.memory.Memory.{Memory}
use Rattle.genie_region.specs.declared.region.Region.{Region}
use Rattle.genie_space.specs.Spaces.{AddressSpaces}
use Rattle.genie_model.specs.declared.phase.Phase.{Phase}
use Rattle.genie_model.specs.declared.phase.Phase.TheVariants.{Queued, Posted}
use Rattle.genie_model.specs.Ending.{without_transfer}
use Rattle.genie_model.specs.Pending.{is_queued, is_moving, add_transfer}
use Rattle.genie_model.specs.Regions.{change_process}
use Rattle.genie_model.specs.Space.{remove, tidy, without_region}
use Rattle.genie_model.specs.State as flat
use Rattle.genie_model.specs.Tables.{without, entry}
use Rattle.genie_kernel.specs.declared.kernel.Kernel.{Kernel}
use Rattle.genie_kernel.specs.declared.transfer.Transfer.{Transfer}
use Rattle.genie_kernel.specs.Calls.{has_number, number_of, region_number, addr_of, first_waiting, is_strong_call, names_weakly}
use Rattle.genie_kernel.specs.Held.{PageOf}
use Rattle.genie_kernel.specs.Orphans.{is_owned, lent_bytes}
use Rattle.genie_kernel.specs.Regions.{owned_regions, region_view, processes_view}
use Rattle.genie_kernel.specs.Same.{SameNeeded}
use Rattle.genie_kernel.specs.Transfers.{transfers_view, staged_by, sent_by}
use Rattle.genie_kernel.specs.View.{Bytes, state_of}
use Rattle.genie_changes.specs.Orphans.{OrphansLie, LeavesPages, IsWithout}

-- the processes are those without region n
abbrev pub ProcessesLose : ℕ → Kernel → Bytes → AddressSpaces → List (List ℕ) → Bytes → Type 0
ProcessesLose n k old spaces queues new = processes_view new.seen.entry_bytes spaces.processes queues ≡ map (change_process (without_region n)) (processes_view old.seen.entry_bytes k.spaces.processes k.queues)

-- the state once a region is removed, under whatever weak transfers are pending
abbrev pub RemovedState : Type 0
RemovedState = (k : Kernel) (m : Memory) (spaces : AddressSpaces) (queues : List (List ℕ)) (old new : Bytes) (frame_of : PageOf → ℕ) (r : Region) → 0 < k.config.page → r.pages ≤ 64 → r.id.0 < 577 → new.rests ≡ old.rests → new.sents ≡ old.sents
    → IsWithout r (owned_regions k.spaces.processes) (owned_regions spaces.processes)
    → ProcessesLose r.id.0 k old spaces queues new
    → SameNeeded (owned_regions k.spaces.processes) k.transfers k.pools old.seen.kept_bytes new.seen.kept_bytes
    → LeavesPages k.config.page old.seen.entry_bytes new.seen.kept_bytes frame_of r k.transfers
    → state_of (record k { memory = m; spaces = spaces; queues = queues }) new ≡ tidy (remove (state_of k old) (region_view old.seen.entry_bytes r))

-- the state once a transfer that no device works on is pending no more, be it weak or strong
abbrev pub LeftState : Type 0
LeftState = (k : Kernel) (m : Memory) (n : ℕ) (t : Transfer) (posted : List Input) (old new : Bytes) (frame_of : PageOf → ℕ) → 0 < k.config.page → find (has_number n) k.transfers ≡ Some t → is_queued t.phase ≡ false → is_moving t.phase ≡ false
    → new.seen.entry_bytes ≡ old.seen.entry_bytes → new.rests ≡ old.rests → new.sents ≡ old.sents
    → SameNeeded (owned_regions k.spaces.processes) (without (has_number n) k.transfers) k.pools old.seen.kept_bytes new.seen.kept_bytes
    → OrphansLie k.config.page old.seen.kept_bytes frame_of (owned_regions k.spaces.processes) k.transfers
    → OrphansLie k.config.page old.seen.kept_bytes frame_of (owned_regions k.spaces.processes) (without (has_number n) k.transfers)
    → state_of (record k { memory = m; transfers = without (has_number n) k.transfers; posted = posted }) new ≡ tidy (without_transfer (state_of k old) n)

-- an output waits at first, and an input is posted
abbrev pub first_phase : Direction → Phase
first_phase Outward = Queued
first_phase Inward = Posted

-- the transfer waits behind the others: nothing is stored of it, and its device has staged and sent nothing of it
pub record WaitsBehind (devices : List (Option DeviceView)) (t : Transfer) (earlier : List Transfer) : Type 0 where
  pub phase : t.phase ≡ first_phase t.dir
  pub unstored : t.stored ≡ 0
  pub later : All (λ (u : Transfer). u.id.0 ≢ t.id.0) earlier
  pub unstaged : t.dir ≡ Outward → first_waiting earlier t.dev ≡ None → staged_by (entry devices t.dev) ≡ []
  pub unsent : t.dir ≡ Outward → first_waiting earlier t.dev ≡ None → sent_by (entry devices t.dev) ≡ 0

-- a strong output's bytes come through its loans
abbrev pub first_payload : (ℕ → List ℕ) → Transfer → Direction → List ℕ
first_payload s t Outward = if is_strong_call t then lent_bytes s t else []
first_payload s t Inward = []

-- a transfer as it begins
abbrev pub begun : (ℕ → List ℕ) → Transfer → flat.Transfer
begun s t = record {
  number = number_of t;
  owner = t.owner;
  direction = t.dir;
  class = class_of t.sem;
  device = t.dev;
  port = t.port;
  flow = t.flow;
  addr = addr_of t;
  region = region_number t;
  offset = t.offset;
  len = t.len;
  phase = first_phase t.dir;
  payload = first_payload s t t.dir;
  staged = 0;
  moved = 0;
  stored = 0;
  note = t.note;
}

-- the transfers with one more, behind the others
abbrev pub TransfersMore : Type 0
TransfersMore = (s : ℕ → List ℕ) (devices : List (Option DeviceView)) (pools : List (Option PoolState)) (t : Transfer) (ts : List Transfer) → WaitsBehind devices t ts → transfers_view s devices pools (ts ++ t ∷ []) ≡ transfers_view s devices pools ts ++ begun s t ∷ []

-- the state with one transfer more, which names a region of a process or none
abbrev pub AddedState : Type 0
AddedState = (k : Kernel) (m : Memory) (t : Transfer) (posted : List Input) (old new : Bytes) → WaitsBehind k.devices t k.transfers → ((n : ℕ) → names_weakly n t ≡ true → is_owned (owned_regions k.spaces.processes) n ≡ true)
    → new.seen.entry_bytes ≡ old.seen.entry_bytes → new.rests ≡ old.rests → new.sents ≡ old.sents
    → SameNeeded (owned_regions k.spaces.processes) k.transfers k.pools old.seen.kept_bytes new.seen.kept_bytes
    → state_of (record k { memory = m; transfers = k.transfers ++ t ∷ []; posted = posted; next = k.next + 1 }) new ≡ add_transfer (state_of k old) (begun new.seen.kept_bytes t)
