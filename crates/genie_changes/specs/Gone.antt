-- A process that goes, and transfers that end, between two changes of one event.
use Rattle.std.specs.Prelude.{◌≡◌, ℕ, false, List, [], map, find, Option, None, Some, slice_set, if◌then◌else◌}
use Rattle.genie_base.specs.Transfers.{class_of}
use Rattle.genie_base.specs.declared.numbers.RegionId.{RegionId}
use Rattle.genie_demux.specs.declared.input.Input.{Input}
use Rattle.genie_object.specs.declared.memory.Memory.{Memory}
use Rattle.genie_space.specs.Spaces.{set_process}
use Rattle.genie_model.specs.Ending.{without_transfer}
use Rattle.genie_model.specs.Pending.{is_just, is_queued, is_moving}
use Rattle.genie_model.specs.Space.{disowned as flat_disowned, is_move, tidy}
use Rattle.genie_model.specs.Tables.{entry}
use Rattle.genie_kernel.specs.declared.kernel.Kernel.{Kernel}
use Rattle.genie_kernel.specs.declared.transfer.Change.TheVariants.{Ownerless}
use Rattle.genie_kernel.specs.declared.transfer.Transfer.{Transfer}
use Rattle.genie_kernel.specs.Calls.{has_number}
use Rattle.genie_kernel.specs.Changes.{changed_by}
use Rattle.genie_kernel.specs.View.{Bytes, state_of}
use Rattle.genie_changes.specs.Ending.{ShowsOthers, without_call}
use Rattle.genie_changes.specs.Regions.{KeepsBytes}
use Rattle.genie_changes.specs.Settled.{IsSettled}

-- the region that a transfer names still once its process is gone: a weak one its own, or what is left of it
abbrev pub left_named : Transfer → Option RegionId
left_named t = if is_move (class_of t.sem) then None else t.region

-- a transfer of process p without its owner
abbrev pub disowned : ℕ → Transfer → Transfer
disowned p t = if is_just t.owner p then changed_by (Ownerless (left_named t)) t else t

-- the kernel without process p, which no transfer has as its owner any more
abbrev pub without_process : Kernel → ℕ → Kernel
without_process k p = record k { spaces = set_process k.spaces p None; queues = slice_set k.queues p []; transfers = map (disowned p) k.transfers }

-- what is true between two changes stays so where the process had no region any more
abbrev pub ProcessGoes : Type 0
ProcessGoes = (k : Kernel) (p : ℕ) → entry k.spaces.processes p ≡ Some [] → IsSettled k → IsSettled (without_process k p)

-- and the state is that without it
abbrev pub GoneState : Type 0
GoneState = (k : Kernel) (p : ℕ) (b : Bytes) → entry k.spaces.processes p ≡ Some [] → IsSettled k → state_of (without_process k p) b ≡ record (state_of k b) { processes = slice_set (state_of k b).processes p None; transfers = map (flat_disowned p) (state_of k b).transfers }

-- the state once a transfer on which no device works is pending no more, of a settled kernel
abbrev pub SettledTransferLeaves : Type 0
SettledTransferLeaves = (k : Kernel) (m : Memory) (n : ℕ) (t : Transfer) (posted : List Input) (old new : Bytes) → IsSettled k → find (has_number n) k.transfers ≡ Some t → is_queued t.phase ≡ false → is_moving t.phase ≡ false → ShowsOthers k n old new
    → state_of (without_call k m n posted) new ≡ tidy (without_transfer (state_of k old) n)

-- the state is the same where regions, the frames that devices need and orphans show the same
abbrev pub KeptBytesAreAlike : Type 0
KeptBytesAreAlike = (k : Kernel) (old new : Bytes) → KeepsBytes k old new → state_of k new ≡ state_of k old
