-- The end of a transfer that no device works on: what is true of the kernel without it.
use Rattle.std.specs.Prelude.{◌≡◌, ℕ, ◌<◌, true, false, List, [], map, find, All, AllPairs, Option, None, Some, if◌then◌else◌}
use Rattle.std.specs.Option.{option_map}
use Rattle.genie_demux.specs.declared.input.Input.{Input}
use Rattle.genie_device.specs.Device.{DeviceView}
use Rattle.genie_frame.specs.FrameTable.{FrameTable, IsShaped, AreLoansOwned, owner_at}
use Rattle.genie_hiding.specs.Hidden.{objects_of}
use Rattle.genie_input.specs.Pools.{PoolState}
use Rattle.genie_object.specs.declared.memory.Memory.{Memory}
use Rattle.genie_object.specs.Memory.{seen}
use Rattle.genie_object.specs.Sound.{IsSound, FitsHidden}
use Rattle.genie_plan.specs.Loans.{Ended}
use Rattle.genie_plan.specs.Wiring.{Unwired}
use Rattle.genie_model.specs.Ending.{without_transfer}
use Rattle.genie_model.specs.Pending.{is_queued, is_moving}
use Rattle.genie_model.specs.Space.{tidy}
use Rattle.genie_model.specs.Tables.{without, entry}
use Rattle.genie_kernel.specs.declared.kernel.Kernel.{Kernel}
use Rattle.genie_kernel.specs.declared.transfer.Transfer.{Transfer}
use Rattle.genie_kernel.specs.Backed.{AreBacked, AreGuarded, all_regions}
use Rattle.genie_kernel.specs.Calls.{has_number}
use Rattle.genie_kernel.specs.Counted.{AreCounted, is_wiring, pool_on}
use Rattle.genie_kernel.specs.Good.{IsGood}
use Rattle.genie_kernel.specs.Holding.{LoansEnd}
use Rattle.genie_kernel.specs.Kept.{Kept, KeepsOwner}
use Rattle.genie_kernel.specs.Lending.{GivesBack}
use Rattle.genie_kernel.specs.Loans.{frames_of, loans_of, has_frame}
use Rattle.genie_kernel.specs.Matching.{ArePosted}
use Rattle.genie_kernel.specs.Owners.{AreOwned}
use Rattle.genie_kernel.specs.Owning.{LetsGo}
use Rattle.genie_kernel.specs.Planned.{ArePlanned}
use Rattle.genie_kernel.specs.Regions.{owned_regions}
use Rattle.genie_kernel.specs.Same.{SameFrames, SameNeeded}
use Rattle.genie_kernel.specs.Sizes.{IsSizedMemory, AreSizedDevices}
use Rattle.genie_kernel.specs.Steps.{bytes_over}
use Rattle.genie_kernel.specs.View.{Bytes, state_of, no_bytes}
use Rattle.genie_changes.specs.Pending.{OwnFramesStay, GivesUpBuffer}
use Rattle.genie_changes.specs.Premises.{ShowsPages}
use Rattle.genie_changes.specs.Settled.{IsSettled}

-- the memory once the loans and wires of transfer t, number n, are given back: its own frames are let go, and every other
-- transfer's stay its own; no page leaves its frame, and what the regions have of the memory still fits
pub record EndsLoans (k : Kernel) (n : ℕ) (t : Transfer) (m : Memory) : Type 0 where
  pub sized : IsSizedMemory k.config m
  pub sound : IsSound m
  pub cached : FitsHidden m (objects_of k.hidden)
  pub backed : AreBacked m.objects (all_regions k.spaces.processes k.hidden)
  pub guarded : AreGuarded m.objects (owned_regions k.spaces.processes)
  pub counts : GivesBack t k.memory.frames.counts m.frames.counts
  pub owners : LetsGo n k.memory.frames.owners m.frames.owners
  pub own : OwnFramesStay k.memory.frames.owners m.frames.owners (without (has_number n) k.transfers)
  pub pages : LoansEnd k.memory m

-- a device, or a pool, but for the state of its buffers
abbrev pub bare_device : Option DeviceView → Option DeviceView
bare_device d = option_map (λ (v : DeviceView). record v { buffers = [] }) d

abbrev pub bare_pool : Option PoolState → Option PoolState
bare_pool p = option_map (λ (q : PoolState). record q { buffers = [] }) p

-- the buffer that the transfer had waits for nothing any more, and nothing else of devices and pools has changed
pub record EndsBuffer (k : Kernel) (t : Transfer) (devices : List (Option DeviceView)) (pools : List (Option PoolState)) : Type 0 where
  pub equipped : AreSizedDevices k.config devices pools
  pub same_devices : map bare_device devices ≡ map bare_device k.devices
  pub same_pools : map bare_pool pools ≡ map bare_pool k.pools
  pub buffer : GivesUpBuffer t k.devices devices k.pools pools

-- where it had none, the devices and the pools as they are
abbrev pub NoBufferEnds : Type 0
NoBufferEnds = (k : Kernel) (t : Transfer) → IsSettled k → t.buffer ≡ None → EndsBuffer k t k.devices k.pools

-- the kernel without a transfer that no device works on
abbrev pub TransferEnds : Type 0
TransferEnds = (k : Kernel) (m : Memory) (n : ℕ) (t : Transfer) (posted : List Input) (devices : List (Option DeviceView)) (pools : List (Option PoolState)) → IsSettled k → find (has_number n) k.transfers ≡ Some t → is_queued t.phase ≡ false → is_moving t.phase ≡ false
    → EndsLoans k n t m → EndsBuffer k t devices pools → ArePosted posted (without (has_number n) k.transfers)
    → IsSettled (record k { memory = m; transfers = without (has_number n) k.transfers; posted = posted; devices = devices; pools = pools })

-- the frames on which a transfer has wires, one for each loan
abbrev pub wired_frames : Transfer → List ℕ
wired_frames t = if is_wiring t then frames_of t.loans else []

-- the frames once the transfer's wires are off, and then its loans have ended, each once
pub record IsGivenBack (t : Transfer) (old new : FrameTable) : Type 0 where
  pub unwired : FrameTable
  pub wires : Unwired (wired_frames t) old unwired
  pub loans : Ended (loans_of t.loans) unwired new

-- the loans of these transfers, and those of pools, are out in a sound memory; all but transfer n lend what they have to
pub record LendsSoundly (page : ℕ) (m : Memory) (devices : List (Option DeviceView)) (n : ℕ) (transfers : List Transfer) (pools : List (Option PoolState)) : Type 0 where
  pub sound : IsSound m
  pub counted : AreCounted m.frames.counts transfers pools
  pub owners : AreOwned m.frames.owners transfers pools
  pub rise : AllPairs (λ (x y : Transfer). x.id.0 < y.id.0) transfers
  pub others : ArePlanned page m.frames.owners devices (without (has_number n) transfers)

-- what is left of the frames of other transfers and of pools once transfer n has given its loans back, and what is seen
pub record LeavesOthers (n : ℕ) (t : Transfer) (transfers : List Transfer) (pools : List (Option PoolState)) (old new : Memory) : Type 0 where
  pub sound : IsSound new
  pub counts : GivesBack t old.frames.counts new.frames.counts
  pub owners : LetsGo n old.frames.owners new.frames.owners
  pub own : OwnFramesStay old.frames.owners new.frames.owners (without (has_number n) transfers)
  pub pages : LoansEnd old new
  pub hidden : (objects : List ℕ) → FitsHidden old objects → FitsHidden new objects
  pub lent : All (λ (u : Transfer). (f : ℕ) → has_frame f u ≡ true → KeepsOwner (owner_at old.frames f) (owner_at new.frames f)) (without (has_number n) transfers)
  pub pooled : (d f : ℕ) → 0 < pool_on f (entry pools d) → KeepsOwner (owner_at old.frames f) (owner_at new.frames f)
  -- each entry shows what it showed, and so does each frame that is still lent
  pub entries : (slots : ℕ → List ℕ) → (seen new slots).entry_bytes ≡ (seen old slots).entry_bytes
  pub frames : (slots : ℕ → List ℕ) → SameFrames (without (has_number n) transfers) pools (seen old slots).kept_bytes (seen new slots).kept_bytes

abbrev pub GivenBackLeavesOthers : Type 0
GivenBackLeavesOthers = (page : ℕ) (m : Memory) (devices : List (Option DeviceView)) (n : ℕ) (t : Transfer) (transfers : List Transfer) (pools : List (Option PoolState)) (new : FrameTable) → LendsSoundly page m devices n transfers pools → find (has_number n) transfers ≡ Some t
    → IsShaped new.page new.owners new.counts new.bytes → AreLoansOwned new.owners new.counts → IsGivenBack t m.frames new → LeavesOthers n t transfers pools m (record m { frames = new })

-- so are the loans of a settled kernel
abbrev pub SettledLendsSoundly : Type 0
SettledLendsSoundly = (k : Kernel) (n : ℕ) → IsSettled k → LendsSoundly k.config.page k.memory k.devices n k.transfers k.pools

-- a transfer gives its loans back, while the memory stays otherwise as it is
abbrev pub GivenBackEndsLoans : Type 0
GivenBackEndsLoans = (k : Kernel) (n : ℕ) (t : Transfer) (new : FrameTable) → IsSettled k → IsGivenBack t k.memory.frames new → LeavesOthers n t k.transfers k.pools k.memory (record (k.memory) { frames = new }) → EndsLoans k n t (record (k.memory) { frames = new })

-- the kernel without transfer n
abbrev pub without_call : Kernel → Memory → ℕ → List Input → Kernel
without_call k m n posted = record k { memory = m; transfers = without (has_number n) k.transfers; posted = posted }

-- no frame is freed or gets another owner while a device holds it
abbrev pub GivenBackKeeps : Type 0
GivenBackKeeps = (k : Kernel) (m : Memory) (n : ℕ) (t : Transfer) (posted : List Input) → IsSettled k → find (has_number n) k.transfers ≡ Some t → LeavesOthers n t k.transfers k.pools k.memory m → Kept k (without_call k m n posted)

-- entries show the same, and so do the frames that other transfers and pools still need
pub record ShowsOthers (k : Kernel) (n : ℕ) (old new : Bytes) : Type 0 where
  pub rests : new.rests ≡ old.rests
  pub sents : new.sents ≡ old.sents
  pub entries : new.seen.entry_bytes ≡ old.seen.entry_bytes
  pub frames : SameNeeded (owned_regions k.spaces.processes) (without (has_number n) k.transfers) k.pools old.seen.kept_bytes new.seen.kept_bytes
  pub pages : ShowsPages k.config.page k.memory old.seen.kept_bytes

-- so it is whatever the store holds, and of the outlines
abbrev pub GivenBackShows : Type 0
GivenBackShows = (k : Kernel) (m : Memory) (n : ℕ) (t : Transfer) (slots rests sents : ℕ → List ℕ) → IsSettled k → LeavesOthers n t k.transfers k.pools k.memory m → ShowsOthers k n (bytes_over k.memory slots rests sents) (bytes_over m slots rests sents)

abbrev pub OutlinesShowOthers : Type 0
OutlinesShowOthers = (k : Kernel) (n : ℕ) → ShowsOthers k n (no_bytes k.config.page) (no_bytes k.config.page)

-- then the state is that without the transfer, on which no device works
abbrev pub TransferLeaves : Type 0
TransferLeaves = (k : Kernel) (m : Memory) (n : ℕ) (t : Transfer) (posted : List Input) (old new : Bytes) → IsGood k → find (has_number n) k.transfers ≡ Some t → is_queued t.phase ≡ false → is_moving t.phase ≡ false → ShowsOthers k n old new
    → state_of (without_call k m n posted) new ≡ tidy (without_transfer (state_of k old) n)
