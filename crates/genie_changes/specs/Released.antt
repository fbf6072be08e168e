-- Laws of the buffers in which datagrams wait, as they are released at the end of a transfer.
use Rattle.std.specs.Prelude.{◌≡◌, ℕ, false, List, [], map, find, All, Option, None, Some, IfSome, slice_set}
use Rattle.std.specs.Option.{option_map}
use Rattle.genie_demux.specs.declared.input.Input.{Input}
use Rattle.genie_device.specs.Buffers.{with_state}
use Rattle.genie_device.specs.Buffers as buffer
use Rattle.genie_device.specs.Device.{DeviceView}
use Rattle.genie_device.specs.Kept.{AreBuffers}
use Rattle.genie_device.specs.declared.present.Present.{Present}
use Rattle.genie_hiding.specs.Hidden.{objects_of}
use Rattle.genie_input.specs.Pools.{PoolState, set_buffer}
use Rattle.genie_input.specs.declared.pool.BufferState.TheVariants as pooled
use Rattle.genie_object.specs.declared.memory.Memory.{Memory}
use Rattle.genie_object.specs.Sound.{IsSound, FitsHidden}
use Rattle.genie_model.specs.Pending.{is_queued, is_moving}
use Rattle.genie_model.specs.Tables.{without, entry}
use Rattle.genie_kernel.specs.declared.kernel.Kernel.{Kernel}
use Rattle.genie_kernel.specs.declared.transfer.Transfer.{Transfer}
use Rattle.genie_kernel.specs.Backed.{AreBacked, AreGuarded, all_regions}
use Rattle.genie_kernel.specs.Calls.{has_number}
use Rattle.genie_kernel.specs.Counted.{AreCounted}
use Rattle.genie_kernel.specs.Devices.{filling, gathered_in}
use Rattle.genie_kernel.specs.Holding.{LoansEnd}
use Rattle.genie_kernel.specs.Matching.{ArePosted}
use Rattle.genie_kernel.specs.Owners.{AreOwned}
use Rattle.genie_kernel.specs.Regions.{owned_regions}
use Rattle.genie_kernel.specs.Sizes.{IsSizedMemory, AreSizedDevices}
use Rattle.genie_kernel.specs.Transfers.{buffer_bytes}
use Rattle.genie_kernel.specs.View.{Bytes, state_of}
use Rattle.genie_changes.specs.Ending.{EndsBuffer, bare_device}
use Rattle.genie_changes.specs.Pending.{OwnFramesStay, GivesUpBuffer}
use Rattle.genie_changes.specs.Settled.{IsSettled}

-- the memory and the buffers once a transfer has given up what it had, where frames of its pool may have been exchanged:
-- the loans of the other transfers and of the pools are out, and nothing else of the devices has changed
pub record EndsOver (k : Kernel) (n : ℕ) (t : Transfer) (m : Memory) (devices : List (Option DeviceView)) (pools : List (Option PoolState)) : Type 0 where
  pub sized : IsSizedMemory k.config m
  pub sound : IsSound m
  pub cached : FitsHidden m (objects_of k.hidden)
  pub backed : AreBacked m.objects (all_regions k.spaces.processes k.hidden)
  pub guarded : AreGuarded m.objects (owned_regions k.spaces.processes)
  pub counted : AreCounted m.frames.counts (without (has_number n) k.transfers) pools
  pub owners : AreOwned m.frames.owners (without (has_number n) k.transfers) pools
  pub own : OwnFramesStay k.memory.frames.owners m.frames.owners (without (has_number n) k.transfers)
  pub pages : LoansEnd k.memory m
  pub equipped : AreSizedDevices k.config devices pools
  pub same_devices : map bare_device devices ≡ map bare_device k.devices
  pub buffer : GivesUpBuffer t k.devices devices k.pools pools

-- the kernel is settled without that transfer
abbrev pub TransferEndsOver : Type 0
TransferEndsOver = (k : Kernel) (m : Memory) (n : ℕ) (t : Transfer) (posted : List Input) (devices : List (Option DeviceView)) (pools : List (Option PoolState)) → IsSettled k → find (has_number n) k.transfers ≡ Some t → is_queued t.phase ≡ false → is_moving t.phase ≡ false → EndsOver k n t m devices pools → ArePosted posted (without (has_number n) k.transfers)
    → IsSettled (record k { memory = m; transfers = without (has_number n) k.transfers; posted = posted; devices = devices; pools = pools })

-- the bytes so far of the datagram that a device gathers
abbrev pub gathered_of : (ℕ → List ℕ) → DeviceView → Option PoolState → Option Present → List ℕ
gathered_of s v pool None = []
gathered_of s v pool (Some g) = gathered_in s v pool g.moved (filling pool g)

abbrev pub gathered_by : (ℕ → List ℕ) → Option DeviceView → Option PoolState → List ℕ
gathered_by s None pool = []
gathered_by s (Some v) pool = gathered_of s v pool v.present

-- the buffers of these transfers, and those that devices fill, show the same; nothing of the devices but buffers has changed
pub record ShowsBuffers (s : ℕ → List ℕ) (transfers : List Transfer) (old new : List (Option DeviceView)) (old_pools new_pools : List (Option PoolState)) : Type 0 where
  pub same_devices : map bare_device new ≡ map bare_device old
  pub inputs : All (λ (u : Transfer). IfSome u.buffer (λ b. buffer_bytes s (entry new u.dev) (entry new_pools u.dev) b ≡ buffer_bytes s (entry old u.dev) (entry old_pools u.dev) b)) transfers
  pub gathered : (d : ℕ) → gathered_by s (entry new d) (entry new_pools d) ≡ gathered_by s (entry old d) (entry old_pools d)

-- then the kernel stands for the same state
abbrev pub BuffersShow : Type 0
BuffersShow = (k : Kernel) (devices : List (Option DeviceView)) (pools : List (Option PoolState)) (b : Bytes) → ShowsBuffers b.seen.kept_bytes k.transfers k.devices devices k.pools pools → state_of (record k { devices = devices; pools = pools }) b ≡ state_of k b

-- a buffer of a pool is free again, or one of the device's own memory where it has no pool
abbrev pub free_in : ℕ → Option PoolState → Option PoolState
free_in b pool = option_map (λ (p : PoolState). set_buffer p b pooled.Free) pool

abbrev pub free_at : Option PoolState → ℕ → Option DeviceView → Option DeviceView
free_at None b device = option_map (λ (v : DeviceView). record v { buffers = with_state buffer.Free b v.buffers }) device
free_at (Some p) b device = device

abbrev pub devices_freed : List (Option DeviceView) → List (Option PoolState) → ℕ → ℕ → List (Option DeviceView)
devices_freed devices pools d b = slice_set devices d (free_at (entry pools d) b (entry devices d))

abbrev pub pools_freed : List (Option PoolState) → ℕ → ℕ → List (Option PoolState)
pools_freed pools d b = slice_set pools d (free_in b (entry pools d))

-- so the buffer in which the datagram of a transfer waited is given up
abbrev pub ReleasedEnds : Type 0
ReleasedEnds = (k : Kernel) (n : ℕ) (t : Transfer) (b : ℕ) → IsSettled k → find (has_number n) k.transfers ≡ Some t → t.buffer ≡ Some b → EndsBuffer k t (devices_freed k.devices k.pools t.dev b) (pools_freed k.pools t.dev b)

-- the one that the device fills is filling, and no other one
abbrev pub FillsOne : Option DeviceView → Type 0
FillsOne device = IfSome device (λ (v : DeviceView). AreBuffers v.limit v.present v.buffers)

-- and the buffers of the other transfers, and those that devices fill, show the same
abbrev pub ReleasedShows : Type 0
ReleasedShows = (k : Kernel) (n : ℕ) (t : Transfer) (b : ℕ) (s : ℕ → List ℕ) → IsSettled k → find (has_number n) k.transfers ≡ Some t → t.buffer ≡ Some b → (entry k.pools t.dev ≡ None → FillsOne (entry k.devices t.dev))
    → ShowsBuffers s (without (has_number n) k.transfers) k.devices (devices_freed k.devices k.pools t.dev b) k.pools (pools_freed k.pools t.dev b)
