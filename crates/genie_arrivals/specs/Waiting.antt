-- Inputs whose datagrams wait in buffers, of a pool or of outboard memory.
use Rattle.std.specs.Prelude.{◌≡◌, ℕ, false, List, find, Option, None, Some, IfSome}
use Rattle.genie_base.specs.Transfers.{class_of}
use Rattle.genie_base.specs.declared.semantics.Class.{Class}
use Rattle.genie_base.specs.declared.semantics.Class.TheVariants.{Copy, Share, Move, WeakMove}
use Rattle.genie_base.specs.declared.semantics.Direction.TheVariants.{Inward}
use Rattle.genie_device.specs.Device.{DeviceView}
use Rattle.genie_frame.specs.FrameTable.{AreLoansOwned, IsShaped}
use Rattle.genie_input.specs.Pools.{PoolState}
use Rattle.genie_model.specs.Tables.{entry, without}
use Rattle.genie_kernel.specs.declared.kernel.Kernel.{Kernel}
use Rattle.genie_kernel.specs.declared.transfer.Transfer.{Transfer}
use Rattle.genie_kernel.specs.Calls.{has_number}
use Rattle.genie_kernel.specs.Planned.{is_early_device}
use Rattle.genie_kernel.specs.Regions.{owned_regions}
use Rattle.genie_changes.specs.Ending.{IsGivenBack}
use Rattle.genie_changes.specs.Released.{FillsOne, devices_freed, pools_freed}
use Rattle.genie_arrivals.specs.Replies.{is_there}
use Rattle.genie_arrivals.specs.Targets.{HasNoTarget}

-- an input on a device that isn't early
pub record IsWaiting (devices : List (Option DeviceView)) (t : Transfer) : Type 0 where
  pub inward : t.dir ≡ Inward
  pub late : is_early_device (entry devices t.dev) ≡ false

-- whose process is gone
pub record IsGoneWaiting (devices : List (Option DeviceView)) (t : Transfer) : Type 0 where
  pub waiting : IsWaiting devices t
  pub gone : t.owner ≡ None

-- the pending transfer of this number is one
abbrev pub IsLateGone : Kernel → ℕ → Type 0
IsLateGone k n = IfSome (find (has_number n) k.transfers) (IsGoneWaiting k.devices)

-- there is nowhere for its bytes: its process may not write the range of a copy input, or has no region that it names
abbrev pub LosesBytes : Kernel → Transfer → Class → Type 0
LosesBytes k t Copy = HasNoTarget k t
LosesBytes k t Share = is_there (owned_regions k.spaces.processes) t ≡ false
LosesBytes k t Move = is_there (owned_regions k.spaces.processes) t ≡ false
LosesBytes k t WeakMove = is_there (owned_regions k.spaces.processes) t ≡ false

-- whose process is there, and which has nowhere to put its bytes
pub record IsLostWaiting (k : Kernel) (t : Transfer) : Type 0 where
  pub waiting : IsWaiting k.devices t
  pub pid : ℕ
  pub owner : t.owner ≡ Some pid
  pub loses : LosesBytes k t (class_of t.sem)

abbrev pub IsLateLost : Kernel → ℕ → Type 0
IsLateLost k n = IfSome (find (has_number n) k.transfers) (IsLostWaiting k)

-- the buffer is free, and nothing else has changed; of the device's own buffers just the one that it fills was filling
pub record Releases (dev buffer : ℕ) (old new : List (Option DeviceView)) (old_pools new_pools : List (Option PoolState)) : Type 0 where
  pub devices : new ≡ devices_freed old old_pools dev buffer
  pub pools : new_pools ≡ pools_freed old_pools dev buffer
  pub filling : entry old_pools dev ≡ None → FillsOne (entry old dev)

-- input n is taken out with its buffer b, what was lent for it is given back, and nothing else has changed
pub record EndsWaiting (n : ℕ) (old new : Kernel) (t : Transfer) : Type 0 where
  pub found : find (has_number n) old.transfers ≡ Some t
  pub buffer : ℕ
  pub mine : t.buffer ≡ Some buffer
  pub shaped : IsShaped new.memory.frames.page new.memory.frames.owners new.memory.frames.counts new.memory.frames.bytes
  pub lent : AreLoansOwned new.memory.frames.owners new.memory.frames.counts
  pub back : IsGivenBack t old.memory.frames new.memory.frames
  pub filling : entry old.pools t.dev ≡ None → FillsOne (entry old.devices t.dev)
  pub only : new ≡ record old {
    memory = record (old.memory) { frames = new.memory.frames };
    transfers = without (has_number n) old.transfers;
    devices = devices_freed old.devices old.pools t.dev buffer;
    pools = pools_freed old.pools t.dev buffer;
  }
