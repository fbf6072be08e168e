-- Inputs whose datagrams wait in a buffer of a pool, and whose bytes are copied at their end.
use Rattle.std.specs.Prelude.{◌≡◌, ℕ, ◌+◌, ◌*◌, ◌/◌, ◌^◌, ◌<◌, ◌≤◌, true, List, [], length, find, Option, None, Some, IfSome, IsSome}
use Rattle.genie_base.specs.Counts.{span}
use Rattle.genie_base.specs.Transfers.{class_of}
use Rattle.genie_base.specs.declared.config.DeviceConfig.{DeviceConfig}
use Rattle.genie_base.specs.declared.semantics.Class.{Class}
use Rattle.genie_base.specs.declared.semantics.Direction.TheVariants as direction
use Rattle.genie_device.specs.Device.{DeviceView}
use Rattle.genie_finish.specs.Copies.{AreOfSystem, AreOwn, CopiesRange}
use Rattle.genie_input.specs.Pools.{PoolState}
use Rattle.genie_object.specs.declared.memory.Memory.{Memory}
use Rattle.genie_object.specs.declared.objects.Range.{Range}
use Rattle.genie_object.specs.Objects.{object_at}
use Rattle.genie_object.specs.Sound.{IsSound}
use Rattle.genie_model.specs.Tables.{entry}
use Rattle.genie_kernel.specs.declared.kernel.Kernel.{Kernel}
use Rattle.genie_kernel.specs.declared.transfer.Transfer.{Transfer}
use Rattle.genie_kernel.specs.Calls.{has_number}
use Rattle.genie_kernel.specs.Sizes.{is_pooled}
use Rattle.genie_kernel.specs.Transfers.{pool_frames}
use Rattle.genie_arrivals.specs.declared.owned.OwnedRegion.{OwnedRegion}
use Rattle.genie_arrivals.specs.Owners.{IsNamed}

abbrev pub is_pooled_device : Option DeviceView → Type 0
is_pooled_device None = ⊥
is_pooled_device (Some v) = is_pooled v.config.kind ≡ true

-- an input of this class on a pooled device
pub record IsPooledOf (class : Class) (devices : List (Option DeviceView)) (t : Transfer) : Type 0 where
  pub inward : t.dir ≡ direction.Inward
  pub class_is : class_of t.sem ≡ class
  pub pooled : is_pooled_device (entry devices t.dev)

-- the pending transfer of this number is one
abbrev pub IsPooledInput : Class → Kernel → ℕ → Type 0
IsPooledInput class k n = IfSome (find (has_number n) k.transfers) (IsPooledOf class k.devices)

-- the place in the first page of a buffer at which a device's datagrams begin
abbrev pub offset_of : Option DeviceConfig → ℕ
offset_of None = 0
offset_of (Some d) = d.offset

-- the frames of a buffer of a pool
abbrev pub frames_in : Option PoolState → Option ℕ → List ℕ
frames_in None b = []
frames_in (Some p) None = []
frames_in (Some p) (Some b) = pool_frames p b

-- the pool has this buffer
abbrev pub IsBufferIn : Option PoolState → Option ℕ → Type 0
IsBufferIn None b = ⊥
IsBufferIn (Some p) None = ⊥
IsBufferIn (Some p) (Some b) = b < length p.buffers

-- bytes of these frames, from place first of the first one on, may be copied to the range
pub record CanCopyTo (m : Memory) (range : Range) (first : ℕ) (frames : List ℕ) : Type 0 where
  pub sound : IsSound m
  pub fits : range.off + range.len < 2 ^ 32
  pub source : first + range.len < 2 ^ 32
  pub inside : first + range.len ≤ m.frames.page * 17
  pub within : range.off / m.frames.page + span m.frames.page range.off range.len ≤ length (object_at m.objects range.object.0)
  pub own : AreOwn m range.object.0 range.off range.len
  pub of_system : AreOfSystem m.frames frames
  pub meter : m.frames.meters.copied + range.len < 2 ^ 64

-- what waits of input n may be copied to the range
pub record CanCopyPending (n : ℕ) (range : Range) (k : Kernel) : Type 0 where
  pub transfer : Transfer
  pub found : find (has_number n) k.transfers ≡ Some transfer
  pub number : transfer.dev < 8
  pub buffer : IsBufferIn (entry k.pools transfer.dev) transfer.buffer
  pub can : CanCopyTo k.memory range (offset_of (entry k.config.devices transfer.dev)) (frames_in (entry k.pools transfer.dev) transfer.buffer)

-- it is copied there, and nothing else of the kernel has changed
pub record CopiesPending (n : ℕ) (range : Range) (old new : Kernel) : Type 0 where
  pub transfer : Transfer
  pub found : find (has_number n) old.transfers ≡ Some transfer
  pub copies : CopiesRange old.memory new.memory range.object.0 range.off range.len (offset_of (entry old.config.devices transfer.dev)) (frames_in (entry old.pools transfer.dev) transfer.buffer)
  pub only : new ≡ record old { memory = new.memory }

-- the bytes of a weak input go to this range of the region that it names, which a process has
pub record GoesToRegion (k : Kernel) (t : Transfer) (range : Range) : Type 0 where
  pub owned : OwnedRegion
  pub named : IsNamed k.spaces t owned
  pub object_is : range.object ≡ owned.region.object
  pub place : range.off ≡ t.offset
  pub size : range.len ≡ t.stored

-- the same of the transfer of this number
abbrev pub GoesTo : Kernel → ℕ → Range → Type 0
GoesTo k n range = IfSome (find (has_number n) k.transfers) (λ t. GoesToRegion k t range)

-- a process made the call of the pending transfer of this number, and is there
abbrev pub IsOwned : Kernel → ℕ → Type 0
IsOwned k n = IfSome (find (has_number n) k.transfers) (λ (t : Transfer). IsSome t.owner)
