-- Inputs whose datagrams wait in outboard memory, and whose bytes land at their end.
use Rattle.std.specs.Prelude.{◌≡◌, ℕ, ◌+◌, ◌≤◌, true, false, List, [], length, take, find, Option, None, Some, IfSome, is_some}
use Rattle.genie_base.specs.Bytes.{overlaid}
use Rattle.genie_base.specs.Transfers.{class_of}
use Rattle.genie_base.specs.declared.reply.Reply.{Reply}
use Rattle.genie_base.specs.declared.semantics.Class.{Class}
use Rattle.genie_base.specs.declared.semantics.Direction.TheVariants as direction
use Rattle.genie_device.specs.Buffers.{bytes_in, is_arrived, state_at}
use Rattle.genie_device.specs.Device.{DeviceView}
use Rattle.genie_frame.specs.FrameTable.{FrameTable}
use Rattle.genie_plan.specs.declared.plan.InPlan.{InPlan}
use Rattle.genie_plan.specs.Plans.{CanLand, OnlyRange, input_frames, range_bytes}
use Rattle.genie_region.specs.declared.region.Region.{Region}
use Rattle.genie_model.specs.Tables.{entry}
use Rattle.genie_kernel.specs.declared.kernel.Kernel.{Kernel}
use Rattle.genie_kernel.specs.declared.transfer.Loans.{Loans}
use Rattle.genie_kernel.specs.declared.transfer.Loans.TheVariants.{Nothing, Outward, Inward}
use Rattle.genie_kernel.specs.declared.transfer.Transfer.{Transfer}
use Rattle.genie_kernel.specs.Calls.{has_number, is_strong_call}
use Rattle.genie_kernel.specs.Regions.{owned_regions}
use Rattle.genie_kernel.specs.Transfers.{is_outboard_device}
use Rattle.genie_arrivals.specs.declared.outboard.Destination.{Destination}
use Rattle.genie_arrivals.specs.declared.outboard.Destination.TheVariants.{Gone, Lost, There}
use Rattle.genie_arrivals.specs.Paging.{EndsPaged}
use Rattle.genie_arrivals.specs.Replies.{is_there}

-- an input of this class on an outboard device
pub record IsOutboardInput (class : Class) (devices : List (Option DeviceView)) (t : Transfer) : Type 0 where
  pub inward : t.dir ≡ direction.Inward
  pub class_is : class_of t.sem ≡ class
  pub outboard : is_outboard_device (entry devices t.dev) ≡ true

-- one of weak semantics
pub record IsWeakOutboard (devices : List (Option DeviceView)) (t : Transfer) : Type 0 where
  pub inward : t.dir ≡ direction.Inward
  pub weak : is_strong_call t ≡ false
  pub outboard : is_outboard_device (entry devices t.dev) ≡ true

-- the pending transfer of this number is such an input of this class
abbrev pub IsLateOutboard : Class → Kernel → ℕ → Type 0
IsLateOutboard class k n = IfSome (find (has_number n) k.transfers) (IsOutboardInput class k.devices)

-- an input whose process is there, and the region that it names
pub record LandsThere (class : Class) (k : Kernel) (t : Transfer) : Type 0 where
  pub input : IsOutboardInput class k.devices t
  pub pid : ℕ
  pub owner : t.owner ≡ Some pid
  pub there : is_there (owned_regions k.spaces.processes) t ≡ true

-- the pending transfer of this number is one
abbrev pub IsLandedAtEnd : Class → Kernel → ℕ → Type 0
IsLandedAtEnd class k n = IfSome (find (has_number n) k.transfers) (LandsThere class k)

-- the bytes in a buffer of a device
abbrev pub fetched : Option DeviceView → Option ℕ → List ℕ
fetched None b = []
fetched (Some v) None = []
fetched (Some v) (Some b) = bytes_in (state_at v.buffers b)

-- a datagram of at least n bytes waits there
abbrev pub CanFetch : ℕ → Option DeviceView → Option ℕ → Type 0
CanFetch n None b = ⊥
CanFetch n (Some v) None = ⊥
CanFetch n (Some v) (Some b) = (is_arrived (state_at v.buffers b) ≡ true) × (n ≤ length (bytes_in (state_at v.buffers b)))

-- the bytes that are stored of an input, as they lie in its device's memory
abbrev pub waiting_bytes : List (Option DeviceView) → Transfer → List ℕ
waiting_bytes devices t = take t.stored (fetched (entry devices t.dev) t.buffer)

-- bytes may land in what is lent for an input
abbrev pub MayLandIn : FrameTable → Loans → Type 0
MayLandIn f Nothing = ⊥
MayLandIn f (Outward p) = ⊥
MayLandIn f (Inward p) = CanLand f (input_frames p.loans.items) p.first p.len

-- these bytes have landed from the plan's first place on, and nothing else of the frames has changed
pub record LandsBytes (p : InPlan) (bytes : List ℕ) (old new : FrameTable) : Type 0 where
  pub only : OnlyRange (input_frames p.loans.items) p.first p.len old new
  pub content : range_bytes new (input_frames p.loans.items) p.first p.len ≡ overlaid 0 bytes (range_bytes old (input_frames p.loans.items) p.first p.len)
  pub most : new.landed ≤ old.landed + length bytes

abbrev pub LandsIn : Loans → List ℕ → FrameTable → FrameTable → Type 0
LandsIn Nothing bytes old new = ⊥
LandsIn (Outward p) bytes old new = ⊥
LandsIn (Inward p) bytes old new = LandsBytes p bytes old new

-- the bytes of input n have landed, and nothing else of the kernel has changed
pub record LandsPending (n : ℕ) (old new : Kernel) : Type 0 where
  pub transfer : Transfer
  pub found : find (has_number n) old.transfers ≡ Some transfer
  pub lands : LandsIn transfer.loans (waiting_bytes old.devices transfer) old.memory.frames new.memory.frames
  pub only : new ≡ record old { memory = record (old.memory) { frames = new.memory.frames } }

-- the input ends so, while the processor moves no byte and takes no page and no frame, and at most its own bytes land
pub record EndsLanded (old : Kernel) (n : ℕ) (new : Kernel) (reply : Reply) : Type 0 where
  pub ends : EndsPaged old n new reply
  pub meters : new.memory.frames.meters ≡ old.memory.frames.meters
  pub landed : IfSome (find (has_number n) old.transfers) (λ (t : Transfer). new.memory.frames.landed ≤ old.memory.frames.landed + t.stored)

-- whether its process is gone, or the region that it names is, or its bytes land there
abbrev pub GoesTo : Destination → List Region → Transfer → Type 0
GoesTo Gone regions t = t.owner ≡ None
GoesTo Lost regions t = (is_some t.owner ≡ true) × (is_there regions t ≡ false)
GoesTo There regions t = (is_some t.owner ≡ true) × (is_there regions t ≡ true)
