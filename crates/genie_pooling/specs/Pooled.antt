-- The receive step of a pooled device.
use Rattle.std.specs.Prelude.{◌≡◌, ℕ, ◌+◌, ◌*◌, ◌==◌, Bool, true, false, List, count_by, Option, None, Some}
use Rattle.genie_base.specs.declared.config.DeviceConfig.{DeviceConfig}
use Rattle.genie_base.specs.declared.config.Kind.{Kind}
use Rattle.genie_base.specs.declared.config.Kind.TheVariants.{Early, Pooled, Outboard}
use Rattle.genie_base.specs.declared.reply.Reply.{Reply}
use Rattle.genie_host.specs.Host.{HostView}
use Rattle.genie_device.specs.Device.{DeviceView, header_of}
use Rattle.genie_frame.specs.FrameTable.{FrameTable}
use Rattle.genie_wire.specs.declared.header.Header.{Header}
use Rattle.genie_model.specs.Tables.{entry}
use Rattle.genie_kernel.specs.declared.kernel.Kernel.{Kernel}
use Rattle.genie_kernel.specs.declared.transfer.Transfer.{Transfer}
use Rattle.genie_kernel.specs.Calls.{has_arrived}
use Rattle.genie_receiving.specs.declared.course.Course.{Course}
use Rattle.genie_receiving.specs.declared.course.Course.TheVariants.{GoesOn, Ends, IsTruncated}
use Rattle.genie_receiving.specs.declared.payload.Moved.{Moved}
use Rattle.genie_receiving.specs.Landing.{reply_to}
use Rattle.genie_pooling.specs.Delivering.{Delivers}
use Rattle.genie_pooling.specs.Filling.{FillsBuffer, offset_at}

abbrev pub is_pooled_kind : Kind → Bool
is_pooled_kind Early = false
is_pooled_kind Pooled = true
is_pooled_kind Outboard = false

abbrev pub is_pooled_device : Option DeviceView → Bool
is_pooled_device None = false
is_pooled_device (Some v) = is_pooled_kind v.config.kind

-- a datagram with this header is present
pub record IsWithin (h : Header) (v : DeviceView) : Type 0 where
  pub kind : v.config.kind ≡ Pooled
  pub fine : v.is_bad ≡ false
  pub present : header_of v.present ≡ Some h

abbrev pub IsWithinAt : Header → Option DeviceView → Type 0
IsWithinAt h None = ⊥
IsWithinAt h (Some v) = IsWithin h v

-- as many datagrams wait as the device has buffers
abbrev pub is_busy_now : ℕ → List Transfer → DeviceView → Bool
is_busy_now d transfers v = count_by (has_arrived d) transfers == v.config.depth

-- none is present, and one may come in
pub record IsOutside (d : ℕ) (transfers : List Transfer) (v : DeviceView) : Type 0 where
  pub kind : v.config.kind ≡ Pooled
  pub fine : v.is_bad ≡ false
  pub absent : v.present ≡ None
  pub free : is_busy_now d transfers v ≡ false

abbrev pub IsOutsideAt : ℕ → List Transfer → Option DeviceView → Type 0
IsOutsideAt d transfers None = ⊥
IsOutsideAt d transfers (Some v) = IsOutside d transfers v

-- the kernel with these devices and frames
abbrev pub with_frames : Kernel → List (Option DeviceView) → FrameTable → Kernel
with_frames k devices frames = record k { memory = record (k.memory) { frames = frames }; devices = devices }

-- how a step ends that has moved these payload bytes
abbrev pub EndsStep : Course → ℕ → Header → ℕ → Moved → Kernel → Kernel → Reply → Type 0
EndsStep GoesOn d h taken moved before after r = (after ≡ before) × (r ≡ reply_to moved taken)
EndsStep Ends d h taken moved before after r = Delivers d h moved.so_far false (taken + moved.bytes) before after r
EndsStep IsTruncated d h taken moved before after r = Delivers d h moved.so_far true 0 before after r

-- payload bytes of the datagram with this header are gathered, behind so many bytes of the header in the same step
pub record FillsPayload (d : ℕ) (h : Header) (taken n : ℕ) (old new : HostView) (before after : Kernel) (r : Reply) : Type 0 where
  pub moved : Moved
  pub devices : List (Option DeviceView)
  pub frames : FrameTable
  pub fills : FillsBuffer d (offset_at (entry before.config.devices d)) (16 * before.config.page) taken n old new before.devices devices before.memory.frames frames before.pools moved
  pub ends : EndsStep moved.course d h taken moved (with_frames before devices frames) after r

-- how many buffers a device has
abbrev pub depth_at : Option DeviceConfig → ℕ
depth_at None = 0
depth_at (Some c) = c.depth
