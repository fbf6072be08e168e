-- A receive step of a device that gathers datagrams in buffers of its own.
use Rattle.std.specs.Prelude.{◌≡◌, ℕ, ◌+◌, true, false, List, Option, None, Some, slice_set}
use Rattle.genie_base.specs.Headers.{is_whole_header}
use Rattle.genie_base.specs.declared.reply.Reply.{Reply}
use Rattle.genie_host.specs.Host.{HostView}
use Rattle.genie_device.specs.Device.{DeviceView, IsReading, ReceivesHeader, is_full}
use Rattle.genie_device.specs.declared.steps.HeaderEnd.{HeaderEnd}
use Rattle.genie_model.specs.Tables.{entry}
use Rattle.genie_wire.specs.declared.header.Header.{Header}
use Rattle.genie_kernel.specs.declared.kernel.Kernel.{Kernel}
use Rattle.genie_gathering.specs.declared.payload.Course.{Course}
use Rattle.genie_gathering.specs.declared.payload.Course.TheVariants.{GoesOn, Ends, IsTruncated}
use Rattle.genie_gathering.specs.declared.payload.Moved.{Moved}
use Rattle.genie_gathering.specs.Delivering.{Delivers}
use Rattle.genie_gathering.specs.Payload.{MovesAt, reply_to}

-- a device between records, or inside a header, that may take more of it
pub record IsBetween (v : DeviceView) : Type 0 where
  pub absent : v.present ≡ None
  pub good : v.is_bad ≡ false
  pub free : is_full v ≡ false

-- so it is of one that is there, and its input is open
abbrev pub MayGather : Option DeviceView → HostView → Type 0
MayGather None host = ⊥
MayGather (Some v) host = IsBetween v × IsReading v.config.input host

-- header bytes are taken from the input of device d
pub record GathersHeader (d n : ℕ) (old new : HostView) (devices devices_now : List (Option DeviceView)) (moved : ℕ) (end : HeaderEnd) : Type 0 where
  pub before : DeviceView
  pub after : DeviceView
  pub there : entry devices d ≡ Some before
  pub receives : ReceivesHeader n old new before after moved end
  pub short : is_whole_header before.gathered ≡ false
  pub only : devices_now ≡ slice_set devices d (Some after)

-- how a step ends that has moved these payload bytes
abbrev pub EndsStep : Course → ℕ → Header → ℕ → Moved → Kernel → Kernel → Reply → Type 0
EndsStep GoesOn d h taken moved before after r = (after ≡ before) × (r ≡ reply_to moved taken)
EndsStep Ends d h taken moved before after r = Delivers d h moved.so_far false (taken + moved.bytes) before after r
EndsStep IsTruncated d h taken moved before after r = Delivers d h moved.so_far true 0 before after r

-- payload bytes of the datagram with this header are gathered, behind so many bytes of the header in the same step
pub record GathersPayload (d : ℕ) (h : Header) (taken n : ℕ) (old new : HostView) (before after : Kernel) (r : Reply) : Type 0 where
  pub moved : Moved
  pub devices : List (Option DeviceView)
  pub moves : MovesAt d taken n old new before.devices devices moved
  pub ends : EndsStep moved.course d h taken moved (record before { devices = devices }) after r
