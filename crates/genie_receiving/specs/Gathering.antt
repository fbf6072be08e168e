-- The header part of a receive step, on one of the devices.
use Rattle.std.specs.Prelude.{◌≡◌, ℕ, ◌==◌, false, List, [], Option, None, Some, slice_set, IsSome, if◌then◌else◌}
use Rattle.genie_base.specs.Headers.{is_whole_header}
use Rattle.genie_base.specs.declared.reply.Reply.{Reply}
use Rattle.genie_base.specs.declared.reply.Reply.TheVariants as reply
use Rattle.genie_host.specs.Host.{HostView}
use Rattle.genie_device.specs.Device.{DeviceView, IsReading, ReceivesHeader, finished, is_full, is_outboard}
use Rattle.genie_device.specs.declared.steps.HeaderEnd.{HeaderEnd}
use Rattle.genie_model.specs.Tables.{entry}
use Rattle.genie_wire.specs.declared.header.Header.{Header}

-- a device between records, or inside a header, that may take more of it
pub record IsBetween (v : DeviceView) : Type 0 where
  pub absent : v.present ≡ None
  pub good : v.is_bad ≡ false
  pub free : is_full v ≡ false

-- so it is of one that is there, and its input is open
abbrev pub MayGather : Option DeviceView → HostView → Type 0
MayGather None host = ⊥
MayGather (Some v) host = IsBetween v × IsReading v.config.input host

-- header bytes are taken from the input of device d
pub record GathersHeader (d n : ℕ) (old new : HostView) (devices devices_now : List (Option DeviceView)) (moved : ℕ) (end : HeaderEnd) : Type 0 where
  pub before : DeviceView
  pub after : DeviceView
  pub there : entry devices d ≡ Some before
  pub receives : ReceivesHeader n old new before after moved end
  pub short : is_whole_header before.gathered ≡ false
  pub buffers : is_outboard before.config.kind ≡ false → before.buffers ≡ []
  pub only : devices_now ≡ slice_set devices d (Some after)

-- a datagram is present
abbrev pub HasDatagram : Option DeviceView → Type 0
HasDatagram None = ⊥
HasDatagram (Some v) = IsSome v.present

-- the device once a record with this header has met no input: one without a payload is over
abbrev pub dropped : Header → DeviceView → DeviceView
dropped h v = if h.len == 0 then finished v else v

pub record DropsRecord (d : ℕ) (h : Header) (devices devices_now : List (Option DeviceView)) (r : Reply) : Type 0 where
  pub before : DeviceView
  pub there : entry devices d ≡ Some before
  pub only : devices_now ≡ slice_set devices d (Some (dropped h before))
  pub reply_is : r ≡ reply.Dropped h.port h.flow h.len
