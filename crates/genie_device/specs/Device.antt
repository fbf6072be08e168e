-- What a device is seen as, and what its steps do to that.
use Rattle.std.specs.Prelude.{◌≡◌, ℕ, ◌+◌, ◌-◌, ◌==◌, ◌&&◌, nat_lt, nat_le, min, Bool, true, false, List, [], ◌++◌, length, replicate, Option, None, Some}
use Rattle.std.specs.Option.{option_map}
use Rattle.genie_base.specs.Bytes.{overlaid, part}
use Rattle.genie_base.specs.Configs.{most}
use Rattle.genie_base.specs.declared.config.DeviceConfig.{DeviceConfig}
use Rattle.genie_base.specs.declared.config.Kind.{Kind}
use Rattle.genie_base.specs.declared.config.Kind.TheVariants.{Early, Pooled, Outboard}
use Rattle.genie_base.specs.Records.{header_len, record_bytes, unsent_bytes}
use Rattle.genie_host.specs.Host.{HostView, Reading, Writing}
use Rattle.genie_wire.specs.declared.header.Header.{Header}
use Rattle.genie_device.specs.declared.present.Present.{Present}
use Rattle.genie_device.specs.declared.steps.HeaderEnd.{HeaderEnd}
use Rattle.genie_device.specs.declared.steps.HeaderEnd.TheVariants.{More, Whole, Bad, Faulted}
use Rattle.genie_device.specs.declared.steps.BodyEnd.{BodyEnd}
use Rattle.genie_device.specs.declared.steps.SendStep.{SendStep}
use Rattle.genie_device.specs.Buffers.{BufferView, free_buffer, first_free, begun, filled, arrived, arrived_count}
use Rattle.genie_device.specs.Gathering.{TakesHeader}
use Rattle.genie_device.specs.Receiving.{TakesPayload}
use Rattle.genie_device.specs.Sending.{AppendsPart, payload_of}

pub record DeviceView : Type 0 where
  -- its kind, its handles and the number of its outboard buffers
  pub config : DeviceConfig
  -- the longest datagram, in bytes
  pub limit : ℕ
  -- the bytes so far of a header
  pub gathered : List ℕ
  pub present : Option Present
  pub is_bad : Bool
  -- on an outboard device: its buffers
  pub buffers : List BufferView
  -- the payload bytes that are staged of the record to be sent
  pub staged : List ℕ
  -- how many bytes of that record are sent
  pub sent : ℕ

abbrev pub is_outboard : Kind → Bool
is_outboard Early = false
is_outboard Pooled = false
is_outboard Outboard = true

-- how many buffers it has
abbrev pub buffer_count : Kind → ℕ → ℕ
buffer_count Early depth = 0
buffer_count Pooled depth = 0
buffer_count Outboard depth = depth

-- a device before its first step
abbrev pub idle_device : DeviceConfig → (page : ℕ) → DeviceView
idle_device config page = record {
  config = config;
  limit = most config.kind page;
  gathered = [];
  present = None;
  is_bad = false;
  buffers = replicate (buffer_count config.kind config.depth) (free_buffer (most config.kind page));
  staged = [];
  sent = 0;
}

-- no datagram can come in: on an outboard device all buffers have arrived
abbrev pub is_full : DeviceView → Bool
is_full d = is_outboard d.config.kind && nat_le d.config.depth (arrived_count d.buffers)

-- there is a handle, and it is a reading one of the host
abbrev pub IsReading : Option ℕ → HostView → Type 0
IsReading None host = ⊥
IsReading (Some handle) host = (host.handle handle).mode ≡ Reading

abbrev pub IsWriting : Option ℕ → HostView → Type 0
IsWriting None host = ⊥
IsWriting (Some handle) host = (host.handle handle).mode ≡ Writing

abbrev pub handle_of : Option ℕ → ℕ
handle_of None = 0
handle_of (Some handle) = handle

-- the header of the present datagram, how many bytes of its payload are moved and left, and the buffer that it fills
abbrev pub header_of : Option Present → Option Header
header_of present = option_map (λ (p : Present). p.header) present

abbrev pub moved_of : Option Present → ℕ
moved_of None = 0
moved_of (Some p) = p.moved

abbrev pub left_of : Option Present → ℕ
left_of None = 0
left_of (Some p) = p.header.len - p.moved

abbrev pub buffer_of : Option Present → Option ℕ
buffer_of None = None
buffer_of (Some p) = p.buffer

abbrev pub more_moved : ℕ → Option Present → Option Present
more_moved n None = None
more_moved n (Some p) = Some (record p { moved = p.moved + n })

-- the device with these bytes gathered, after a step that ended so
abbrev pub after_header : HeaderEnd → List ℕ → DeviceView → DeviceView
after_header More bytes d = record d { gathered = bytes }
after_header Faulted bytes d = record d { gathered = bytes }
after_header (Whole header) bytes d = record d {
  gathered = [];
  present = Some (record { header = header; moved = 0; buffer = first_free d.buffers });
  buffers = begun (first_free d.buffers) d.buffers;
}
after_header Bad bytes d = record d { gathered = []; is_bad = true }

-- the device with these payload bytes moved
abbrev pub after_body : List ℕ → DeviceView → DeviceView
after_body taken d = record d { present = more_moved (length taken) d.present; buffers = filled (buffer_of d.present) taken d.buffers }

-- the landing with them: those that go to a buffer of the device don't land
abbrev pub landing_after : Option ℕ → (at : ℕ) → (taken : List ℕ) → List ℕ → List ℕ
landing_after None at taken content = overlaid at taken content
landing_after (Some buffer) at taken content = content

-- the device without the present datagram
abbrev pub finished : DeviceView → DeviceView
finished d = record d { present = None; buffers = arrived (buffer_of d.present) d.buffers }

-- no step changes what a device is
pub record KeepsConfig (before after : DeviceView) : Type 0 where
  pub config : after.config ≡ before.config
  pub limit : after.limit ≡ before.limit

-- A step of a header.
pub record ReceivesHeader (n : ℕ) (old new : HostView) (before after : DeviceView) (moved : ℕ) (end : HeaderEnd) : Type 0 where
  pub taken : List ℕ
  pub takes : TakesHeader (handle_of before.config.input) before.limit n old new before.gathered taken moved end
  pub device : after ≡ after_header end (before.gathered ++ taken) before

-- A step of a payload.
pub record ReceivesBody (n : ℕ) (old new : HostView) (before after : DeviceView) (content content_now : List ℕ) (moved : ℕ) (end : BodyEnd) : Type 0 where
  pub taken : List ℕ
  pub takes : TakesPayload (handle_of before.config.input) (left_of before.present) n old new taken moved end
  pub landed : content_now ≡ landing_after (buffer_of before.present) (moved_of before.present) taken content
  pub device : after ≡ after_body taken before

-- whether a step stages: on an outboard device, as long as some of the payload isn't staged
abbrev pub stages : Kind → (staged : List ℕ) → (len : ℕ) → Bool
stages kind staged len = is_outboard kind && nat_lt (length staged) len

-- the device with more bytes of a record sent: after the last one nothing is staged or sent
abbrev pub after_send : ℕ → (whole : Bool) → DeviceView → DeviceView
after_send moved true d = record d { staged = []; sent = 0 }
after_send moved false d = record d { sent = d.sent + moved }

-- A step that stages the next bytes of a payload, and doesn't touch the host.
pub record StagesPayload (n : ℕ) (old new : HostView) (before after : DeviceView) (payload : List ℕ) (step : SendStep) : Type 0 where
  pub host : new ≡ old
  pub moved : step.moved ≡ min n (length payload - length before.staged)
  pub whole : step.whole ≡ false
  pub faulted : step.faulted ≡ false
  pub device : after ≡ record before { staged = before.staged ++ part (length before.staged) step.moved payload }

-- A step that sends the next bytes of a record.
pub record SendsRecord (n : ℕ) (old new : HostView) (before after : DeviceView) (header : Header) (payload : List ℕ) (step : SendStep) : Type 0 where
  pub sends : AppendsPart (handle_of before.config.output) before.sent (min n (unsent_bytes header.flow header.len before.sent)) old new
      (record_bytes header.port header.flow (payload_of (is_outboard before.config.kind) before.staged payload)) step.moved step.faulted
  pub whole : step.whole ≡ (before.sent + step.moved == header_len header.flow + header.len)
  pub device : after ≡ after_send step.moved step.whole before
