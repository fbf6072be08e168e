-- The end of a gathered datagram.
use Rattle.std.specs.Prelude.{◌≡◌, ℕ, min, Bool, true, List, Option, None, Some, find, IsSome, IfSome, slice_set}
use Rattle.genie_base.specs.Posted.{first}
use Rattle.genie_base.specs.declared.reply.Reply.{Reply}
use Rattle.genie_base.specs.declared.reply.Reply.TheVariants as reply
use Rattle.genie_demux.specs.Posted.{address, without, number_of as posted_number}
use Rattle.genie_device.specs.Buffers.{Free, is_arrived, state_at, with_state}
use Rattle.genie_device.specs.Device.{DeviceView, buffer_of, finished, is_outboard}
use Rattle.genie_wire.specs.declared.header.Header.{Header}
use Rattle.genie_model.specs.Receiving.{note_of}
use Rattle.genie_model.specs.Tables.{entry}
use Rattle.genie_model.specs.declared.phase.Phase.TheVariants.{Ready}
use Rattle.genie_kernel.specs.declared.kernel.Kernel.{Kernel}
use Rattle.genie_kernel.specs.declared.transfer.Transfer.{Transfer}
use Rattle.genie_kernel.specs.Calls.{has_number}
use Rattle.genie_changes.specs.Working.{Work, worked}

-- a datagram fills a buffer of the device
pub record IsFillingOne (v : DeviceView) : Type 0 where
  pub present : IsSome v.present
  pub outboard : is_outboard v.config.kind ≡ true

abbrev pub HasFilling : Option DeviceView → Type 0
HasFilling None = ⊥
HasFilling (Some v) = IsFillingOne v

-- its datagram ends, in this buffer
pub record EndsRecord (d : ℕ) (devices devices_now : List (Option DeviceView)) (buffer : ℕ) : Type 0 where
  pub before : DeviceView
  pub there : entry devices d ≡ Some before
  pub place : buffer_of before.present ≡ Some buffer
  pub arrived : is_arrived (state_at (finished before).buffers buffer) ≡ true
  pub only : devices_now ≡ slice_set devices d (Some (finished before))

-- a datagram waits in this buffer
abbrev pub HasArrivedIn : ℕ → Option DeviceView → Type 0
HasArrivedIn buffer None = ⊥
HasArrivedIn buffer (Some v) = is_arrived (state_at v.buffers buffer) ≡ true

abbrev pub released : ℕ → DeviceView → DeviceView
released buffer v = record v { buffers = with_state Free buffer v.buffers }

-- the buffer is free again
pub record Releases (d buffer : ℕ) (devices devices_now : List (Option DeviceView)) : Type 0 where
  pub before : DeviceView
  pub there : entry devices d ≡ Some before
  pub only : devices_now ≡ slice_set devices d (Some (released buffer before))

-- an input with the bytes that fit it, of so many in a buffer
abbrev pub ready_with : ℕ → ℕ → Bool → ℕ → Transfer → Work
ready_with buffer so_far truncated len t = record { phase = Ready; buffer = Some buffer; stored = min so_far t.len; note = note_of truncated len t.len }

-- the input that a datagram meets is pending
abbrev pub IsPending : Option ℕ → List Transfer → Type 0
IsPending met transfers = IfSome met (λ (id : ℕ). IsSome (find (has_number id) transfers))

-- what becomes of the datagram of a device, which meets this input, or none
abbrev pub DeliversTo : Option ℕ → ℕ → Header → ℕ → Bool → ℕ → DeviceView → ℕ → Kernel → Kernel → Reply → Type 0
DeliversTo None d h so_far truncated n v buffer before after r = (after ≡ record before { devices = slice_set before.devices d (Some (released buffer (finished v))) }) × (r ≡ reply.Dropped h.port h.flow h.len)
DeliversTo (Some id) d h so_far truncated n v buffer before after r = ((t : Transfer) → find (has_number id) before.transfers ≡ Some t → after ≡ record before { devices = slice_set before.devices d (Some (finished v)); transfers = worked (has_number id) (ready_with buffer so_far truncated h.len t) before.transfers; posted = without id before.posted }) × (r ≡ reply.Got n)

-- the datagram of device d, of which so many bytes have come, ends in a step that moved n bytes
pub record Delivers (d : ℕ) (h : Header) (so_far : ℕ) (truncated : Bool) (n : ℕ) (before after : Kernel) (r : Reply) : Type 0 where
  pub device : DeviceView
  pub there : entry before.devices d ≡ Some device
  pub buffer : ℕ
  pub place : buffer_of device.present ≡ Some buffer
  pub delivers : DeliversTo (posted_number (first address d h.port h.flow before.posted)) d h so_far truncated n device buffer before after r
