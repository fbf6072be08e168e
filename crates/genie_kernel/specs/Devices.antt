-- The devices, as the flat machine has them.
use Rattle.std.specs.Prelude.{ℕ, ◌+◌, List, [], ◌∷◌, position, take, Option, None, Some}
use Rattle.std.specs.Option.{option_map}
use Rattle.genie_base.specs.declared.config.Kind.{Kind}
use Rattle.genie_base.specs.declared.config.Kind.TheVariants.{Early, Pooled, Outboard}
use Rattle.genie_device.specs.Device.{DeviceView}
use Rattle.genie_device.specs.declared.present.Present.{Present}
use Rattle.genie_input.specs.Pools.{PoolState, is_filling}
use Rattle.genie_model.specs.State as flat
use Rattle.genie_model.specs.Tables.{entry}
use Rattle.genie_model.specs.declared.fate.Fate.{Fate}
use Rattle.genie_model.specs.declared.fate.Fate.TheVariants.{Matched, Skipped, Gathering}
use Rattle.genie_kernel.specs.declared.transfer.Transfer.{Transfer}
use Rattle.genie_kernel.specs.Calls.{number_of}
use Rattle.genie_kernel.specs.Transfers.{buffer_bytes}

-- the buffer that a datagram fills: a pool's, or the device's own
abbrev pub filling : Option PoolState → Present → Option ℕ
filling None g = g.buffer
filling (Some p) g = position is_filling p.buffers

abbrev pub matched_or_skipped : Option Transfer → Fate
matched_or_skipped None = Skipped
matched_or_skipped (Some t) = Matched (number_of t)

-- an early device has matched the datagram, or skips it
abbrev pub fate_of : Kind → Option Transfer → Fate
fate_of Early receiver = matched_or_skipped receiver
fate_of Pooled receiver = Gathering
fate_of Outboard receiver = Gathering

abbrev pub gathered_in : (ℕ → List ℕ) → DeviceView → Option PoolState → ℕ → Option ℕ → List ℕ
gathered_in s v pool moved None = []
gathered_in s v pool moved (Some b) = take moved (buffer_bytes s (Some v) pool b)

abbrev pub datagram_view : (ℕ → List ℕ) → DeviceView → Option PoolState → Option Transfer → Present → flat.Datagram
datagram_view s v pool receiver g = record {
  port = g.header.port;
  flow = g.header.flow;
  len = g.header.len;
  moved = g.moved;
  fate = fate_of v.config.kind receiver;
  bytes = gathered_in s v pool g.moved (filling pool g);
}

-- a device, with what is left of its input and what it has sent
abbrev pub device_view : (ℕ → List ℕ) → List ℕ → List ℕ → Option PoolState → Option Transfer → DeviceView → flat.Device
device_view s rest sent pool receiver v = record {
  kind = v.config.kind;
  depth = v.config.depth;
  rest = rest;
  header = v.gathered;
  present = option_map (datagram_view s v pool receiver) v.present;
  is_bad = v.is_bad;
  sent = sent;
}

-- the devices from number d on; receivers says into which input each moves a datagram
abbrev pub devices_view : (ℕ → List ℕ) → ℕ → (ℕ → List ℕ) → (ℕ → List ℕ) → List (Option PoolState) → (ℕ → Option Transfer) → List (Option DeviceView) → List (Option flat.Device)
devices_view s d rests sents pools receivers [] = []
devices_view s d rests sents pools receivers (v ∷ vs) = option_map (device_view s (rests d) (sents d) (entry pools d) (receivers d)) v ∷ devices_view s (d + 1) rests sents pools receivers vs
