-- Where the payload of the present datagram goes.
use Rattle.std.specs.Prelude.{◌≡◌, ℕ, ◌+◌, ◌-◌, ◌≤◌, true, List, length, IfSome, slice_index_or}
use Rattle.genie_host.specs.Host.{HostView}
use Rattle.genie_device.specs.declared.present.Present.{Present}
use Rattle.genie_device.specs.declared.steps.BodyEnd.{BodyEnd}
use Rattle.genie_device.specs.Buffers.{BufferView, no_buffer, is_filling, bytes_in, filled}
use Rattle.genie_device.specs.Device.{landing_after}
use Rattle.genie_device.specs.Receiving.{TakesPayload}

-- a buffer with bytes of a datagram has room for so many more
pub record HasRoom (left : ℕ) (b : BufferView) : Type 0 where
  pub filling : is_filling b.state ≡ true
  pub room : length (bytes_in b.state) + left ≤ b.room

-- the buffer that the datagram fills, if it fills one, has room for all that is left of it
abbrev pub HasPlace : Present → List BufferView → Type 0
HasPlace p buffers = IfSome p.buffer (λ k. HasRoom (p.header.len - p.moved) (slice_index_or buffers k no_buffer))

-- payload bytes are taken from a handle, and stand in the landing or in the buffer
pub record Moves (handle n : ℕ) (old new : HostView) (p : Present) (before after : List BufferView) (content content_now : List ℕ) (moved : ℕ) (end : BodyEnd) : Type 0 where
  pub taken : List ℕ
  pub takes : TakesPayload handle (p.header.len - p.moved) n old new taken moved end
  pub landed : content_now ≡ landing_after p.buffer p.moved taken content
  pub buffers : after ≡ filled p.buffer taken before
