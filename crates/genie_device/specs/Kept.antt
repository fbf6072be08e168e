-- What is true of every device.
use Rattle.std.specs.Prelude.{◌≡◌, ℕ, ◌^◌, ◌<◌, ◌≤◌, true, false, List, length, Option, Some, IfSome, is_some, slice_index_or}
use Rattle.genie_base.specs.declared.config.Kind.{Kind}
use Rattle.genie_base.specs.Headers.{is_whole_header}
use Rattle.genie_device.specs.declared.present.Present.{Present}
use Rattle.genie_device.specs.Buffers.{BufferView, BufferState, no_buffer, state_at, is_filling, bytes_in}
use Rattle.genie_device.specs.Device.{is_outboard, buffer_count, buffer_of, moved_of}

-- a present datagram has a length that the device allows, and fills a buffer exactly on an outboard device
pub record IsAllowed (kind : Kind) (limit : ℕ) (p : Present) : Type 0 where
  pub moved : p.moved ≤ p.header.len
  pub len : p.header.len ≤ limit
  pub buffer : is_some p.buffer ≡ is_outboard kind

-- the buffer with this number has so many bytes of a datagram that is coming in
pub record IsFilledTo (n : ℕ) (state : BufferState) : Type 0 where
  pub filling : is_filling state ≡ true
  pub bytes : length (bytes_in state) ≡ n

-- the buffers of a device: exactly the present datagram's is filling
pub record AreBuffers (limit : ℕ) (present : Option Present) (buffers : List BufferView) : Type 0 where
  pub rooms : (k : ℕ) → k < length buffers → (slice_index_or buffers k no_buffer).room ≡ limit
  pub filled : (k : ℕ) → buffer_of present ≡ Some k → IsFilledTo (moved_of present) (state_at buffers k)
  pub others : (k : ℕ) → is_filling (state_at buffers k) ≡ true → buffer_of present ≡ Some k

pub record IsDevice (kind : Kind) (depth limit : ℕ) (gathered : List ℕ) (present : Option Present) (buffers : List BufferView) (staged : List ℕ) (room read_room : ℕ) : Type 0 where
  pub short : is_whole_header gathered ≡ false
  pub allowed : IfSome present (IsAllowed kind limit)
  pub count : length buffers ≡ buffer_count kind depth
  pub filling : AreBuffers limit present buffers
  pub fits : length staged < 2 ^ 32
  pub staging : is_outboard kind ≡ true → limit ≤ room
  pub reading : 0 < read_room
