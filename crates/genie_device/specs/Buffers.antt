-- The buffers of outboard memory.
use Rattle.std.specs.Prelude.{◌≡◌, ℕ, Bool, true, false, List, [], ◌++◌, Option, None, Some, slice_index_or, slice_set, position, count_by}
use Rattle.genie_host.specs.Host.{HostView}
use Rattle.genie_device.specs.declared.buffer.Usage.{Usage}
use Rattle.genie_device.specs.declared.buffer.Usage.TheVariants as usage
use Rattle.genie_device.specs.declared.steps.BodyEnd.{BodyEnd}
use Rattle.genie_device.specs.Receiving.{TakesPayload}

-- what a buffer holds: nothing, the bytes so far of a datagram that is coming in, or all those of one that has arrived
pub data BufferState : Type 0 where
  Free : BufferState
  Filling : (bytes : List ℕ) → BufferState
  Arrived : (bytes : List ℕ) → BufferState

-- a buffer with room for so many bytes
pub record BufferView : Type 0 where
  pub room : ℕ
  pub state : BufferState

abbrev pub state_of : Usage → List ℕ → BufferState
state_of usage.Free bytes = Free
state_of usage.Filling bytes = Filling bytes
state_of usage.Arrived bytes = Arrived bytes

abbrev pub is_free : BufferState → Bool
is_free Free = true
is_free (Filling bytes) = false
is_free (Arrived bytes) = false

abbrev pub is_filling : BufferState → Bool
is_filling Free = false
is_filling (Filling bytes) = true
is_filling (Arrived bytes) = false

abbrev pub is_arrived : BufferState → Bool
is_arrived Free = false
is_arrived (Filling bytes) = false
is_arrived (Arrived bytes) = true

abbrev pub bytes_in : BufferState → List ℕ
bytes_in Free = []
bytes_in (Filling bytes) = bytes
bytes_in (Arrived bytes) = bytes

-- payload bytes are taken from a handle and stand in the buffer behind those before
pub record Fills (handle left n : ℕ) (old new : HostView) (before after : BufferView) (moved : ℕ) (end : BodyEnd) : Type 0 where
  pub taken : List ℕ
  pub takes : TakesPayload handle left n old new taken moved end
  pub filled : after ≡ record before { state = Filling (bytes_in before.state ++ taken) }

abbrev pub free_buffer : ℕ → BufferView
free_buffer room = record { room = room; state = Free }

-- the buffer with this number
abbrev pub no_buffer : BufferView
no_buffer = free_buffer 0

abbrev pub state_at : List BufferView → ℕ → BufferState
state_at buffers i = (slice_index_or buffers i no_buffer).state

-- how many have arrived
abbrev pub arrived_count : List BufferView → ℕ
arrived_count buffers = count_by (λ b. is_arrived b.state) buffers

-- the number of the first free buffer
abbrev pub first_free : List BufferView → Option ℕ
first_free buffers = position (λ b. is_free b.state) buffers

-- the buffers with another state of one of them
abbrev pub with_state : BufferState → ℕ → List BufferView → List BufferView
with_state state i buffers = slice_set buffers i (record (slice_index_or buffers i no_buffer) { state = state })

-- the buffers with the first free one filling
abbrev pub begun : Option ℕ → List BufferView → List BufferView
begun None buffers = buffers
begun (Some i) buffers = with_state (Filling []) i buffers

-- the buffers with more bytes in the one that a datagram fills
abbrev pub filled : Option ℕ → List ℕ → List BufferView → List BufferView
filled None bytes buffers = buffers
filled (Some i) bytes buffers = with_state (Filling (bytes_in (state_at buffers i) ++ bytes)) i buffers

-- the buffers with that one arrived
abbrev pub arrived : Option ℕ → List BufferView → List BufferView
arrived None buffers = buffers
arrived (Some i) buffers = with_state (Arrived (bytes_in (state_at buffers i))) i buffers
