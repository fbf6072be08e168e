-- The posted inputs, and what devices send and receive for which transfer.
use Rattle.std.specs.Prelude.{◌≡◌, ℕ, ◌+◌, ◌<◌, ◌≤◌, ◌==◌, ◌&&◌, min, Bool, true, false, List, [], length, map, filter, count_by, All, Option, None, Some, IfSome, is_some, if◌then◌else◌, slice_index_or, not}
use Rattle.std.specs.List.{list_any}
use Rattle.genie_base.specs.Records.{header_len}
use Rattle.genie_demux.specs.declared.input.Input.{Input}
use Rattle.genie_device.specs.Device.{DeviceView}
use Rattle.genie_device.specs.Buffers.{state_at, is_arrived, bytes_in}
use Rattle.genie_device.specs.declared.present.Present.{Present}
use Rattle.genie_input.specs.Pools.{PoolState, is_filling, is_held}
use Rattle.genie_input.specs.declared.pool.BufferState.TheVariants.{Free}
use Rattle.genie_model.specs.Pending.{is_posted, is_outboard, is_just}
use Rattle.genie_model.specs.Tables.{entry}
use Rattle.genie_kernel.specs.declared.transfer.Transfer.{Transfer}
use Rattle.genie_kernel.specs.Calls.{number_of, first_waiting, receiver, has_arrived}
use Rattle.genie_kernel.specs.Planned.{is_early_device}

abbrev pub posted_as : Transfer → Input
posted_as t = record { device = t.dev; port = t.port; flow = t.flow; id = number_of t }

abbrev pub is_posted_call : Transfer → Bool
is_posted_call t = is_posted t.phase

-- just the posted inputs are listed, in the order of their numbers, and nothing is stored of them
pub record ArePosted (posted : List Input) (transfers : List Transfer) : Type 0 where
  pub listed : posted ≡ map posted_as (filter is_posted_call transfers)
  pub unstored : All (λ (t : Transfer). is_posted_call t ≡ true → t.stored ≡ 0) transfers

-- the device has begun the record of an output, and not ended it; only outboard memory has staged some of it
pub record IsSendingFor (v : DeviceView) (t : Transfer) : Type 0 where
  pub unsent : v.sent < header_len t.flow + t.len
  pub staged : length v.staged ≤ t.len
  pub memory : is_outboard v.config.kind ≡ false → v.staged ≡ []

-- it has staged and sent nothing
pub record IsIdle (v : DeviceView) : Type 0 where
  pub unstaged : v.staged ≡ []
  pub unsent : v.sent ≡ 0

abbrev pub IsSending : DeviceView → Option Transfer → Type 0
IsSending v None = IsIdle v
IsSending v (Some t) = IsSendingFor v t

-- each device sends for the first output that waits for it
abbrev pub AreSending : List (Option DeviceView) → List Transfer → Type 0
AreSending devices transfers = (d : ℕ) → IfSome (entry devices d) (λ (v : DeviceView). IsSending v (first_waiting transfers d))

-- what has come of a datagram and fits its input is stored
abbrev pub IsStored : Present → Transfer → Type 0
IsStored g t = t.stored ≡ min g.moved t.len

-- so it is at each device that moves a datagram into an input
abbrev pub AreReceiving : List (Option DeviceView) → List Transfer → Type 0
AreReceiving devices transfers = (d : ℕ) → IfSome (entry devices d) (λ (v : DeviceView). IfSome v.present (λ (g : Present). IfSome (receiver transfers d) (IsStored g)))

-- a datagram waits in this buffer
abbrev pub has_waiting : Option DeviceView → Option PoolState → ℕ → Bool
has_waiting None pool b = false
has_waiting (Some v) None b = is_arrived (state_at v.buffers b)
has_waiting (Some v) (Some p) b = is_held (slice_index_or p.buffers b Free)

-- how many bytes a buffer has for the datagram that waits in it
abbrev pub room_in : Option DeviceView → Option PoolState → ℕ → ℕ
room_in None pool b = 0
room_in (Some v) None b = length (bytes_in (state_at v.buffers b))
room_in (Some v) (Some p) b = v.limit

abbrev pub has_buffer : ℕ → ℕ → Transfer → Bool
has_buffer d b t = (t.dev == d) && is_just t.buffer b

abbrev pub has_filling : Option PoolState → Bool
has_filling None = false
has_filling (Some p) = list_any is_filling p.buffers

abbrev pub is_filling_pool : Option DeviceView → Option PoolState → Bool
is_filling_pool None pool = false
is_filling_pool (Some v) pool = is_some v.present && is_some pool

-- each buffer in which a datagram waits is that of one transfer, and no other buffer is one's; just the inputs that have
-- arrived on a device that isn't early have one, with all that is stored; and a pool fills a buffer exactly while a
-- datagram is present
pub record HaveArrived (devices : List (Option DeviceView)) (pools : List (Option PoolState)) (transfers : List Transfer) : Type 0 where
  pub buffers : (d b : ℕ) → count_by (has_buffer d b) transfers ≡ (if has_waiting (entry devices d) (entry pools d) b then 1 else 0)
  pub inputs : All (λ (t : Transfer). is_some t.buffer ≡ (has_arrived t.dev t && not (is_early_device (entry devices t.dev)))) transfers
  pub stored : All (λ (t : Transfer). IfSome t.buffer (λ b. t.stored ≤ room_in (entry devices t.dev) (entry pools t.dev) b)) transfers
  pub filling : (d : ℕ) → has_filling (entry pools d) ≡ is_filling_pool (entry devices d) (entry pools d)
