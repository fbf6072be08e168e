-- The pending transfers, as the flat machine has them: their bytes come from frames, pools and outboard memory.
use Rattle.std.specs.Prelude.{ℕ, ◌+◌, Bool, false, List, [], ◌++◌, length, map, take, drop, Option, None, Some, if◌then◌else◌}
use Rattle.genie_base.specs.Records.{header_len}
use Rattle.genie_base.specs.Transfers.{class_of}
use Rattle.genie_base.specs.declared.semantics.Direction.{Direction}
use Rattle.genie_base.specs.declared.semantics.Direction.TheVariants.{Outward, Inward}
use Rattle.genie_device.specs.Device.{DeviceView}
use Rattle.genie_device.specs.Buffers.{state_at, bytes_in}
use Rattle.genie_input.specs.Pools.{PoolState, buffer_loans}
use Rattle.genie_plan.specs.Plans.{input_frames}
use Rattle.genie_model.specs.Pending.{is_outboard}
use Rattle.genie_model.specs.State as flat
use Rattle.genie_model.specs.Tables.{entry}
use Rattle.genie_kernel.specs.declared.transfer.Transfer.{Transfer}
use Rattle.genie_kernel.specs.Loans.{bytes_in_frames}
use Rattle.genie_kernel.specs.Calls.{number_of, region_number, is_strong_call, addr_of, first_waiting, is_first, is_sent}
use Rattle.genie_kernel.specs.Orphans.{lent_bytes}

abbrev pub staged_by : Option DeviceView → List ℕ
staged_by None = []
staged_by (Some d) = d.staged

abbrev pub sent_by : Option DeviceView → ℕ
sent_by None = 0
sent_by (Some d) = d.sent

abbrev pub is_outboard_device : Option DeviceView → Bool
is_outboard_device None = false
is_outboard_device (Some d) = is_outboard d.config.kind

-- the payload bytes that are staged of an output, and the number of bytes sent of its record: a device works on the
-- first one that waits for it
abbrev pub staged_of : List (Option DeviceView) → (ℕ → Option Transfer) → Transfer → List ℕ
staged_of devices first t = if is_first first t then staged_by (entry devices t.dev) else []

abbrev pub sent_of : List (Option DeviceView) → (ℕ → Option Transfer) → Transfer → ℕ
sent_of devices first t = if is_first first t then sent_by (entry devices t.dev) else 0

-- the frames of a buffer of a pool
abbrev pub pool_frames : PoolState → ℕ → List ℕ
pool_frames p b = input_frames (buffer_loans p b)

-- the bytes of a device's buffer, from the place on where its datagrams begin
abbrev pub buffer_bytes : (ℕ → List ℕ) → Option DeviceView → Option PoolState → ℕ → List ℕ
buffer_bytes s None pool b = []
buffer_bytes s (Some d) None b = bytes_in (state_at d.buffers b)
buffer_bytes s (Some d) (Some p) b = drop d.config.offset (bytes_in_frames s (pool_frames p b))

-- the rest of a strong output's bytes, of which so many are staged, comes through its loans
abbrev pub unstaged : (ℕ → List ℕ) → Transfer → ℕ → List ℕ
unstaged s t n = if is_strong_call t then drop n (lent_bytes s t) else []

abbrev pub output_bytes : (ℕ → List ℕ) → List (Option DeviceView) → (ℕ → Option Transfer) → Transfer → List ℕ
output_bytes s devices first t = if is_sent t then [] else staged_of devices first t ++ unstaged s t (length (staged_of devices first t))

-- the bytes stored of an input: a strong one's in its frames, or each one's in the buffer that it has
abbrev pub input_bytes : (ℕ → List ℕ) → List (Option DeviceView) → List (Option PoolState) → Transfer → Option ℕ → List ℕ
input_bytes s devices pools t None = if is_strong_call t then take t.stored (lent_bytes s t) else []
input_bytes s devices pools t (Some b) = take t.stored (buffer_bytes s (entry devices t.dev) (entry pools t.dev) b)

abbrev pub payload_of : (ℕ → List ℕ) → List (Option DeviceView) → List (Option PoolState) → (ℕ → Option Transfer) → Transfer → Direction → List ℕ
payload_of s devices pools first t Outward = output_bytes s devices first t
payload_of s devices pools first t Inward = input_bytes s devices pools t t.buffer

-- how many payload bytes were staged, and how many bytes of the record were sent
abbrev pub staged_count : List (Option DeviceView) → (ℕ → Option Transfer) → Transfer → ℕ
staged_count devices first t =
    if is_sent t then (if is_outboard_device (entry devices t.dev) then t.len else 0)
    else length (staged_of devices first t)

abbrev pub sent_count : List (Option DeviceView) → (ℕ → Option Transfer) → Transfer → ℕ
sent_count devices first t = if is_sent t then header_len t.flow + t.len else sent_of devices first t

abbrev pub transfer_view : (ℕ → List ℕ) → List (Option DeviceView) → List (Option PoolState) → (ℕ → Option Transfer) → Transfer → flat.Transfer
transfer_view s devices pools first t = record {
  number = number_of t;
  owner = t.owner;
  direction = t.dir;
  class = class_of t.sem;
  device = t.dev;
  port = t.port;
  flow = t.flow;
  addr = addr_of t;
  region = region_number t;
  offset = t.offset;
  len = t.len;
  phase = t.phase;
  payload = payload_of s devices pools first t t.dir;
  staged = staged_count devices first t;
  moved = sent_count devices first t;
  stored = t.stored;
  note = t.note;
}

abbrev pub transfers_view : (ℕ → List ℕ) → List (Option DeviceView) → List (Option PoolState) → List Transfer → List flat.Transfer
transfers_view s devices pools transfers = map (transfer_view s devices pools (first_waiting transfers)) transfers
