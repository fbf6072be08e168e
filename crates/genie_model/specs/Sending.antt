-- The send step.
use Rattle.std.specs.Prelude.{ℕ, ◌+◌, ◌-◌, ◌==◌, Bool, false, not, ◌&&◌, ◌||◌, nat_lt, min, List, [], ◌++◌, slice_set, Option, None, Some, if◌then◌else◌}
use Rattle.genie_base.specs.Bytes.{part}
use Rattle.genie_base.specs.Records.{header_bytes, unsent_bytes}
use Rattle.genie_base.specs.Transfers.{is_strong}
use Rattle.genie_base.specs.declared.reply.Reply.TheVariants as reply
use Rattle.genie_model.specs.declared.phase.Phase.TheVariants.{Ready}
use Rattle.genie_model.specs.State.{State, Transfer, Device}
use Rattle.genie_model.specs.Tables.{change, entry}
use Rattle.genie_model.specs.Regions.{bytes_of}
use Rattle.genie_model.specs.Pending.{is_outboard_at, waits_for, first_queued}
use Rattle.genie_model.specs.Space.{Outcome}

-- n bytes from place x on of the region or orphan that a transfer names
abbrev pub named_bytes : State → Option ℕ → ℕ → ℕ → List ℕ
named_bytes s None x n = []
named_bytes s (Some k) x n = bytes_of s k x n

-- the bytes that a transfer keeps: those of a strong output, and those that an outboard device has staged
abbrev pub keeps_bytes : State → Transfer → Bool
keeps_bytes s t = is_strong t.class || is_outboard_at s t.device

-- The other ones are the bytes of now.
abbrev pub payload_of : State → Transfer → List ℕ
payload_of s t = if keeps_bytes s t then t.payload else named_bytes s t.region t.offset t.len

-- the record of an output, whose header tells the length of the call
abbrev pub record_of : Transfer → List ℕ → List ℕ
record_of t payload = header_bytes t.port t.flow t.len ++ payload

-- how many bytes of the record aren't sent
abbrev pub unsent : Transfer → ℕ
unsent t = unsent_bytes t.flow t.len t.moved

-- With the record's last byte the transfer is ready, and its payload is dropped.
abbrev pub after_sending : ℕ → Transfer → Transfer
after_sending k t = if k == unsent t then record t { moved = t.moved + k; phase = Ready; payload = [] } else record t { moved = t.moved + k }

abbrev pub change_device : (Device → Device) → Option Device → Option Device
change_device f None = None
change_device f (Some d) = Some (f d)

-- the next k bytes of its record
abbrev pub next_part : State → ℕ → Transfer → List ℕ
next_part s k t = part t.moved k (record_of t (payload_of s t))

abbrev pub with_sent : List ℕ → Device → Device
with_sent bytes d = record d { sent = d.sent ++ bytes }

-- the next k bytes of the record of t, the first output that waits for the device, go out
abbrev pub send_bytes : State → ℕ → Transfer → ℕ → State
send_bytes s d t k = record s {
  transfers = change (waits_for d) (after_sending k) s.transfers;
  devices = slice_set s.devices d (change_device (with_sent (next_part s k t)) (entry s.devices d));
}

-- some of its payload has to be staged first
abbrev pub must_stage : State → ℕ → Transfer → Bool
must_stage s d t = is_outboard_at s d && nat_lt t.staged t.len

-- the next k bytes of a weak output are the bytes of now
abbrev pub staged_now : State → ℕ → Transfer → List ℕ
staged_now s k t = if is_strong t.class then [] else named_bytes s t.region (t.offset + t.staged) k

abbrev pub after_staging : ℕ → List ℕ → Transfer → Transfer
after_staging k bytes t = record t { staged = t.staged + k; payload = t.payload ++ bytes }

-- the next k bytes of the payload of t, the first output that waits for the device, are staged
abbrev pub stage_bytes : State → ℕ → Transfer → ℕ → State
stage_bytes s d t k = record s { transfers = change (waits_for d) (after_staging k (staged_now s k t)) s.transfers }

-- how many bytes a step with a budget stages
abbrev pub stage_count : ℕ → Transfer → ℕ
stage_count n t = min n (t.len - t.staged)

-- how many bytes a step with a budget sends
abbrev pub send_count : ℕ → Transfer → ℕ
send_count n t = min n (unsent t)

abbrev pub send_next : State → ℕ → ℕ → Option Transfer → Outcome
send_next s d n None = (s, reply.Idle)
send_next s d n (Some t) =
    if must_stage s d t then (stage_bytes s d t (stage_count n t), reply.Staged (stage_count n t))
    else (send_bytes s d t (send_count n t), reply.Sent (send_count n t))

abbrev pub send : State → ℕ → ℕ → Outcome
send s d n = send_next s d n (first_queued s d)

-- a failure after k bytes of the record of t
abbrev pub may_fail_in : State → ℕ → ℕ → Option Transfer → Bool
may_fail_in s d k None = false
may_fail_in s d k (Some t) = not (must_stage s d t) && ((k == 0) || nat_lt k (unsent t))

abbrev pub may_fail_sending : State → ℕ → ℕ → Bool
may_fail_sending s d k = may_fail_in s d k (first_queued s d)

abbrev pub sent_by : Option Device → List ℕ
sent_by None = []
sent_by (Some d) = d.sent

-- what a device has sent
abbrev pub sent_of : State → ℕ → List ℕ
sent_of s d = sent_by (entry s.devices d)
