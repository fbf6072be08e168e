-- The receive step.
use Rattle.std.specs.Prelude.{ℕ, ◌+◌, ◌-◌, ◌==◌, Bool, true, false, not, ◌&&◌, ◌||◌, nat_le, nat_lt, min, List, [], ◌∷◌, ◌++◌, length, take, drop, slice_set, Option, None, Some, if◌then◌else◌, is_none, is_some}
use Rattle.genie_base.specs.Configs.{most}
use Rattle.genie_base.specs.Headers.{header_taken, payload_taken, is_whole_header, is_valid_header, port_in, len_in, flow_in}
use Rattle.genie_base.specs.Transfers.{is_strong}
use Rattle.genie_base.specs.declared.reply.Note.{Note}
use Rattle.genie_base.specs.declared.reply.Note.TheVariants.{Whole, Cut, Trunc}
use Rattle.genie_base.specs.declared.reply.Reply.{Reply}
use Rattle.genie_base.specs.declared.reply.Reply.TheVariants as reply
use Rattle.genie_model.specs.declared.phase.Phase.TheVariants.{Moving, Ready}
use Rattle.genie_model.specs.declared.phase.Phase.{Phase}
use Rattle.genie_model.specs.State.{State, Transfer, Device, Datagram}
use Rattle.genie_model.specs.declared.fate.Fate.{Fate}
use Rattle.genie_model.specs.declared.fate.Fate.TheVariants.{Matched, Skipped, Gathering}
use Rattle.genie_model.specs.Tables.{change, entry}
use Rattle.genie_model.specs.Regions.{put}
use Rattle.genie_model.specs.Pending.{is_early, is_numbered, pending, first_posted, arrived}
use Rattle.genie_model.specs.Space.{Outcome}
use Rattle.genie_model.specs.Sending.{change_device}

-- the device has received on, as v says; what it has sent stays
abbrev pub receiving : Device → Device → Device
receiving v old = record v { sent = old.sent }

abbrev pub set_device : State → ℕ → Device → State
set_device s d v = record s { devices = slice_set s.devices d (change_device (receiving v) (entry s.devices d)) }

-- with these bytes left of its input
abbrev pub with_rest : List ℕ → Device → Device
with_rest bytes v = record v { rest = bytes }

abbrev pub no_bytes : List ℕ → Bool
no_bytes [] = true
no_bytes (b ∷ bytes) = false

-- no byte of a record has been moved
abbrev pub is_between_records : Device → Bool
is_between_records v = no_bytes v.header && is_none v.present

-- as many datagrams wait as a device that isn't early has room for
abbrev pub is_busy : State → ℕ → Device → Bool
is_busy s d v = is_between_records v && not (is_early v.kind) && (arrived s d == v.depth)

abbrev pub with_phase : Phase → Transfer → Transfer
with_phase phase t = record t { phase = phase }

-- how a datagram of so many bytes met a buffer
abbrev pub note_of : Bool → ℕ → ℕ → Note
note_of truncated len buffer = if truncated then Trunc else (if nat_lt buffer len then Cut else Whole)

-- ready: its datagram has ended, whole or truncated
abbrev pub with_datagram : Bool → ℕ → Transfer → Transfer
with_datagram truncated len t = record t { phase = Ready; note = note_of truncated len t.len }

-- with the bytes that fit its buffer
abbrev pub gathered : Bool → ℕ → List ℕ → Transfer → Transfer
gathered truncated len bytes t = record t { phase = Ready; payload = take t.len bytes; stored = length (take t.len bytes); note = note_of truncated len t.len }

abbrev pub change_transfer : State → ℕ → (Transfer → Transfer) → State
change_transfer s k f = record s { transfers = change (is_numbered k) f s.transfers }

-- the end of a gathered datagram at the input that it meets, or the drop
abbrev pub deliver : State → Datagram → Bool → ℕ → Option ℕ → Outcome
deliver s g truncated k None = (s, reply.Dropped g.port g.flow g.len)
deliver s g truncated k (Some t) = (change_transfer s t (gathered truncated g.len g.bytes), reply.Got k)

-- the datagram ends, and the step, which moved k bytes, with it
abbrev pub complete : State → ℕ → Datagram → Bool → ℕ → Fate → Outcome
complete s d g truncated k Skipped = (s, reply.Got k)
complete s d g truncated k (Matched t) = (change_transfer s t (with_datagram truncated g.len), reply.Got k)
complete s d g truncated k Gathering = deliver s g truncated k (first_posted s d g.port g.flow)

-- of the payload bytes from the datagram's place x on those that fit the buffer of t
abbrev pub fitting : Transfer → ℕ → List ℕ → List ℕ
fitting t x bytes = take (t.len - x) bytes

-- so many bytes more of a datagram have come: a strong transfer keeps those that fit
abbrev pub after_receiving : ℕ → List ℕ → Transfer → Transfer
after_receiving x bytes t = record t { payload = if is_strong t.class then t.payload ++ fitting t x bytes else t.payload; stored = min (x + length bytes) t.len }

-- the region or orphan in which a weak one stores them
abbrev pub landing : Transfer → Option ℕ
landing t = if is_strong t.class then None else t.region

abbrev pub landed : State → Transfer → ℕ → List ℕ → Option ℕ → State
landed s t x bytes None = s
landed s t x bytes (Some r) = put s r (t.offset + x) (fitting t x bytes)

abbrev pub land_in : State → ℕ → List ℕ → Option Transfer → State
land_in s x bytes None = s
land_in s x bytes (Some t) = change_transfer (landed s t x bytes (landing t)) t.number (after_receiving x bytes)

-- the payload bytes from place x on have come
abbrev pub land : State → ℕ → List ℕ → Fate → State
land s x bytes Skipped = s
land s x bytes Gathering = s
land s x bytes (Matched t) = land_in s x bytes (pending s t)

-- what is kept of a datagram's bytes beside those that it has
abbrev pub kept : List ℕ → Fate → List ℕ
kept bytes Skipped = []
kept bytes (Matched t) = []
kept bytes Gathering = bytes

abbrev pub after_bytes : List ℕ → Datagram → Datagram
after_bytes bytes g = record g { moved = g.moved + length bytes; bytes = g.bytes ++ kept bytes g.fate }

-- it completes where all its payload has come, and truncated where no byte came at all
abbrev pub go_on : State → ℕ → Device → Datagram → ℕ → Outcome
go_on s d v g k =
    if k == 0 then complete (set_device s d (record v { present = None })) d g true 0 g.fate
    else (if g.moved == g.len then complete (set_device s d (record v { present = None })) d g false k g.fate
    else (set_device s d (record v { present = Some g }), reply.Got k))

-- the next b bytes are payload of the datagram g, behind h bytes of its header
abbrev pub take_payload : State → ℕ → Device → Datagram → ℕ → ℕ → Outcome
take_payload s d v g h b = go_on (land s g.moved (take b v.rest) g.fate) d (record v { rest = drop b v.rest }) (after_bytes (take b v.rest) g) (h + b)

-- a step with so much of its budget left, behind h bytes of the header
abbrev pub receive_payload : State → ℕ → ℕ → Device → Datagram → ℕ → Outcome
receive_payload s d left v g h = take_payload s d v g h (payload_taken left (g.len - g.moved) v.rest)

-- the record that a whole header begins
abbrev pub datagram : List ℕ → Fate → Datagram
datagram header fate = record { port = port_in header; flow = flow_in header; len = len_in header; moved = 0; fate = fate; bytes = [] }

-- a record that meets no input: its payload is skipped
abbrev pub skipped : List ℕ → Option Datagram
skipped header = if len_in header == 0 then None else Some (datagram header Skipped)

-- an early device matches the header
abbrev pub match_header : State → ℕ → ℕ → Device → List ℕ → ℕ → Option ℕ → Outcome
match_header s d left v header h None = (set_device s d (record v { present = skipped header }), reply.Dropped (port_in header) (flow_in header) (len_in header))
match_header s d left v header h (Some t) = receive_payload (change_transfer s t (with_phase Moving)) d left v (datagram header (Matched t)) h

abbrev pub begin_datagram : State → ℕ → ℕ → Device → List ℕ → ℕ → Outcome
begin_datagram s d left v header h =
    if is_early v.kind then match_header s d left v header h (first_posted s d (port_in header) (flow_in header))
    else receive_payload s d left v (datagram header Gathering) h

-- A header that isn't valid marks the device for good.
abbrev pub read_header : State → ℕ → ℕ → Device → List ℕ → ℕ → Outcome
read_header s d left v header h =
    if is_valid_header (most v.kind s.config.page) header then begin_datagram s d left (record v { header = [] }) header h
    else (set_device s d (record v { header = []; is_bad = true }), reply.Bad)

abbrev pub header_reply : ℕ → Reply
header_reply h = if h == 0 then reply.End else reply.Got h

-- the next h bytes belong to the header
abbrev pub take_header : State → ℕ → ℕ → Device → ℕ → Outcome
take_header s d n v h =
    let header = v.header ++ take h v.rest in
    let after = record v { rest = drop h v.rest; header = header } in
    if is_whole_header header then read_header s d (n - h) after header h
    else (set_device s d after, header_reply h)

abbrev pub receive_record : State → ℕ → ℕ → Device → Option Datagram → Outcome
receive_record s d n v None = take_header s d n v (header_taken n v.header v.rest)
receive_record s d n v (Some g) = receive_payload s d n v g 0

abbrev pub receive : State → ℕ → ℕ → Option Device → Outcome
receive s d n None = (s, reply.End)
receive s d n (Some v) = if v.is_bad then (s, reply.Bad) else (if is_busy s d v then (s, reply.Busy) else receive_record s d n v v.present)

abbrev pub recv : State → ℕ → ℕ → Outcome
recv s d n = receive s d n (entry s.devices d)

-- k bytes more of a payload are there, and end before it does
abbrev pub stays_in_payload : List ℕ → ℕ → ℕ → Bool
stays_in_payload rest left k = nat_le k (length rest) && nat_lt k left

-- the record that a whole header begins is received, and not dropped
abbrev pub is_received : State → ℕ → Device → List ℕ → Bool
is_received s d v header = is_valid_header (most v.kind s.config.page) header && (not (is_early v.kind) || is_some (first_posted s d (port_in header) (flow_in header)))

-- k bytes of which the first h belong to the header end inside the record
abbrev pub stays_behind_header : State → ℕ → ℕ → Device → ℕ → Bool
stays_behind_header s d k v h =
    let header = v.header ++ take h v.rest in
    if is_whole_header header then is_received s d v header && stays_in_payload (drop h v.rest) (len_in header) (k - h)
    else (h == k)

-- k bytes more of a record that isn't dropped are there, and end inside it
abbrev pub stays_inside : State → ℕ → ℕ → Device → Option Datagram → Bool
stays_inside s d k v None = stays_behind_header s d k v (header_taken k v.header v.rest)
stays_inside s d k v (Some g) = stays_in_payload v.rest (g.len - g.moved) k

abbrev pub may_fail_at : State → ℕ → ℕ → Option Device → Bool
may_fail_at s d k None = false
may_fail_at s d k (Some v) = not v.is_bad && not (is_busy s d v) && ((k == 0) || stays_inside s d k v v.present)

-- a failure after k bytes
abbrev pub may_fail_receiving : State → ℕ → ℕ → Bool
may_fail_receiving s d k = may_fail_at s d k (entry s.devices d)

-- the state with these bytes as a device's input
abbrev pub with_input : State → ℕ → List ℕ → State
with_input s d bytes = record s { devices = slice_set s.devices d (change_device (with_rest bytes) (entry s.devices d)) }
