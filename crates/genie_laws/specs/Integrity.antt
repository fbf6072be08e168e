-- Integrity: what a run sends is what the outputs' buffers had, and what it receives shows nowhere too soon.
use Rattle.std.specs.Prelude.{◌≡◌, ◌⊎◌, ℕ, ◌+◌, ◌-◌, ◌<◌, ◌==◌, nat_le, nat_lt, Bool, true, false, IsTrue, ◌&&◌, List, [], ◌∷◌, ◌++◌, length, take, get_or, map, filter, All, Option, None, Some, ⊤, if◌then◌else◌}
use Rattle.std.specs.List.{list_any, Any}
use Rattle.genie_base.specs.Bytes.{part}
use Rattle.genie_base.specs.Configs.{Config, Fits}
use Rattle.genie_base.specs.Events.{is_whole, mark_of}
use Rattle.genie_base.specs.Headers.{header_taken, port_in, len_in, flow_in}
use Rattle.genie_base.specs.Records.{header_bytes}
use Rattle.genie_base.specs.Transfers.{class_of}
use Rattle.genie_base.specs.declared.event.Event.{Event}
use Rattle.genie_base.specs.declared.event.Event.TheVariants.{Output, Write, Recv, Finish}
use Rattle.genie_base.specs.declared.reply.Mark.{Mark}
use Rattle.genie_base.specs.declared.reply.Reply.{Reply}
use Rattle.genie_base.specs.declared.reply.Reply.TheVariants.{Id}
use Rattle.genie_base.specs.declared.semantics.Class.{Class}
use Rattle.genie_base.specs.declared.semantics.Class.TheVariants.{Copy, Share, Move, WeakMove}
use Rattle.genie_model.specs.Ending.{region_of}
use Rattle.genie_model.specs.Sending.{sent_of}
use Rattle.genie_model.specs.Inputs.{address_or_zero}
use Rattle.genie_orderly.specs.Orderly.{IsOrderly, matched_to}
use Rattle.genie_model.specs.Outputs.{number_of, place_reached}
use Rattle.genie_model.specs.Pending.{is_inward, is_ready, covers, pending, waits_for, first_posted, is_early_at}
use Rattle.genie_model.specs.Regions.{bytes_of, reach_of, place_in, write_reach_of}
use Rattle.genie_model.specs.Space.{bytes_reached}
use Rattle.genie_model.specs.State.{State, Region, Transfer, Device, Datagram, boot}
use Rattle.genie_model.specs.Step.{step, Follows}
use Rattle.genie_model.specs.Tables.{entry}

-- an output that was accepted: its number and header, the bytes of its range at the call, where the range lies, and the
-- states from the call on
pub record Accepted : Type 0 where
  pub number : ℕ
  pub class : Class
  pub header : List ℕ
  pub len : ℕ
  pub bytes : List ℕ
  pub region : Option ℕ
  pub offset : ℕ
  pub later : List State

-- the states of a run, from this one on
abbrev pub states : State → List Event → List Reply → List State
states s (e ∷ es) (r ∷ rs) = s ∷ states (step s e (mark_of r)).0 es rs
states s es rs = s ∷ []

-- the output of device d that this event is, where it was accepted
abbrev pub accepted : ℕ → State → Event → Reply → List State → List Accepted
accepted d s (Output p sem dev port flow a n) (Id k) later =
    let reached = reach_of s p a n in
    if dev == d then record {
      number = k;
      class = class_of sem;
      header = header_bytes port flow n;
      len = n;
      bytes = bytes_reached s reached a n;
      region = number_of reached;
      offset = place_reached s reached a;
      later = later;
    } ∷ [] else []
accepted d s e r later = []

-- the accepted outputs of a device, in the order of their numbers
abbrev pub outputs : ℕ → State → List Event → List Reply → List Accepted
outputs d s (e ∷ es) (r ∷ rs) = accepted d s e r (states (step s e (mark_of r)).0 es rs) ++ outputs d (step s e (mark_of r)).0 es rs
outputs d s es rs = []

-- this byte stood there
abbrev pub Stood : Option ℕ → ℕ → ℕ → State → Type 0
Stood None x b s = ⊥
Stood (Some k) x b s = bytes_of s k x 1 ≡ b ∷ []

-- each byte stood in its place in a state from the call on
pub record WasThere (o : Accepted) (payload : List ℕ) : Type 0 where
  pub whole : length payload ≡ o.len
  pub bytes : (j : ℕ) → j < o.len → Any (Stood o.region (o.offset + j) (get_or payload j 0)) o.later

-- the payload of a strong output is the bytes of its call, and that of a weak one bytes of later states
abbrev pub HasPayload : Class → Accepted → List ℕ → Type 0
HasPayload Copy o payload = payload ≡ o.bytes
HasPayload Share o payload = WasThere o payload
HasPayload Move o payload = payload ≡ o.bytes
HasPayload WeakMove o payload = WasThere o payload

abbrev pub IsPayload : Accepted → List ℕ → Type 0
IsPayload o payload = HasPayload o.class o payload

abbrev pub ArePayloads : List Accepted → List (List ℕ) → Type 0
ArePayloads [] [] = ⊤
ArePayloads (o ∷ os) (p ∷ ps) = IsPayload o p × ArePayloads os ps
ArePayloads os ps = ⊥

-- the records of these outputs with these payloads, one after the other
abbrev pub records : List Accepted → List (List ℕ) → List ℕ
records (o ∷ os) (p ∷ ps) = o.header ++ p ++ records os ps
records os ps = []

-- What a device has sent is a front of the records of its accepted outputs, in the order of their calls.
pub record SendsRecords (d : ℕ) (os : List Accepted) (last : State) : Type 0 where
  pub payloads : List (List ℕ)
  pub are : ArePayloads os payloads
  pub left : List ℕ
  pub front : records os payloads ≡ sent_of last d ++ left

-- So it is in every run; and of a run that is cut anywhere, so that a byte is one from the call up to the step that sent it.
abbrev pub OutputsKeepIntegrity : Type 0
OutputsKeepIntegrity = (c : Config) (inputs : ℕ → List ℕ) (es : List Event) (rs : List Reply) (last : State) (d : ℕ) → Fits c → All (λ (e : Event). IsTrue (is_whole e)) es → Follows (boot c inputs) es rs last → SendsRecords d (outputs d (boot c inputs) es rs) last

-- the output is the call of this transfer
abbrev pub IsCallOf : Transfer → Accepted → Type 0
IsCallOf t o = (o.number ≡ t.number) × (o.header ≡ header_bytes t.port t.flow t.len) × (o.len ≡ t.len)

-- where the transfer is a ready output of device d, one of these is its call
abbrev pub IsAmong : List Accepted → ℕ → Transfer → Type 0
IsAmong os d t = is_inward t.direction ≡ false → t.device ≡ d → is_ready t.phase ≡ true → Any (IsCallOf t) os

-- how many bytes of the first one are sent
abbrev pub moved_of : List Transfer → ℕ
moved_of [] = 0
moved_of (t ∷ ts) = t.moved

-- The outputs that wait in the last state are the last ones. Of those before them, which are ready or at their end, the
-- device has sent the records whole, one after the other, and then as much of the first that waits as that has moved.
pub record SendsWhole (d : ℕ) (os : List Accepted) (last : State) : Type 0 where
  pub over : List Accepted
  pub waiting : List Accepted
  pub all : os ≡ over ++ waiting
  pub wait : map (λ (o : Accepted). o.number) waiting ≡ map (λ (t : Transfer). t.number) (filter (waits_for d) last.transfers)
  pub payloads : List (List ℕ)
  pub are : ArePayloads over payloads
  pub others : List (List ℕ)
  pub are_others : ArePayloads waiting others
  pub begun : List ℕ
  pub sent : sent_of last d ≡ records over payloads ++ begun
  pub part : length begun ≡ moved_of (filter (waits_for d) last.transfers)
  pub left : List ℕ
  pub front : records waiting others ≡ begun ++ left
  pub ready : All (IsAmong over d) last.transfers

-- so it is in every run
abbrev pub OutputsAreSentWhole : Type 0
OutputsAreSentWhole = (c : Config) (inputs : ℕ → List ℕ) (es : List Event) (rs : List Reply) (last : State) (d : ℕ) → Fits c → All (λ (e : Event). IsTrue (is_whole e)) es → Follows (boot c inputs) es rs last → SendsWhole d (outputs d (boot c inputs) es rs) last

-- a weak input covers place x of region or orphan k
abbrev pub is_under_input : ℕ → ℕ → Transfer → Bool
is_under_input k x t = is_inward t.direction && covers k x t

-- the header of the record that the device is about to receive, as far as it is there
abbrev pub next_header : Device → List ℕ
next_header v = v.header ++ take (header_taken (length v.rest) v.header v.rest) v.rest

-- byte j of the payload that the device is receiving, or is about to receive, is still to come
abbrev pub is_to_come : Device → Option Datagram → ℕ → Bool
is_to_come v None j = nat_lt j (len_in (next_header v))
is_to_come v (Some g) j = nat_le g.moved j && nat_lt j g.len

-- where it then is in what is left of the device's input
abbrev pub payload_place : Device → Option Datagram → ℕ → ℕ
payload_place v None j = header_taken (length v.rest) v.header v.rest + j
payload_place v (Some g) j = j - g.moved

-- that byte, where it is there
abbrev pub byte_to_come : Device → Option Datagram → ℕ → List ℕ
byte_to_come v present j = if is_to_come v present j then part (payload_place v present j) 1 v.rest else []

abbrev pub payload_byte : Option Device → ℕ → List ℕ
payload_byte None j = []
payload_byte (Some v) j = byte_to_come v v.present j

-- the number of the input whose payload that is: the one to which the datagram was matched, or the first posted input that
-- the next record meets
abbrev pub met_by : State → ℕ → Device → Option Datagram → Option ℕ
met_by s d v None = first_posted s d (port_in (next_header v)) (flow_in (next_header v))
met_by s d v (Some g) = matched_to g.fate

abbrev pub met : State → ℕ → Option Device → Option ℕ
met s d None = None
met s d (Some v) = met_by s d v v.present

-- What a receive step of device d stored at place x of region or orphan k: one byte, that of the payload for this place of
-- the buffer of the weak input whose payload it is.
pub record Landed (s : State) (d k x : ℕ) (byte : List ℕ) : Type 0 where
  pub input : Transfer
  pub pending : pending s input.number ≡ Some input
  pub device : input.device ≡ d
  pub met : met s d (entry s.devices d) ≡ Some input.number
  pub covers : IsTrue (is_under_input k x input)
  pub one : length byte ≡ 1
  pub payload : byte ≡ payload_byte (entry s.devices d) (x - input.offset)

-- A receive step leaves each byte of regions and orphans, or stores the payload's byte where the weak input that its
-- record meets covers it. So a strong input changes none before it is done.
abbrev pub InputsKeepIntegrity : Type 0
InputsKeepIntegrity = (s : State) (d n : ℕ) (m : Mark) (k x : ℕ) → IsOrderly s
    → (bytes_of (step s (Recv d n) m).0 k x 1 ≡ bytes_of s k x 1) ⊎ Landed s d k x (bytes_of (step s (Recv d n) m).0 k x 1)

-- of these bytes, stored from place y on, it is the one for place x
pub record IsByteAt (y : ℕ) (bytes : List ℕ) (x : ℕ) (byte : List ℕ) : Type 0 where
  pub index : ℕ
  pub place : y + index ≡ x
  pub within : index < length bytes
  pub is : byte ≡ part index 1 bytes

-- a write stored this byte at place x of region k: it reaches the region, and its byte for that place is this one
pub record Written (s : State) (p a : ℕ) (bytes : List ℕ) (k x : ℕ) (byte : List ℕ) : Type 0 where
  pub region : Region
  pub reached : reach_of s p a (length bytes) ≡ Some region
  pub number : region.number ≡ k
  pub stored : IsByteAt (place_in s region a) bytes x byte

-- the region that a weak input names; on an early device none, since its bytes have landed
abbrev pub late_region : State → Transfer → Option Region
late_region s t = if is_early_at s t.device then None else region_of s t

-- The region in which the end of an input of process p stores its payload where other transfers may cover it: the one that
-- a write of a copy input's range reaches now, or that a weak input names. A move input fills a region of its own.
abbrev pub buffer_of : State → ℕ → Transfer → Class → Option Region
buffer_of s p t Copy = write_reach_of s p (address_or_zero t.addr) t.len
buffer_of s p t Share = late_region s t
buffer_of s p t Move = None
buffer_of s p t WeakMove = late_region s t

-- where the buffer begins in that region
abbrev pub start_in : State → Transfer → Class → Region → ℕ
start_in s t Copy r = place_in s r (address_or_zero t.addr)
start_in s t class r = t.offset

-- The end of input j stored this byte at place x of region k: the payload's byte for that place of its buffer.
pub record Finished (s : State) (j k x : ℕ) (byte : List ℕ) : Type 0 where
  pub input : Transfer
  pub pending : pending s j ≡ Some input
  pub inward : IsTrue (is_inward input.direction)
  pub owner : ℕ
  pub owned : input.owner ≡ Some owner
  pub region : Region
  pub buffer : buffer_of s owner input input.class ≡ Some region
  pub number : region.number ≡ k
  pub stored : IsByteAt (start_in s input input.class region) input.payload x byte

-- this event stored this byte at place x of region or orphan k
abbrev pub Stores : State → Event → ℕ → ℕ → List ℕ → Type 0
Stores s (Write p a bytes) k x byte = Written s p a bytes k x byte
Stores s (Recv d n) k x byte = Landed s d k x byte
Stores s (Finish j) k x byte = Finished s j k x byte
Stores s _ k x byte = ⊥

-- Where a pending weak transfer covers a byte before and after an event, the byte stays, or the event stored the new
-- one there. So the region may go, but the byte stays.
abbrev pub CoveredBytesStay : Type 0
CoveredBytesStay = (s : State) (e : Event) (m : Mark) (k x : ℕ) → IsTrue (is_whole e) → IsOrderly s → IsTrue (list_any (covers k x) s.transfers) → IsTrue (list_any (covers k x) (step s e m).0.transfers)
    → (bytes_of (step s e m).0 k x 1 ≡ bytes_of s k x 1) ⊎ Stores s e k x (bytes_of (step s e m).0 k x 1)

-- this byte stands at place x of region or orphan k in each of these states
abbrev pub StandsIn : List State → ℕ → ℕ → List ℕ → Type 0
StandsIn run k x byte = All (λ (s : State). bytes_of s k x 1 ≡ byte) run

-- one of these steps stored this byte there, and it stands there in every later state
abbrev pub WasStored : State → List Event → List Reply → ℕ → ℕ → List ℕ → Type 0
WasStored s (e ∷ es) (r ∷ rs) k x byte =
    let next = (step s e (mark_of r)).0 in
    (Stores s e k x byte × StandsIn (states next es rs) k x byte) ⊎ WasStored next es rs k x byte
WasStored s es rs k x byte = ⊥

-- A transfer is t in the first state of a run and u in the last one: both cover the same places, and the last byte of
-- such a place stands there in all states, or was stored since.
pub record KeepsByte (s : State) (es : List Event) (rs : List Reply) (last : State) (k x : ℕ) (t u : Transfer) : Type 0 where
  pub place : covers k x u ≡ covers k x t
  pub byte : IsTrue (covers k x t) → StandsIn (states s es rs) k x (bytes_of last k x 1) ⊎ WasStored s es rs k x (bytes_of last k x 1)

-- So it is from the call of a weak transfer on until it ends: each byte that it covers stays until a write, a `done` or
-- a receive step stores another one in its place.
abbrev pub WeakTransfersKeepBytes : Type 0
WeakTransfersKeepBytes = (s : State) (es : List Event) (rs : List Reply) (last : State) (n k x : ℕ) (t u : Transfer) → IsOrderly s → All (λ (e : Event). IsTrue (is_whole e)) es → Follows s es rs last → pending s n ≡ Some t → pending last n ≡ Some u → KeepsByte s es rs last k x t u
