-- What devices take of their input: records, one after the other, each of which goes to at most one input call.
use Rattle.std.specs.Prelude.{◌≡◌, ◌≢◌, ◌⊎◌, ℕ, ◌-◌, ◌<◌, ◌≤◌, Bool, true, false, not, ◌&&◌, nat_lt, IsTrue, List, [], ◌∷◌, ◌++◌, length, take, drop, slice_index, All, AllPairs, Option, None, Some, IfSome, ⊤}
use Rattle.std.specs.List.{Any}
use Rattle.genie_base.specs.Bytes.{part}
use Rattle.genie_base.specs.Configs.{Config, Fits}
use Rattle.genie_base.specs.Events.{is_whole, mark_of}
use Rattle.genie_base.specs.Headers.{size_of_header, is_whole_header, is_format, port_in, len_in, flow_in}
use Rattle.genie_base.specs.Posted.{meets_flow}
use Rattle.genie_base.specs.Transfers.{is_strong}
use Rattle.genie_base.specs.declared.event.Event.{Event}
use Rattle.genie_base.specs.declared.event.Event.TheVariants.{Recv, Finish}
use Rattle.genie_base.specs.declared.reply.Mark.{Mark}
use Rattle.genie_base.specs.declared.reply.Note.{Note}
use Rattle.genie_base.specs.declared.reply.Reply.{Reply}
use Rattle.genie_base.specs.declared.reply.Reply.TheVariants as reply
use Rattle.genie_base.specs.declared.semantics.Class.{Class}
use Rattle.genie_base.specs.declared.semantics.Class.TheVariants.{Copy, Share, Move, WeakMove}
use Rattle.genie_model.specs.State.{State, Region, Transfer, Device, Datagram, boot}
use Rattle.genie_model.specs.Tables.{entry}
use Rattle.genie_model.specs.Pending.{is_inward, is_early_at, pending}
use Rattle.genie_model.specs.Regions.{bytes_of, write_reach_of}
use Rattle.genie_model.specs.Inputs.{address_or_zero}
use Rattle.genie_model.specs.Ending.{region_of}
use Rattle.genie_orderly.specs.Orderly.{IsOrderly}
use Rattle.genie_orderly.specs.Steps.{is_refused}
use Rattle.genie_laws.specs.Integrity.{Landed, late_region, start_in}
use Rattle.genie_model.specs.Receiving.{note_of, kept}
use Rattle.genie_model.specs.Step.{step, Follows}
use Rattle.genie_model.specs.declared.phase.Phase.{Phase}
use Rattle.genie_model.specs.declared.phase.Phase.TheVariants.{Queued, Posted, Moving, Ready}

-- A record that a device has taken: its header, its payload, and the number of the input that it went to, if to one.
pub record Taken : Type 0 where
  pub header : List ℕ
  pub payload : List ℕ
  pub input : Option ℕ

-- a whole header of one of the formats
pub record IsHeader (bytes : List ℕ) : Type 0 where
  pub whole : length bytes ≡ size_of_header bytes
  pub format : IsTrue (is_format (slice_index bytes 0) (slice_index bytes 1))

-- The stream begins with this record, and these bytes are behind its header: the payload is as many of them as the header
-- tells, or all that there are.
pub record Begins (stream : List ℕ) (r : Taken) (behind : List ℕ) : Type 0 where
  pub header : IsHeader r.header
  pub split : stream ≡ r.header ++ behind
  pub payload : r.payload ≡ take (len_in r.header) behind

-- the stream is these records, one after the other, and then the bytes that are left
abbrev pub Consists : List ℕ → List Taken → List ℕ → Type 0
Consists stream [] left = stream ≡ left
Consists stream (r ∷ records) left = (behind : List ℕ) × Begins stream r behind × Consists (drop (len_in r.header) behind) records left

-- the datagram has this header, and so far this payload
pub record HasCome (g : Datagram) (header payload : List ℕ) : Type 0 where
  pub valid : IsHeader header
  pub port : g.port ≡ port_in header
  pub flow : g.flow ≡ flow_in header
  pub len : g.len ≡ len_in header
  pub moved : g.moved ≡ length payload
  pub bytes : g.bytes ≡ kept payload g.fate

-- of the next record the device has so much of the header and of the payload: with no datagram only bytes of a header,
-- which isn't whole unless the device is bad
abbrev pub HasOfNext : Bool → List ℕ → Option Datagram → List ℕ → List ℕ → Type 0
HasOfNext bad gathered None header payload = (payload ≡ []) × (bad ≡ false → (header ≡ gathered) × (is_whole_header header ≡ false))
HasOfNext bad gathered (Some g) header payload = HasCome g header payload

-- what was taken of the stream, what has come of the next record, and what is left make up the stream
abbrev pub Reads : List ℕ → List Taken → List ℕ → List ℕ → Device → Type 0
Reads stream taken header payload v = Consists stream taken (header ++ (payload ++ v.rest)) × HasOfNext v.is_bad v.header v.present header payload

-- The input is for the port and the flow of this record, and has the front of its payload that fits the buffer. A weak one
-- on an early device keeps no bytes, since they land in its region as they come.
pub record HasFront (early : Bool) (t : Transfer) (header payload : List ℕ) : Type 0 where
  pub port : t.port ≡ port_in header
  pub flow : IsTrue (meets_flow t.flow (flow_in header))
  pub stored : t.stored ≡ length (take t.len payload)
  pub bytes : (early && not (is_strong t.class)) ≡ false → t.payload ≡ take t.len payload

-- the record went to this input, whose note says whether the stream ended in the payload, or the buffer did
pub record HasGot (early : Bool) (t : Transfer) (r : Taken) : Type 0 where
  pub input : r.input ≡ Some t.number
  pub front : HasFront early t r.header r.payload
  pub note : t.note ≡ note_of (nat_lt (length r.payload) (len_in r.header)) (len_in r.header) t.len

-- none of these records went to input k
abbrev pub WentElsewhere : List Taken → ℕ → Type 0
WentElsewhere taken k = All (λ (r : Taken). r.input ≢ Some k) taken

-- An input has nothing while it is posted; while it is receiving, the front of what has come of the next record; and once
-- it is ready, that of a record that was taken.
abbrev pub HasBytes : Bool → List Taken → List ℕ → List ℕ → Transfer → Phase → Type 0
HasBytes early taken header payload t Queued = ⊤
HasBytes early taken header payload t Posted = (t.payload ≡ []) × (t.stored ≡ 0) × WentElsewhere taken t.number
HasBytes early taken header payload t Moving = HasFront early t header payload × WentElsewhere taken t.number
HasBytes early taken header payload t Ready = Any (HasGot early t) taken

-- so it is of an input of device d
abbrev pub IsServed : Bool → List Taken → List ℕ → List ℕ → ℕ → Transfer → Type 0
IsServed early taken header payload d t = is_inward t.direction ≡ true → t.device ≡ d → HasBytes early taken header payload t t.phase

-- two records didn't go to the same input
abbrev pub WentApart : Taken → Taken → Type 0
WentApart a b = (k : ℕ) → a.input ≡ Some k → b.input ≢ Some k

-- Device d has taken these records of its stream, each for at most one input, no two of them for the same one.
pub record HasTaken (stream : List ℕ) (d : ℕ) (taken : List Taken) (s : State) : Type 0 where
  pub header : List ℕ
  pub payload : List ℕ
  pub device : IfSome (entry s.devices d) (Reads stream taken header payload)
  pub calls : All (λ (r : Taken). IfSome r.input (λ k. k < s.next)) taken
  pub apart : AllPairs WentApart taken
  pub inputs : All (IsServed (is_early_at s d) taken header payload d) s.transfers

-- so it is in each state of a run, where the records that were taken stay, and each step adds at most one
abbrev pub Takes : List ℕ → ℕ → List Taken → State → List Event → List Reply → Type 0
Takes stream d taken s (e ∷ es) (r ∷ rs) = HasTaken stream d taken s × ((more : List Taken) × (length more ≤ 1) × Takes stream d (taken ++ more) (step s e (mark_of r)).0 es rs)
Takes stream d taken s es rs = HasTaken stream d taken s

-- So each device takes the records of its input in their order, and a ready input has the front of one of them.
abbrev pub InputsGetRecords : Type 0
InputsGetRecords = (c : Config) (inputs : ℕ → List ℕ) (es : List Event) (rs : List Reply) (last : State) (d : ℕ) → Fits c → All (λ (e : Event). IsTrue (is_whole e)) es → Follows (boot c inputs) es rs last → Takes (inputs d) d [] (boot c inputs) es rs

-- The region in which the end of input t of process p stores its payload: a copy's where a write of its range reaches now, a
-- move's is its own, and a weak input's is the one that it names, unless the bytes have landed there before.
abbrev pub stores_in : State → ℕ → Transfer → Class → Option Region
stores_in s p t Copy = write_reach_of s p (address_or_zero t.addr) t.len
stores_in s p t Share = late_region s t
stores_in s p t Move = region_of s t
stores_in s p t WeakMove = late_region s t

-- the reply tells so many bytes, and this note
abbrev pub Tells : Reply → ℕ → Note → Type 0
Tells (reply.Input address count note) n is = (count ≡ n) × (note ≡ is)
Tells _ n is = ⊥

-- the front of the record's payload that fits the buffer stands at the buffer's start, and the reply tells its length
pub record StoresFront (s next : State) (answer : Reply) (t : Transfer) (region : Region) (r : Taken) : Type 0 where
  pub bytes : bytes_of next region.number (start_in s t t.class region) (length (take t.len r.payload)) ≡ take t.len r.payload
  pub reply : Tells answer (length (take t.len r.payload)) t.note

-- So `done` of an input that got a record stores the front of its payload.
abbrev pub DoneStoresRecords : Type 0
DoneStoresRecords = (s : State) (k p : ℕ) (m : Mark) (t : Transfer) (region : Region) (r : Taken) → IsOrderly s → pending s k ≡ Some t → IsTrue (is_inward t.direction) → t.owner ≡ Some p → HasGot (is_early_at s t.device) t r → stores_in s p t t.class ≡ Some region
    → is_refused (step s (Finish k) m).1 ≡ false → StoresFront s (step s (Finish k) m).0 (step s (Finish k) m).1 t region r

-- the input got one of these records, and this step stored its front
abbrev pub StoresOne : List Taken → State → State → Reply → Transfer → Region → Type 0
StoresOne taken s next answer t region = Any (λ (r : Taken). HasGot (is_early_at s t.device) t r × StoresFront s next answer t region r) taken

-- whatever a `done` of an input stores in this state is the front of a record that its device has taken
abbrev pub StoresTaken : State → Type 0
StoresTaken s = (stream : List ℕ) (taken : List Taken) (k p : ℕ) (m : Mark) (t : Transfer) (region : Region) → HasTaken stream t.device taken s → pending s k ≡ Some t → IsTrue (is_inward t.direction) → t.owner ≡ Some p → stores_in s p t t.class ≡ Some region
    → is_refused (step s (Finish k) m).1 ≡ false → StoresOne taken s (step s (Finish k) m).0 (step s (Finish k) m).1 t region

abbrev pub DonesStoreTaken : Type 0
DonesStoreTaken = (s : State) → IsOrderly s → StoresTaken s

-- the byte is byte j of the payload of the record with which these bytes begin
pub record IsPayloadByte (bytes : List ℕ) (j : ℕ) (byte : List ℕ) : Type 0 where
  pub header : List ℕ
  pub behind : List ℕ
  pub whole : length header ≡ size_of_header header
  pub split : bytes ≡ header ++ behind
  pub within : j < len_in header
  pub is : byte ≡ part j 1 behind

-- what a receive step of device d landed at place x of region or orphan k is the byte, for that place of a weak input's
-- buffer, of the record that comes behind those that were taken
pub record LandedFromNext (stream : List ℕ) (taken : List Taken) (s : State) (d k x : ℕ) (byte : List ℕ) : Type 0 where
  pub landed : Landed s d k x byte
  pub left : List ℕ
  pub next : Consists stream taken left
  pub payload : IsPayloadByte left (x - landed.input.offset) byte

-- a receive step in this state stores no bytes in regions and orphans but those of the record that comes next
abbrev pub LandsNext : State → Type 0
LandsNext s = (stream : List ℕ) (taken : List Taken) (d n : ℕ) (m : Mark) (k x : ℕ) → HasTaken stream d taken s
    → (bytes_of (step s (Recv d n) m).0 k x 1 ≡ bytes_of s k x 1) ⊎ LandedFromNext stream taken s d k x (bytes_of (step s (Recv d n) m).0 k x 1)

-- So the bytes that land in the region of a weak input on an early device are those of one record too.
abbrev pub LandedBytesAreNext : Type 0
LandedBytesAreNext = (s : State) → IsOrderly s → LandsNext s
