-- Laws of one transfer at another point of its work: its phase, its buffer, what is stored of it, and its note.
use Rattle.std.specs.Prelude.{◌≡◌, ◌≢◌, ℕ, ◌<◌, ◌≤◌, Bool, true, false, not, ◌&&◌, List, [], find, AllPairs, Option, None, Some, IfSome, is_some}
use Rattle.genie_base.specs.declared.reply.Note.{Note}
use Rattle.genie_demux.specs.Posted as demux
use Rattle.genie_demux.specs.declared.input.Input.{Input}
use Rattle.genie_device.specs.Device.{DeviceView}
use Rattle.genie_device.specs.declared.present.Present.{Present}
use Rattle.genie_frame.specs.declared.frame.Counts.{Counts}
use Rattle.genie_frame.specs.declared.frame.Owner.{Owner}
use Rattle.genie_input.specs.Pools.{PoolState}
use Rattle.genie_object.specs.declared.memory.Memory.{Memory}
use Rattle.genie_region.specs.declared.region.Region.{Region}
use Rattle.genie_model.specs.declared.phase.Phase.{Phase}
use Rattle.genie_model.specs.Pending.{is_queued, is_moving, is_posted, is_numbered}
use Rattle.genie_model.specs.State as flat
use Rattle.genie_model.specs.Tables.{change, entry}
use Rattle.genie_kernel.specs.declared.transfer.Transfer.{Transfer}
use Rattle.genie_kernel.specs.Calls.{has_number, first_waiting, receiver, has_arrived}
use Rattle.genie_kernel.specs.Counted.{AreCounted}
use Rattle.genie_kernel.specs.Held.{AreHeldPages}
use Rattle.genie_kernel.specs.Matching.{ArePosted, AreSending, AreReceiving, HaveArrived, IsSending, IsStored, has_waiting, has_filling, is_filling_pool, has_buffer, room_in}
use Rattle.genie_kernel.specs.Orphans.{orphans_view}
use Rattle.genie_kernel.specs.Owners.{AreOwned}
use Rattle.genie_kernel.specs.Planned.{ArePlanned, FitDevices, is_early_device}
use Rattle.genie_kernel.specs.Transfers.{buffer_bytes, is_outboard_device, sent_by, staged_by, transfer_view, transfers_view}

-- where the work on a transfer is
pub record Work : Type 0 where
  pub phase : Phase
  pub buffer : Option ℕ
  pub stored : ℕ
  pub note : Note

-- the same call there
abbrev pub at_work : Work → Transfer → Transfer
at_work w t = record t { phase = w.phase; buffer = w.buffer; stored = w.stored; note = w.note }

-- the first transfer that passes the test there
abbrev pub worked : (Transfer → Bool) → Work → List Transfer → List Transfer
worked p w ts = change p (at_work w) ts

-- orphans show the same
abbrev pub OrphansWorked : Type 0
OrphansWorked = (page : ℕ) (s : ℕ → List ℕ) (regions : List Region) (p : Transfer → Bool) (w : Work) (ts : List Transfer) → orphans_view page s regions (worked p w ts) ≡ orphans_view page s regions ts

-- the transfers are seen with that one changed, where it doesn't wait for its device before or afterwards
abbrev pub TransfersWorked : Type 0
TransfersWorked = (s : ℕ → List ℕ) (devices : List (Option DeviceView)) (pools : List (Option PoolState)) (n : ℕ) (w : Work) (t : Transfer) (f : flat.Transfer → flat.Transfer) (ts : List Transfer) → find (has_number n) ts ≡ Some t → is_queued t.phase ≡ false → is_queued w.phase ≡ false
    → transfer_view s devices pools (first_waiting ts) (at_work w t) ≡ f (transfer_view s devices pools (first_waiting ts) t)
    → transfers_view s devices pools (worked (has_number n) w ts) ≡ change (is_numbered n) f (transfers_view s devices pools ts)

-- loans, wires, owners, held pages and plans are as before
abbrev pub CountedWorked : Type 0
CountedWorked = (p : Transfer → Bool) (w : Work) (ts : List Transfer) (counts : List Counts) (pools : List (Option PoolState)) → AreCounted counts ts pools → AreCounted counts (worked p w ts) pools

abbrev pub OwnedWorked : Type 0
OwnedWorked = (p : Transfer → Bool) (w : Work) (ts : List Transfer) (owners : List Owner) (pools : List (Option PoolState)) → AreOwned owners ts pools → AreOwned owners (worked p w ts) pools

abbrev pub HeldWorked : Type 0
HeldWorked = (p : Transfer → Bool) (w : Work) (ts : List Transfer) (page : ℕ) (m : Memory) (regions : List Region) → AreHeldPages page m regions ts → AreHeldPages page m regions (worked p w ts)

abbrev pub PlannedWorked : Type 0
PlannedWorked = (p : Transfer → Bool) (w : Work) (ts : List Transfer) (page : ℕ) (owners : List Owner) (devices : List (Option DeviceView)) → ArePlanned page owners devices ts → ArePlanned page owners devices (worked p w ts)

abbrev pub FittingWorked : Type 0
FittingWorked = (p : Transfer → Bool) (w : Work) (ts : List Transfer) (devices : List (Option DeviceView)) → FitDevices devices ts → FitDevices devices (worked p w ts)

-- the posted inputs, where it isn't posted before or afterwards, and where it is posted no more
abbrev pub PostedWorked : Type 0
PostedWorked = (p : Transfer → Bool) (w : Work) (t : Transfer) (ts : List Transfer) (posted : List Input) → find p ts ≡ Some t → is_posted t.phase ≡ false → is_posted w.phase ≡ false → ArePosted posted ts → ArePosted posted (worked p w ts)

abbrev pub PostedTaken : Type 0
PostedTaken = (n : ℕ) (w : Work) (ts : List Transfer) (posted : List Input) → AllPairs (λ (x y : Transfer). x.id.0 < y.id.0) ts → is_posted w.phase ≡ false → ArePosted posted ts → ArePosted (demux.without n posted) (worked (has_number n) w ts)

-- all other devices send and receive as before
abbrev pub OthersStay : ℕ → List (Option DeviceView) → List (Option DeviceView) → Type 0
OthersStay d old new = (j : ℕ) → j ≢ d → entry new j ≡ entry old j

abbrev pub SendingWorked : Type 0
SendingWorked = (p : Transfer → Bool) (w : Work) (t : Transfer) (ts : List Transfer) (old new : List (Option DeviceView)) → find p ts ≡ Some t → OthersStay t.dev old new
    → IfSome (entry new t.dev) (λ (v : DeviceView). IsSending v (first_waiting (worked p w ts) t.dev)) → AreSending old ts → AreSending new (worked p w ts)

abbrev pub ReceivingWorked : Type 0
ReceivingWorked = (p : Transfer → Bool) (w : Work) (t : Transfer) (ts : List Transfer) (old new : List (Option DeviceView)) → find p ts ≡ Some t → OthersStay t.dev old new
    → IfSome (entry new t.dev) (λ (v : DeviceView). IfSome v.present (λ (g : Present). IfSome (receiver (worked p w ts) t.dev) (IsStored g))) → AreReceiving old ts → AreReceiving new (worked p w ts)

-- where it doesn't wait for its device, or isn't received, before or afterwards, these search as before
abbrev pub FirstWorked : Type 0
FirstWorked = (p : Transfer → Bool) (w : Work) (t : Transfer) (ts : List Transfer) (d : ℕ) → find p ts ≡ Some t → is_queued t.phase ≡ false → is_queued w.phase ≡ false → first_waiting (worked p w ts) d ≡ first_waiting ts d

abbrev pub ReceiverWorked : Type 0
ReceiverWorked = (p : Transfer → Bool) (w : Work) (t : Transfer) (ts : List Transfer) (d : ℕ) → find p ts ≡ Some t → is_moving t.phase ≡ false → is_moving w.phase ≡ false → receiver (worked p w ts) d ≡ receiver ts d

-- the transfer, which had no buffer, has one now if it has arrived; every other buffer waits as before
pub record GetsBuffer (w : Work) (t : Transfer) (old new : List (Option DeviceView)) (old_pools new_pools : List (Option PoolState)) : Type 0 where
  pub had : t.buffer ≡ None
  pub arrives : is_some w.buffer ≡ (has_arrived t.dev (at_work w t) && not (is_early_device (entry new t.dev)))
  pub stored : IfSome w.buffer (λ b. w.stored ≤ room_in (entry new t.dev) (entry new_pools t.dev) b)
  pub others : (d b : ℕ) → has_buffer d b (at_work w t) ≡ false → has_waiting (entry new d) (entry new_pools d) b ≡ has_waiting (entry old d) (entry old_pools d) b
  pub was : (d b : ℕ) → has_buffer d b (at_work w t) ≡ true → has_waiting (entry old d) (entry old_pools d) b ≡ false
  pub waits : (d b : ℕ) → has_buffer d b (at_work w t) ≡ true → has_waiting (entry new d) (entry new_pools d) b ≡ true
  pub room : (d b : ℕ) → has_waiting (entry old d) (entry old_pools d) b ≡ true → room_in (entry new d) (entry new_pools d) b ≡ room_in (entry old d) (entry old_pools d) b
  pub early : (d : ℕ) → is_early_device (entry new d) ≡ is_early_device (entry old d)
  pub filling : (d : ℕ) → has_filling (entry new_pools d) ≡ is_filling_pool (entry new d) (entry new_pools d)

-- the datagrams that wait are those of all transfers that have arrived
abbrev pub ArrivedWorked : Type 0
ArrivedWorked = (p : Transfer → Bool) (w : Work) (t : Transfer) (ts : List Transfer) (old new : List (Option DeviceView)) (old_pools new_pools : List (Option PoolState)) → find p ts ≡ Some t → GetsBuffer w t old new old_pools new_pools → HaveArrived old old_pools ts → HaveArrived new new_pools (worked p w ts)

-- a device has ended a record: it has staged and sent nothing of the next one, its buffers show what they showed, and no
-- other device has changed
pub record EndsRecord (d : ℕ) (old new : List (Option DeviceView)) (pools : List (Option PoolState)) : Type 0 where
  pub others : OthersStay d old new
  pub unstaged : staged_by (entry new d) ≡ []
  pub unsent : sent_by (entry new d) ≡ 0
  pub outboard : is_outboard_device (entry new d) ≡ is_outboard_device (entry old d)
  pub buffers : (s : ℕ → List ℕ) (b : ℕ) → buffer_bytes s (entry new d) (entry pools d) b ≡ buffer_bytes s (entry old d) (entry pools d) b

-- the transfers are seen with that one changed whose record is ended
abbrev pub TransfersSent : Type 0
TransfersSent = (s : ℕ → List ℕ) (old new : List (Option DeviceView)) (pools : List (Option PoolState)) (n : ℕ) (w : Work) (t : Transfer) (f : flat.Transfer → flat.Transfer) (ts : List Transfer) → AllPairs (λ (x y : Transfer). x.id.0 < y.id.0) ts → find (has_number n) ts ≡ Some t → first_waiting ts t.dev ≡ Some t → EndsRecord t.dev old new pools
    → transfer_view s new pools (first_waiting (worked (has_number n) w ts)) (at_work w t) ≡ f (transfer_view s old pools (first_waiting ts) t)
    → transfers_view s new pools (worked (has_number n) w ts) ≡ change (is_numbered n) f (transfers_view s old pools ts)
