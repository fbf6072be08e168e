-- Laws of what is lent for each transfer, and of what devices do for it, with one transfer less and with one more.
use Rattle.std.specs.Prelude.{◌≡◌, ℕ, ◌<◌, Bool, true, false, List, [], ◌∷◌, ◌++◌, find, AllPairs, All, slice_index_or, Option, None, Some}
use Rattle.genie_demux.specs.Posted as demux
use Rattle.genie_demux.specs.declared.input.Input.{Input}
use Rattle.genie_device.specs.Device.{DeviceView}
use Rattle.genie_frame.specs.declared.frame.Owner.{Owner}
use Rattle.genie_frame.specs.declared.frame.Owner.TheVariants.{Free, System}
use Rattle.genie_input.specs.Pools.{PoolState}
use Rattle.genie_model.specs.Pending.{is_queued, is_moving, is_ready, is_posted}
use Rattle.genie_model.specs.Tables.{without, entry}
use Rattle.genie_kernel.specs.declared.transfer.Transfer.{Transfer}
use Rattle.genie_kernel.specs.Calls.{has_number}
use Rattle.genie_kernel.specs.Matching.{ArePosted, AreSending, AreReceiving, HaveArrived, posted_as, has_buffer, has_waiting, has_filling, is_filling_pool, room_in}
use Rattle.genie_kernel.specs.Planned.{ArePlanned, FitDevices, FitsDevice, Lends, is_early_device}

-- each transfer's own frames stay its own
abbrev pub OwnFramesStay : List Owner → List Owner → List Transfer → Type 0
OwnFramesStay old new transfers = All (λ (t : Transfer). (f : ℕ) → slice_index_or old f Free ≡ System t.id.0 → slice_index_or new f Free ≡ System t.id.0) transfers

-- what is lent for each, over other owners
abbrev pub PlannedStay : Type 0
PlannedStay = (page : ℕ) (old new : List Owner) (devices : List (Option DeviceView)) (ts : List Transfer) → OwnFramesStay old new ts → ArePlanned page old devices ts → ArePlanned page new devices ts

abbrev pub PlannedLess : Type 0
PlannedLess = (page : ℕ) (owners : List Owner) (devices : List (Option DeviceView)) (p : Transfer → Bool) (ts : List Transfer) → ArePlanned page owners devices ts → ArePlanned page owners devices (without p ts)

abbrev pub PlannedMore : Type 0
PlannedMore = (page : ℕ) (owners : List Owner) (devices : List (Option DeviceView)) (t : Transfer) (ts : List Transfer) → Lends page owners (is_early_device (entry devices t.dev)) t t.dir → ArePlanned page owners devices ts → ArePlanned page owners devices (ts ++ t ∷ [])

-- the devices of the transfers are there, and take their buffers' lengths
abbrev pub FittingLess : Type 0
FittingLess = (devices : List (Option DeviceView)) (p : Transfer → Bool) (ts : List Transfer) → FitDevices devices ts → FitDevices devices (without p ts)

abbrev pub FittingMore : Type 0
FittingMore = (devices : List (Option DeviceView)) (t : Transfer) (ts : List Transfer) → FitsDevice t.len (entry devices t.dev) → FitDevices devices ts → FitDevices devices (ts ++ t ∷ [])

-- the posted inputs without one of them, and beside a transfer that isn't one
abbrev pub PostedLess : Type 0
PostedLess = (n : ℕ) (posted : List Input) (ts : List Transfer) → AllPairs (λ (x y : Transfer). x.id.0 < y.id.0) ts → ArePosted posted ts → ArePosted (demux.without n posted) (without (has_number n) ts)

abbrev pub PostedBesideLess : Type 0
PostedBesideLess = (p : Transfer → Bool) (t : Transfer) (posted : List Input) (ts : List Transfer) → find p ts ≡ Some t → is_posted t.phase ≡ false → ArePosted posted ts → ArePosted posted (without p ts)

-- with one more, and beside a transfer more that isn't one
abbrev pub PostedMore : Type 0
PostedMore = (t : Transfer) (posted : List Input) (ts : List Transfer) → is_posted t.phase ≡ true → t.stored ≡ 0 → ArePosted posted ts → ArePosted (posted ++ posted_as t ∷ []) (ts ++ t ∷ [])

abbrev pub PostedBesideMore : Type 0
PostedBesideMore = (t : Transfer) (posted : List Input) (ts : List Transfer) → is_posted t.phase ≡ false → ArePosted posted ts → ArePosted posted (ts ++ t ∷ [])

-- each device sends for the first output that waits, without a transfer that doesn't wait, and with one more of any kind
abbrev pub SendingLess : Type 0
SendingLess = (devices : List (Option DeviceView)) (p : Transfer → Bool) (t : Transfer) (ts : List Transfer) → find p ts ≡ Some t → is_queued t.phase ≡ false → AreSending devices ts → AreSending devices (without p ts)

abbrev pub SendingMore : Type 0
SendingMore = (devices : List (Option DeviceView)) (t : Transfer) (ts : List Transfer) → AreSending devices ts → AreSending devices (ts ++ t ∷ [])

-- what has come of a datagram is stored, without a transfer that no device moves a datagram into, and with one more
abbrev pub ReceivingLess : Type 0
ReceivingLess = (devices : List (Option DeviceView)) (p : Transfer → Bool) (t : Transfer) (ts : List Transfer) → find p ts ≡ Some t → is_moving t.phase ≡ false → AreReceiving devices ts → AreReceiving devices (without p ts)

abbrev pub ReceivingMore : Type 0
ReceivingMore = (devices : List (Option DeviceView)) (t : Transfer) (ts : List Transfer) → is_moving t.phase ≡ false → AreReceiving devices ts → AreReceiving devices (ts ++ t ∷ [])

-- the buffer that a transfer had waits for nothing any more, and every other one as before
pub record GivesUpBuffer (t : Transfer) (old new : List (Option DeviceView)) (old_pools new_pools : List (Option PoolState)) : Type 0 where
  pub others : (d b : ℕ) → has_buffer d b t ≡ false → has_waiting (entry new d) (entry new_pools d) b ≡ has_waiting (entry old d) (entry old_pools d) b
  pub freed : (d b : ℕ) → has_buffer d b t ≡ true → has_waiting (entry new d) (entry new_pools d) b ≡ false
  pub room : (d b : ℕ) → has_waiting (entry new d) (entry new_pools d) b ≡ true → room_in (entry new d) (entry new_pools d) b ≡ room_in (entry old d) (entry old_pools d) b
  pub early : (d : ℕ) → is_early_device (entry new d) ≡ is_early_device (entry old d)
  pub filling : (d : ℕ) → has_filling (entry new_pools d) ≡ is_filling_pool (entry new d) (entry new_pools d)

-- the datagrams that wait, without that of a transfer, beside a transfer less that has no buffer, and with one more
abbrev pub ArrivedLess : Type 0
ArrivedLess = (p : Transfer → Bool) (t : Transfer) (ts : List Transfer) (old new : List (Option DeviceView)) (old_pools new_pools : List (Option PoolState)) → find p ts ≡ Some t → GivesUpBuffer t old new old_pools new_pools → HaveArrived old old_pools ts → HaveArrived new new_pools (without p ts)

abbrev pub ArrivedBesideLess : Type 0
ArrivedBesideLess = (devices : List (Option DeviceView)) (pools : List (Option PoolState)) (p : Transfer → Bool) (t : Transfer) (ts : List Transfer) → find p ts ≡ Some t → t.buffer ≡ None → HaveArrived devices pools ts → HaveArrived devices pools (without p ts)

abbrev pub ArrivedMore : Type 0
ArrivedMore = (devices : List (Option DeviceView)) (pools : List (Option PoolState)) (t : Transfer) (ts : List Transfer) → t.buffer ≡ None → is_ready t.phase ≡ false → HaveArrived devices pools ts → HaveArrived devices pools (ts ++ t ∷ [])
