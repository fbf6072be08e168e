-- What the calls of an early device's step ask, and what it leaves.
use Rattle.std.proofs.Common.{◌≡◌, ℕ, ◌+◌, ◌-◌, ◌<◌, ◌^◌, true, false, List, refl, sym, ap, subst, arith, ◌∙◌}
use Rattle.std.specs.Prelude.{Bool, Option, Some, None, find, is_some}
use Rattle.std.specs.Option.{option_map}
use Rattle.genie_base.specs.Posted.{first}
use Rattle.genie_base.specs.declared.event.Event.TheVariants.{Recv}
use Rattle.genie_base.specs.declared.reply.Reply.{Reply}
use Rattle.genie_base.specs.declared.reply.Reply.TheVariants as reply
use Rattle.genie_demux.specs.Posted.{address, without, number_of as posted_number}
use Rattle.genie_device.specs.Device.{DeviceView, IsReading, handle_of}
use Rattle.genie_device.specs.declared.present.Present.{Present}
use Rattle.genie_device.specs.declared.steps.HeaderEnd.TheVariants.{Whole}
use Rattle.genie_host.specs.Host.{HostView, OnlyHandle}
use Rattle.genie_wire.specs.declared.header.Header.{Header}
use Rattle.genie_model.specs.Pending.{is_early}
use Rattle.genie_model.specs.Refusing.{refuse}
use Rattle.genie_model.specs.Tables.{entry}
use Rattle.genie_model.specs.Lemmas.Lists.{entry_same}
use Rattle.genie_kernel.specs.declared.kernel.Kernel.{Kernel}
use Rattle.genie_kernel.specs.declared.transfer.Transfer.{Transfer}
use Rattle.genie_kernel.specs.Calls.{has_number, number_of, receiver}
use Rattle.genie_kernel.specs.Good.{IsGood}
use Rattle.genie_kernel.specs.Handles.{HasHandles}
use Rattle.genie_kernel.specs.Planned.{is_early_device}
use Rattle.genie_kernel.specs.View.{outline}
use Rattle.genie_changes.specs.Working.{at_work}
use Rattle.genie_receiving.specs.Early.{IsWithin, IsWithinAt, IsOutside, IsOutsideAt, len_of}
use Rattle.genie_receiving.specs.Gathering.{GathersHeader, HasDatagram, MayGather}
use Rattle.genie_receiving.specs.Landing.{HasPlan, IsInward, MayLand, MayLandIn, MayMove, ReceivesInto}
use Rattle.genie_receiving.specs.Laws.{ReceiveLaws}
use Rattle.genie_receiving.specs.Receiving.{Receives, IsReceived}
use Rattle.genie_receiving.specs.Lemmas.Accepted.{may_receive, named, reading}
use Rattle.genie_receiving.proofs.EarlySteps.{bad_receives, between_of}
use Rattle.genie_receiving.specs.Lemmas.Inputs.{IsReceiver, IsMet, is_receiver, is_met, some_found}
use Rattle.genie_receiving.proofs.Begun.{begun_kernel, work_begun}
use Rattle.genie_receiving.specs.Lemmas.Landed.{LandingsShow, within_receives}
use Rattle.genie_receiving.proofs.Matching.{matching_receives}
use Rattle.genie_receiving.specs.Lemmas.Ready.{IsEarlyInput, can_land, plan_of}
use Rattle.genie_receiving.specs.Lemmas.Telling.{is_received}
use Rattle.genie_receiving.proofs.Showing.{input_shows, begun_shows}

-- budgets are small, and so is what has landed
pub fits_room : (k : Kernel) (d n landed : ℕ) → refuse (outline k) (Recv d n) ≡ None → landed < 2 ^ 63 → landed + n < 2 ^ 64
fits_room k d n landed h l = let most = (may_receive k d n h).most in omega (arith, l, most)

pub fits_budget : (k : Kernel) (d n : ℕ) → refuse (outline k) (Recv d n) ≡ None → 0 + n < 2 ^ 32
fits_budget k d n h = let most = (may_receive k d n h).most in omega (arith, most)

is_there : (o : Option Present) (len : ℕ) → option_map len_of o ≡ Some len → is_some o ≡ true
is_there None len e = absurd (cc)
is_there (Some g) len e = refl

-- a device with a datagram may move its payload
pub may_move : (k : Kernel) (d n len : ℕ) (host : HostView) → IsGood k → refuse (outline k) (Recv d n) ≡ None → HasHandles k.config host → IsWithinAt len (entry k.devices d) → MayMove (entry k.devices d) host
may_move k d n len host g h handles at = by (entry k.devices d) refl at
  where
    by : (o : Option DeviceView) → entry k.devices d ≡ o → IsWithinAt len o → MayMove o host
    by None e is = absurd is
    by (Some v) e is = (is_there v.present len is.present, reading k d n v host g h handles e)

-- one without may gather its header
pub may_gather : (k : Kernel) (d n : ℕ) (host : HostView) → IsGood k → refuse (outline k) (Recv d n) ≡ None → HasHandles k.config host → IsOutsideAt (entry k.devices d) → MayGather (entry k.devices d) host
may_gather k d n host g h handles at = by (entry k.devices d) refl at
  where
    by : (o : Option DeviceView) → entry k.devices d ≡ o → IsOutsideAt o → MayGather o host
    by None e is = absurd is
    by (Some v) e is = (between_of v is, reading k d n v host g h handles e)

-- bytes may land in the frames of an early device's input
may_land : (k : Kernel) (d n : ℕ) (v : DeviceView) (t : Transfer) → IsGood k → IsEarlyInput k d v t → find (has_number n) k.transfers ≡ Some t → HasPlan (find (has_number n) k.transfers) × MayLand k.memory.frames (find (has_number n) k.transfers)
may_land k d n v t g h found =
    let x = plan_of k d v t g h in (
      subst HasPlan (sym found) (subst IsInward (sym x.is) tt),
      subst (MayLand k.memory.frames) (sym found) (subst (MayLandIn k.memory.frames) (sym x.is) (can_land k d v t x.plan g h x.is x.range)),
    )

device_of : (k : Kernel) (d len : ℕ) → IsWithinAt len (entry k.devices d) → (v : DeviceView) × (entry k.devices d ≡ Some v) × IsWithin len v
device_of k d len at = by (entry k.devices d) refl at
  where
    by : (o : Option DeviceView) → entry k.devices d ≡ o → IsWithinAt len o → (v : DeviceView) × (entry k.devices d ≡ Some v) × IsWithin len v
    by None e is = absurd is
    by (Some v) e is = (v, e, is)

outside_of : (k : Kernel) (d : ℕ) → IsOutsideAt (entry k.devices d) → (v : DeviceView) × (entry k.devices d ≡ Some v) × IsOutside v
outside_of k d at = by (entry k.devices d) refl at
  where
    by : (o : Option DeviceView) → entry k.devices d ≡ o → IsOutsideAt o → (v : DeviceView) × (entry k.devices d ≡ Some v) × IsOutside v
    by None e is = absurd is
    by (Some v) e is = (v, e, is)

-- the receiver of the device
pub may_land_within : ReceiveLaws → (k : Kernel) (d len id : ℕ) → IsGood k → IsWithinAt len (entry k.devices d) → option_map number_of (receiver k.transfers d) ≡ Some id → HasPlan (find (has_number id) k.transfers) × MayLand k.memory.frames (find (has_number id) k.transfers)
may_land_within laws k d len id g at is =
    let r = some_found (receiver k.transfers d) id is in
    let v = device_of k d len at in
    let q : IsReceiver k d v.0 r.0 = is_receiver laws k d v.0 r.0 g v.1 v.2.early r.1 in
    may_land k d id v.0 r.0 g q.early (subst (λ n. find (has_number n) k.transfers ≡ Some r.0) r.2 q.input.found)

-- the input that its record meets
pub may_land_met : ReceiveLaws → (k : Kernel) (d id : ℕ) (h : Header) → IsGood k → IsOutsideAt (entry k.devices d) → posted_number (first address d h.port h.flow k.posted) ≡ Some id → HasPlan (find (has_number id) k.transfers) × MayLand k.memory.frames (find (has_number id) k.transfers)
may_land_met laws k d id h g at is =
    let v = outside_of k d at in
    let m : IsMet k d id v.0 = is_met laws k d id h.port h.flow v.0 g v.1 v.2.early is in
    may_land k d id v.0 m.transfer g m.early m.input.found

-- it may move the payload of the datagram that its header has begun
pub may_move_begun : (k : Kernel) (d n moved : ℕ) (old now : HostView) (devices : List (Option DeviceView)) (h : Header) → IsGood k → refuse (outline k) (Recv d n) ≡ None → HasHandles k.config old → GathersHeader d n old now k.devices devices moved (Whole h) → MayMove (entry devices d) now
may_move_begun k d n moved old now devices h g accepted handles x =
    let here : entry devices d ≡ Some x.after = ap (λ ds. entry ds d) x.only ∙ entry_same k.devices d x.before (Some x.after) x.there in
    let present : is_some x.after.present ≡ true = ap (λ (v : DeviceView). is_some v.present) x.receives.device in
    let config : x.after.config.input ≡ x.before.config.input = ap (λ (v : DeviceView). v.config.input) x.receives.device in
    let open_before = reading k d n x.before old g accepted handles x.there in
    subst (λ o. MayMove o now) (sym here) (present, subst (λ i. IsReading i now) (sym config) (still x.before.config.input open_before x.receives.takes.only))
  where
    still : (i : Option ℕ) → IsReading i old → OnlyHandle (handle_of i) old now → IsReading i now
    still None is only = absurd is
    still (Some a) is only = only.mode ∙ is

pub has_begun : (k : Kernel) (d n moved : ℕ) (old now : HostView) (devices : List (Option DeviceView)) (h : Header) → GathersHeader d n old now k.devices devices moved (Whole h) → HasDatagram (entry devices d)
has_begun k d n moved old now devices h x =
    let here : entry devices d ≡ Some x.after = ap (λ ds. entry ds d) x.only ∙ entry_same k.devices d x.before (Some x.after) x.there in
    subst HasDatagram (sym here) (ap (λ (v : DeviceView). is_some v.present) x.receives.device)

-- the datagram goes on to its input
pub rest_receives : ReceiveLaws → (k new : Kernel) (d n len id : ℕ) (old now : HostView) (r : Reply) → IsGood k → refuse (outline k) (Recv d n) ≡ None → IsWithinAt len (entry k.devices d) → option_map number_of (receiver k.transfers d) ≡ Some id → ReceivesInto d id len 0 n old now k new r → Receives d n old now k new r
rest_receives laws k new d n len id old now r g accepted at is x =
    let q = some_found (receiver k.transfers d) id is in
    let v = device_of k d len at in
    let t : Transfer = q.0 in
    let i : IsReceiver k d v.0 t = is_receiver laws k d v.0 t g v.1 v.2.early q.1 in
    within_receives laws k new d n len t old now r g accepted at q.1 (λ y stored. input_shows laws k d v.0 t y g i.early i.input (omega (arith, stored))) (subst (λ m. ReceivesInto d m len 0 n old now k new r) (sym q.2) x)

-- the record has met an input
pub record_receives : ReceiveLaws → (k mid new : Kernel) (d n id moved : ℕ) (h : Header) (old middle now : HostView) (r : Reply) → IsGood k → refuse (outline k) (Recv d n) ≡ None → IsOutsideAt (entry k.devices d) → GathersHeader d n old middle k.devices mid.devices moved (Whole h) → mid ≡ record k { devices = mid.devices; posted = mid.posted } → mid.posted ≡ without id k.posted → posted_number (first address d h.port h.flow k.posted) ≡ Some id
    → ReceivesInto d id h.len moved (n - moved) middle now mid new r → Receives d n old now k new r
record_receives laws k mid new d n id moved h old middle now r g accepted at gathered mid_is posted met x =
    let v = outside_of k d at in
    let m : IsMet k d id v.0 = is_met laws k d id h.port h.flow v.0 g v.1 v.2.early met in
    matching_receives laws k mid new d n id moved h old middle now r g accepted at gathered mid_is posted met
    (λ t found unstored.
    let same : m.transfer ≡ t = same_some m.transfer t (sym m.input.found ∙ found) in
    subst (λ (u : Transfer). LandingsShow (begun_kernel k id u) (at_work (work_begun u) u) 0) same
    (begun_shows laws k d id v.0 m.transfer g m.early m.input m.unstored)) x
  where
    same_some : (a e : Transfer) → Some a ≡ Some e → a ≡ e
    same_some a e s = cc

pub no_receiver : (k : Kernel) (d : ℕ) → option_map number_of (receiver k.transfers d) ≡ None → receiver k.transfers d ≡ None
no_receiver k d e = by (receiver k.transfers d) e
  where
    by : (o : Option Transfer) → option_map number_of o ≡ None → o ≡ None
    by None h = refl
    by (Some t) h = absurd (cc)

early_there : (o : Option DeviceView) → is_early_device o ≡ true → (v : DeviceView) × (o ≡ Some v) × (is_early v.config.kind ≡ true)
early_there None e = absurd (cc)
early_there (Some v) e = (v, refl, e)

pub is_present : (o : Option DeviceView) → is_early_device o ≡ true → is_some o ≡ true
is_present None e = absurd (cc)
is_present (Some v) e = refl

-- which device it is
pub early_within : (o : Option DeviceView) (len : ℕ) (l : Option ℕ) (bad : Bool) → is_early_device o ≡ true → ((v : DeviceView) → o ≡ Some v → bad ≡ v.is_bad) → bad ≡ false → ((v : DeviceView) → o ≡ Some v → l ≡ option_map len_of v.present) → l ≡ Some len → IsWithinAt len o
early_within None len l bad e is fine found at = absurd (cc)
early_within (Some v) len l bad e is fine found at = record { early = e; fine = sym (is v refl) ∙ fine; present = sym (found v refl) ∙ at }

no_datagram : (o : Option Present) → option_map len_of o ≡ None → o ≡ None
no_datagram None e = refl
no_datagram (Some g) e = absurd (cc)

pub early_outside : (o : Option DeviceView) (l : Option ℕ) (bad : Bool) → is_early_device o ≡ true → ((v : DeviceView) → o ≡ Some v → bad ≡ v.is_bad) → bad ≡ false → ((v : DeviceView) → o ≡ Some v → l ≡ option_map len_of v.present) → l ≡ None → IsOutsideAt o
early_outside None l bad e is fine found at = absurd (cc)
early_outside (Some v) l bad e is fine found at = record { early = e; fine = sym (is v refl) ∙ fine; absent = no_datagram v.present (sym (found v refl) ∙ at) }

-- a bad device
pub bad_received : (k : Kernel) (d n : ℕ) (host : HostView) (bad : Bool) → IsGood k → refuse (outline k) (Recv d n) ≡ None → HasHandles k.config host → is_early_device (entry k.devices d) ≡ true → ((v : DeviceView) → entry k.devices d ≡ Some v → bad ≡ v.is_bad) → bad ≡ true → IsReceived d n host host k k reply.Bad
bad_received k d n host bad g accepted handles early is marked =
    let v = early_there (entry k.devices d) early in
    is_received d n host host k k reply.Bad g accepted handles (named k d n accepted) (bad_receives k d n v.0 host g v.1 (sym (is v.0 v.1) ∙ marked))

-- and every other one
pub received : (k new : Kernel) (d n : ℕ) (old now : HostView) (r : Reply) → IsGood k → refuse (outline k) (Recv d n) ≡ None → HasHandles k.config old → Receives d n old now k new r → IsReceived d n old now k new r
received k new d n old now r g accepted handles x = is_received d n old now k new r g accepted handles (named k d n accepted) x
