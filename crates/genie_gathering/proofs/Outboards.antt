-- What a step of an outboard device leaves, case by case.
use Rattle.std.proofs.Common.{◌≡◌, ℕ, ◌+◌, ◌-◌, ◌<◌, ◌≤◌, ◌^◌, Bool, true, false, not, List, [], ◌∷◌, ◌++◌, refl, sym, ap, subst, arith, rules, ◌∙◌, length, set, eqb-true, eq-eqb, inl, inr, cond}
use Rattle.std.specs.Prelude.{Option, Some, None, IfSome, IsTrue, AllPairs, find, is_some, is_none, nat_le, ◌==◌, ◌&&◌, if◌then◌else◌}
use Rattle.std.specs.Option.{option_map}
use Rattle.std.specs.Io.KnownBytes.{Consumes}
use Rattle.std.proofs.lemmas.Bool.{ne_eqb}
use Rattle.genie_base.specs.Configs.{most}
use Rattle.genie_base.specs.Headers.{is_valid_header, is_whole_header}
use Rattle.genie_base.specs.Events.{mark_of}
use Rattle.genie_base.specs.declared.reply.Mark.TheVariants as mark
use Rattle.genie_base.specs.Posted.{meets, first}
use Rattle.genie_base.specs.declared.config.Kind.{Kind}
use Rattle.genie_base.specs.declared.config.Kind.TheVariants.{Early, Pooled, Outboard}
use Rattle.genie_base.specs.declared.event.Event.TheVariants.{Recv}
use Rattle.genie_base.specs.declared.reply.Reply.{Reply}
use Rattle.genie_base.specs.declared.reply.Reply.TheVariants as reply
use Rattle.genie_base.specs.declared.semantics.Direction.{Direction}
use Rattle.genie_base.specs.declared.semantics.Direction.TheVariants.{Outward, Inward}
use Rattle.genie_demux.specs.declared.input.Input.{Input}
use Rattle.genie_demux.specs.Posted.{address, number_of as posted_number}
use Rattle.genie_device.specs.Buffers.{arrived_count}
use Rattle.genie_device.specs.Device.{DeviceView, IsReading, after_header, handle_of, header_of, is_full, is_outboard}
use Rattle.genie_device.specs.Kept.{IsAllowed}
use Rattle.genie_device.specs.declared.present.Present.{Present}
use Rattle.genie_device.specs.declared.steps.HeaderEnd.{HeaderEnd}
use Rattle.genie_device.specs.declared.steps.HeaderEnd.TheVariants.{More, Whole, Bad, Faulted}
use Rattle.genie_host.specs.Host.{HostView, OnlyHandle}
use Rattle.genie_host.specs.OnlyHandle.{only_refl}
use Rattle.genie_orderly.specs.Orderly.{IsTransfer, IsUnderWay, KeepsDepth, ReceivesForInput, has_phase, on_its_way}
use Rattle.genie_wire.specs.Headers.{IsWhole, header_in}
use Rattle.genie_wire.specs.declared.header.Header.{Header}
use Rattle.genie_model.specs.Pending.{arrived, is_early, is_inward, is_posted, is_ready, is_outboard as outboard_kind}
use Rattle.genie_model.specs.Receiving.{recv, receive, receive_record, is_busy, is_between_records, no_bytes as no_header}
use Rattle.genie_model.specs.Refusing.{refuse}
use Rattle.genie_model.specs.State as flat
use Rattle.genie_model.specs.Tables.{entry}
use Rattle.genie_model.specs.Lemmas.Lists.{Has, find_has, all_has, has_map, entry_same, pairs_head, pairs_tail}
use Rattle.genie_model.specs.declared.phase.Phase.{Phase}
use Rattle.genie_model.specs.declared.phase.Phase.TheVariants.{Queued, Posted, Moving, Ready}
use Rattle.genie_kernel.specs.declared.kernel.Kernel.{Kernel}
use Rattle.genie_kernel.specs.declared.transfer.Transfer.{Transfer}
use Rattle.genie_kernel.specs.Calls.{has_number, number_of, first_waiting, receiver, has_arrived}
use Rattle.genie_kernel.specs.Devices.{device_view, datagram_view}
use Rattle.genie_kernel.specs.Good.{IsGood}
use Rattle.genie_kernel.specs.Handles.{HasHandles}
use Rattle.genie_kernel.specs.Matching.{posted_as}
use Rattle.genie_kernel.specs.Planned.{is_early_device}
use Rattle.genie_kernel.specs.Steps.{Steps, StaysOrderly, DeviceCause, bytes_over}
use Rattle.genie_kernel.specs.Transfers.{is_outboard_device, transfer_view}
use Rattle.genie_kernel.specs.View.{Bytes, state_of, outline, no_bytes}
use Rattle.genie_kernel.specs.Lemmas.DeviceViews.{entry_view}
use Rattle.genie_kernel.specs.Lemmas.Tidying.{tidy_view}
use Rattle.genie_gathering.specs.Delivering.{IsPending}
use Rattle.genie_gathering.specs.Gathering.{GathersHeader, GathersPayload, IsBetween, MayGather}
use Rattle.genie_gathering.specs.Laws.{GatheringLaws}
use Rattle.genie_gathering.specs.Outboard.{IsWithin, IsWithinAt, IsOutside, IsOutsideAt}
use Rattle.genie_gathering.specs.Payload.{MayMove}
use Rattle.genie_gathering.specs.Receiving.{Receives, input_of}
use Rattle.genie_gathering.proofs.Accepted.{may_receive, reading}
use Rattle.genie_gathering.proofs.Buffers.{HasBuffer, HasBegun, begun_datagram, has_begun, has_buffer_of}
use Rattle.genie_gathering.proofs.Bytes.{append_none}
use Rattle.genie_gathering.proofs.Counting.{as_many_arrived}
use Rattle.genie_gathering.proofs.Flat.{whole_true}
use Rattle.genie_gathering.proofs.Gathered.{IsMet, Meets, found_posted}
use Rattle.genie_gathering.proofs.Good.{configured, outboard_unpooled}
use Rattle.genie_gathering.proofs.Header.{gathered_device, gathered_reply, gathers, header_receives, is_over, judged_whole}
use Rattle.genie_gathering.proofs.Kept.{kept_alone}
use Rattle.genie_gathering.proofs.Marking.{plain_steps, rest_same}
use Rattle.genie_gathering.proofs.Received.{payload_receives}
use Rattle.genie_gathering.proofs.Steps.{moves_within, unmoved_within, moves_begun}
use Rattle.genie_gathering.proofs.Views.{set_same}

phase_posted : (p : Phase) → is_posted p ≡ true → p ≡ Posted
phase_posted Queued e = absurd (cc)
phase_posted Posted e = refl
phase_posted Moving e = absurd (cc)
phase_posted Ready e = absurd (cc)

-- only an input is posted
posted_inward : (d : Direction) (p : Phase) → p ≡ Posted → IsTrue (has_phase d p) → d ≡ Inward
posted_inward Outward p e h = let clash : false ≡ true = subst (λ q. IsTrue (has_phase Outward q)) e h in absurd (cc)
posted_inward Inward p e h = refl

phased : (k : Kernel) (t : Transfer) → IsGood k → Has t k.transfers → IsTrue (has_phase t.dir t.phase)
phased k t g i =
    let tv : Transfer → flat.Transfer = transfer_view (no_bytes k.config.page).seen.kept_bytes k.devices k.pools (first_waiting k.transfers) in
    let h : IsTransfer (tv t) = all_has IsTransfer (outline k).transfers g.orderly.calls (tv t) (has_map tv t k.transfers i) in h.phase

no_some : (o : Option ℕ) → is_some o ≡ false → o ≡ None
no_some None e = refl
no_some (Some x) e = absurd (cc)

unready : (d : ℕ) (t : Transfer) → is_ready t.phase ≡ false → has_arrived d t ≡ false
unready d t e = ap (λ b. is_inward t.dir && b && (t.dev == d)) e ∙ by (is_inward t.dir)
  where
    by : (a : Bool) → (a && false && (t.dev == d)) ≡ false
    by true = refl
    by false = refl

-- one that isn't ready has no buffer
no_buffer : (k : Kernel) (t : Transfer) → IsGood k → Has t k.transfers → is_ready t.phase ≡ false → t.buffer ≡ None
no_buffer k t g i e =
    let h : is_some t.buffer ≡ (has_arrived t.dev t && not (is_early_device (entry k.devices t.dev))) = all_has (λ (u : Transfer). is_some u.buffer ≡ (has_arrived u.dev u && not (is_early_device (entry k.devices u.dev)))) k.transfers g.arrived.inputs t i in
    no_some t.buffer (h ∙ ap (λ b. b && not (is_early_device (entry k.devices t.dev))) (unready t.dev t e))

-- a transfer is found by its number
found_numbered : (ts : List Transfer) (t : Transfer) → AllPairs (λ (x y : Transfer). x.id.0 < y.id.0) ts → Has t ts → find (has_number (number_of t)) ts ≡ Some t
found_numbered [] t pairs i = absurd i
found_numbered (x ∷ ts) t pairs (inl e) = ap (λ b. cond b (Some x) (find (has_number (number_of t)) ts)) (eq-eqb x.id.0 t.id.0 (ap number_of e)) ∙ ap Some e
found_numbered (x ∷ ts) t pairs (inr i) =
    let less : x.id.0 < t.id.0 = pairs_head (λ (y z : Transfer). y.id.0 < z.id.0) x ts pairs t i in
    ap (λ b. cond b (Some x) (find (has_number (number_of t)) ts)) (ne_eqb x.id.0 t.id.0 (λ e. absurd (omega (arith, less, e)))) ∙ found_numbered ts t (pairs_tail (λ (y z : Transfer). y.id.0 < z.id.0) x ts pairs) i

some_found : (o : Option Transfer) (n : ℕ) → option_map number_of o ≡ Some n → (t : Transfer) × (o ≡ Some t) × (number_of t ≡ n)
some_found None n e = absurd (cc)
some_found (Some t) n e = (t, refl, cc)

is_met : GatheringLaws → (k : Kernel) (d n port : ℕ) (flow : Option ℕ) → IsGood k → posted_number (first address d port flow k.posted) ≡ Some n → IsMet k d n
is_met laws k d n port flow g met =
    let found = some_found (find (λ (t : Transfer). is_posted t.phase && meets d port flow (address (posted_as t))) k.transfers) n (sym (found_posted (λ (i : Input). meets d port flow (address i)) k.transfers) ∙ sym (ap (λ ps. posted_number (first address d port flow ps)) g.posted.listed) ∙ met) in
    let t : Transfer = found.0 in
    let has = find_has (λ (u : Transfer). is_posted u.phase && meets d port flow (address (posted_as u))) k.transfers t found.1 in
    let both : (is_posted t.phase && meets d port flow (address (posted_as t))) ≡ true = has.1 in
    let is : is_posted t.phase ≡ true = grind (arith, rules, both) in
    let posted : t.phase ≡ Posted = phase_posted t.phase is in
    record {
      transfer = t;
      found = subst (λ m. find (has_number m) k.transfers ≡ Some t) found.2 (found_numbered k.transfers t (laws.rise k g).order has.0);
      dev = eqb-true t.dev d (grind (arith, rules, both));
      inward = posted_inward t.dir t.phase posted (phased k t g has.0);
      unbuffered = no_buffer k t g has.0 (ap is_ready posted);
      posted = posted;
    }

met_at : GatheringLaws → (k : Kernel) (d port : ℕ) (flow : Option ℕ) → IsGood k → (o : Option ℕ) → posted_number (first address d port flow k.posted) ≡ o → Meets k d o
met_at laws k d port flow g None e = tt
met_at laws k d port flow g (Some n) e = is_met laws k d n port flow g e

-- the input that a record meets is pending
pub are_pending : GatheringLaws → (k : Kernel) (d port : ℕ) (flow : Option ℕ) → IsGood k → IsPending (posted_number (first address d port flow k.posted)) k.transfers
are_pending laws k d port flow g = by (posted_number (first address d port flow k.posted)) refl
  where
    by : (o : Option ℕ) → posted_number (first address d port flow k.posted) ≡ o → IsPending o k.transfers
    by None e = tt
    by (Some n) e = ap is_some (is_met laws k d n port flow g e).found

under_way : (k : Kernel) (d : ℕ) (x : flat.Device) (y : flat.Datagram) → x.present ≡ Some y → ReceivesForInput (outline k) d (Some x) → y.moved < y.len
under_way k d x y is h =
    let u : IsUnderWay (outline k) d y = subst (λ o. IfSome o (IsUnderWay (outline k) d)) is h in u.left

-- some of a present datagram's payload is still to come
some_left : (k : Kernel) (d : ℕ) (v : DeviceView) (g : Present) → IsGood k → entry k.devices d ≡ Some v → v.present ≡ Some g → g.moved < g.header.len
some_left k d v g good there present =
    let x : flat.Device = device_view (no_bytes k.config.page).seen.kept_bytes [] [] (entry k.pools d) (receiver k.transfers d) v in
    let at : entry (outline k).devices d ≡ Some x = entry_view (no_bytes k.config.page).seen.kept_bytes (λ j. []) (λ j. []) k.pools (receiver k.transfers) k.devices d ∙ ap (option_map (device_view (no_bytes k.config.page).seen.kept_bytes [] [] (entry k.pools d) (receiver k.transfers d))) there in
    under_way k d x (datagram_view (no_bytes k.config.page).seen.kept_bytes v (entry k.pools d) (receiver k.transfers d) g) (ap (option_map (datagram_view (no_bytes k.config.page).seen.kept_bytes v (entry k.pools d) (receiver k.transfers d))) present) (subst (ReceivesForInput (outline k) d) at (good.orderly.matched d))

the_datagram : (o : Option Present) (h : Header) → header_of o ≡ Some h → (g : Present) × (o ≡ Some g) × (g.header ≡ h)
the_datagram None h e = absurd (cc)
the_datagram (Some g) h e = (g, refl, cc)

nothing : (o : Option (List ℕ)) → Consumes o o []
nothing None = tt
nothing (Some x) = refl

same_device : (a e : DeviceView) → Some a ≡ Some e → a ≡ e
same_device a e s = cc

-- a step that goes on with the datagram that is present
pub within_receives : GatheringLaws → (k new : Kernel) (d n : ℕ) (h : Header) (old now : HostView) (r : Reply) → IsGood k → refuse (outline k) (Recv d n) ≡ None → IsWithinAt h (entry k.devices d) → GathersPayload d h 0 n old now k new r → Receives d n old now k new r
within_receives laws k new d n h old now r good accepted at x =
    let v : DeviceView = x.moves.before in
    let there : entry k.devices d ≡ Some v = x.moves.there in
    let is : IsWithin h v = subst (IsWithinAt h) there at in
    let its = the_datagram v.present h is.present in
    let g : Present = its.0 in
    let present : v.present ≡ Some g = its.1 in
    let allowed : IsAllowed v.config.kind v.limit g = subst (λ o. IfSome o (IsAllowed v.config.kind v.limit)) present x.moves.moves.allowed in
    let b : HasBuffer v g = has_buffer_of v g is.kind present x.moves.moves.allowed x.moves.moves.buffers in
    let all : n - 0 ≡ n = omega arith in
    let y : GathersPayload d g.header 0 (n - 0) old now k new r = subst (λ j. GathersPayload d g.header 0 j old now k new r) (sym all) (subst (λ z. GathersPayload d z 0 n old now k new r) (sym its.2) x) in
    let left = some_left k d v g good there present in
    let o : Option ℕ = posted_number (first address d g.header.port g.header.flow k.posted) in
    payload_receives laws k k new d n 0 b.buffer v v g b.held [] old old now r good accepted there b.fills o (met_at laws k d g.header.port g.header.flow good o refl) refl (omega arith) (may_receive k d n accepted).some refl allowed.moved (omega (arith, left)) refl
    (only_refl (handle_of v.config.input) old) (nothing (old.handle (handle_of v.config.input)).bytes) refl (λ i. record k { devices = sym (set_same k.devices d v there) i }) y
    (λ c bytes rest place. (option_map (datagram_view c.seen.kept_bytes v (entry k.pools d) (receiver k.transfers d)) v.present, moves_within k c d b.buffer v g b.held bytes rest good there is.fine b.fills place))
    (λ c bytes rest place none. unmoved_within k c d b.buffer v g b.held bytes rest there b.fills place none)

some_taken : (gathered taken : List ℕ) → is_whole_header gathered ≡ false → IsWhole (gathered ++ taken) → 0 < length taken
some_taken gathered [] short whole = let is : is_whole_header gathered ≡ true = whole_true gathered (subst IsWhole (append_none gathered) whole) in let clash : false ≡ true = sym short ∙ is in absurd (cc)
some_taken gathered (x ∷ taken) short whole = omega arith

pub between_of : (v : DeviceView) → IsOutside v → IsBetween v
between_of v is = record { absent = is.absent; good = is.fine; free = is.free }

-- a step whose header is whole
pub record_receives : GatheringLaws → (k mid new : Kernel) (d n moved : ℕ) (h : Header) (old middle now : HostView) (r : Reply) → IsGood k → refuse (outline k) (Recv d n) ≡ None → IsOutsideAt (entry k.devices d) → GathersHeader d n old middle k.devices mid.devices moved (Whole h) → mid ≡ record k { devices = mid.devices } → GathersPayload d h moved (n - moved) middle now mid new r → Receives d n old now k new r
record_receives laws k mid new d n moved h old middle now r good accepted at x mid_is y =
    let v : DeviceView = x.before in
    let there : entry k.devices d ≡ Some v = x.there in
    let is : IsOutside v = subst IsOutsideAt there at in
    let taken : List ℕ = x.receives.taken in
    let takes = x.receives.takes in
    let size : length taken ≡ moved = takes.size in
    let all : List ℕ = v.gathered ++ taken in
    let whole : IsWhole all = takes.ends.0 in
    let judge = judged_whole (is_valid_header v.limit all) h all takes.ends.1 in
    let hh : Header = header_in all in
    let valid : is_valid_header (most v.config.kind k.config.page) all ≡ true = subst (λ m. is_valid_header m all ≡ true) (configured k d v good there).1 judge.0 in
    let v1 : DeviceView = after_header (Whole hh) all v in
    let after_is : x.after ≡ v1 = x.receives.device ∙ ap (λ z. after_header (Whole z) all v) judge.1 in
    let g : Present = begun_datagram hh v in
    let devices : mid.devices ≡ set k.devices d (Some v1) = x.only ∙ ap (λ z. set k.devices d (Some z)) after_is in
    let here : entry mid.devices d ≡ Some v1 = ap (λ ds. entry ds d) devices ∙ entry_same k.devices d v (Some v1) there in
    let before_is : y.moves.before ≡ v1 = same_device y.moves.before v1 (sym y.moves.there ∙ here) in
    let allowed : IsAllowed v.config.kind v.limit g = subst (λ (z : DeviceView). IfSome z.present (IsAllowed z.config.kind z.limit)) before_is y.moves.moves.allowed in
    let b : HasBegun hh all v = has_begun hh all v is.kind allowed in
    let y1 : GathersPayload d g.header (length taken) (n - length taken) middle now mid new r = subst (λ j. GathersPayload d hh j (n - j) middle now mid new r) (sym size) (subst (λ z. GathersPayload d z moved (n - moved) middle now mid new r) judge.1 y) in
    let within : length taken ≤ n = subst (λ j. j ≤ n) (sym size) takes.within in
    let some : 0 < length taken = some_taken v.gathered taken x.short whole in
    let o : Option ℕ = posted_number (first address d g.header.port g.header.flow k.posted) in
    payload_receives laws k mid new d n (length taken) b.buffer v v1 g [] taken old middle now r good accepted there b.fills o (met_at laws k d g.header.port g.header.flow good o refl) refl within (may_receive k d n accepted).some refl (omega arith) (omega (arith, some)) refl
    takes.only takes.bytes takes.cause (mid_is ∙ (λ i. record k { devices = devices i })) y1
    (λ c bytes rest place. (option_map (datagram_view c.seen.kept_bytes v (entry k.pools d) (receiver k.transfers d)) v.present, moves_begun k c d v taken bytes rest (device_view c.seen.kept_bytes (taken ++ (bytes ++ rest)) (c.sents d) (entry k.pools d) (receiver k.transfers d) v) (gathers k c d n v taken (bytes ++ rest) good there is.kind (between_of v is) within place) refl is.kind whole valid))
    (λ c bytes rest place none. absurd (clash (length taken) (length bytes) some none))
  where
    clash : (a e : ℕ) → 0 < a → (a + e == 0) ≡ true → ⊥
    clash a e l z = let none : a + e ≡ 0 = eqb-true (a + e) 0 z in absurd (omega (arith, l, none))

-- the header isn't whole and valid
over_device : (end : HeaderEnd) (bytes : List ℕ) (v : DeviceView) → is_over end ≡ true → after_header end bytes v ≡ gathered_device end bytes v
over_device More bytes v e = refl
over_device (Whole h) bytes v e = absurd (cc)
over_device Bad bytes v e = refl
over_device Faulted bytes v e = refl

pub short_receives : StaysOrderly → (k : Kernel) (d n : ℕ) (old now : HostView) (devices : List (Option DeviceView)) (moved : ℕ) (end : HeaderEnd) → IsGood k → refuse (outline k) (Recv d n) ≡ None → IsOutsideAt (entry k.devices d) → is_over end ≡ true → GathersHeader d n old now k.devices devices moved end → Receives d n old now k (record k { devices = devices }) (gathered_reply end moved)
short_receives law k d n old now devices moved end good accepted at over x =
    let v : DeviceView = x.before in
    let is : IsOutside v = subst IsOutsideAt x.there at in
    let w : devices ≡ set k.devices d (Some (gathered_device end (v.gathered ++ x.receives.taken) v)) = x.only ∙ ap (λ u. set k.devices d (Some u)) (x.receives.device ∙ over_device end (v.gathered ++ x.receives.taken) v over) in
    subst (λ ds. Receives d n old now k (record k { devices = ds }) (gathered_reply end moved)) (sym w)
    (header_receives law k d n v x.receives.taken moved end old now good accepted x.there is.kind (between_of v is) over x.receives.takes)

-- a step that changes nothing
still_receives : (k : Kernel) (d n : ℕ) (host : HostView) (r : Reply) → IsGood k → mark_of r ≡ mark.NoFault → ((b : Bytes) → recv (state_of k b) d n ≡ (state_of k b, r)) → Receives d n host host k k r
still_receives k d n host r good plain same = record {
  good = good;
  kept = kept_alone k k good refl refl;
  config = refl;
  numbers = refl;
  memory = refl;
  taken = [];
  ended = false;
  only = only_refl (input_of k.config d) host;
  bytes = nothing (host.handle (input_of k.config d)).bytes;
  at_end = λ e. absurd (cc);
  cause = subst (λ x. DeviceCause x (host.handle (input_of k.config d)).faults (host.handle (input_of k.config d)).faults) (sym plain) refl;
  steps = λ slots rests sents rest place may.
      let b : Bytes = bytes_over k.memory slots rests sents in
      subst (λ (c : Bytes). Steps (state_of k b) (Recv d n) (state_of k c) r) (sym (rest_same d rest b place))
      (plain_steps (state_of k b) (state_of k b) (Recv d n) r plain (tidy_view k b) (sym (same b)));
}

at_device : (k : Kernel) (b : Bytes) (d : ℕ) (v : DeviceView) → entry k.devices d ≡ Some v → entry (state_of k b).devices d ≡ Some (device_view b.seen.kept_bytes (b.rests d) (b.sents d) (entry k.pools d) (receiver k.transfers d) v)
at_device k b d v there = entry_view b.seen.kept_bytes b.rests b.sents k.pools (receiver k.transfers) k.devices d ∙ ap (option_map (device_view b.seen.kept_bytes (b.rests d) (b.sents d) (entry k.pools d) (receiver k.transfers d))) there

-- the device is bad
recv_of_bad : (s : flat.State) (d n : ℕ) (v : flat.Device) → entry s.devices d ≡ Some v → v.is_bad ≡ true → recv s d n ≡ (s, reply.Bad)
recv_of_bad s d n v there bad = ap (receive s d n) there ∙ ap (λ b. if b then (s, reply.Bad) else (if is_busy s d v then (s, reply.Busy) else receive_record s d n v v.present)) bad

bad_receives : (k : Kernel) (d n : ℕ) (v : DeviceView) (host : HostView) → IsGood k → entry k.devices d ≡ Some v → v.is_bad ≡ true → Receives d n host host k k reply.Bad
bad_receives k d n v host good there bad = still_receives k d n host reply.Bad good refl (λ b. recv_of_bad (state_of k b) d n (device_view b.seen.kept_bytes (b.rests d) (b.sents d) (entry k.pools d) (receiver k.transfers d) v) (at_device k b d v there) bad)

-- or as many datagrams wait as it has buffers
recv_of_busy : (s : flat.State) (d n : ℕ) (v : flat.Device) → entry s.devices d ≡ Some v → v.is_bad ≡ false → is_busy s d v ≡ true → recv s d n ≡ (s, reply.Busy)
recv_of_busy s d n v there fine busy = ap (receive s d n) there
    ∙ ap (λ b. if b then (s, reply.Bad) else (if is_busy s d v then (s, reply.Busy) else receive_record s d n v v.present)) fine
    ∙ ap (λ b. if b then (s, reply.Busy) else receive_record s d n v v.present) busy

full_is : (o : Bool) (depth count : ℕ) → (o && nat_le depth count) ≡ true → depth ≤ count
full_is true depth count h = grind (arith, rules, h)
full_is false depth count h = absurd (cc)

-- how many datagrams are on their way
abbrev way : Bool → ℕ
way c = if c then 0 else 1

busy_is : (k : Kernel) (b : Bytes) (d : ℕ) (v : DeviceView) → IsGood k → entry k.devices d ≡ Some v → v.config.kind ≡ Outboard → v.present ≡ None → is_full v ≡ true → is_busy (state_of k b) d (device_view b.seen.kept_bytes (b.rests d) (b.sents d) (entry k.pools d) (receiver k.transfers d) v) ≡ true
busy_is k b d v g there kind absent full =
    let z : Bytes = no_bytes k.config.page in
    let x : flat.Device = device_view b.seen.kept_bytes (b.rests d) (b.sents d) (entry k.pools d) (receiver k.transfers d) v in
    let y : flat.Device = device_view z.seen.kept_bytes (z.rests d) (z.sents d) (entry k.pools d) (receiver k.transfers d) v in
    let late : is_early v.config.kind ≡ false = ap is_early kind in
    let unpooled = outboard_unpooled k d v g there kind in
    let kept : KeepsDepth (arrived (outline k) d) (Some y) = subst (KeepsDepth (arrived (outline k) d)) (at_device k z d v there) (g.orderly.depths d) in
    let bound : arrived (outline k) d + on_its_way y ≤ v.config.depth = kept late in
    let count_then : arrived (outline k) d ≡ arrived_count v.buffers = as_many_arrived k z d v g there kind unpooled in
    let count : arrived (state_of k b) d ≡ arrived_count v.buffers = as_many_arrived k b d v g there kind unpooled in
    let most : v.config.depth ≤ arrived_count v.buffers = full_is (is_outboard v.config.kind) v.config.depth (arrived_count v.buffers) full in
    let on_way : on_its_way y ≡ 0 = omega (arith, bound, count_then, most) in
    let between_then : is_between_records y ≡ (no_header v.gathered && true) = ap (λ p. no_header v.gathered && is_none (option_map (datagram_view z.seen.kept_bytes v (entry k.pools d) (receiver k.transfers d)) p)) absent in
    let between_now : is_between_records x ≡ (no_header v.gathered && true) = ap (λ p. no_header v.gathered && is_none (option_map (datagram_view b.seen.kept_bytes v (entry k.pools d) (receiver k.transfers d)) p)) absent in
    let between : is_between_records x ≡ true = between_now ∙ sym between_then ∙ none_on_way (is_between_records y) on_way in
    let equal : (arrived (state_of k b) d == v.config.depth) ≡ true = eq-eqb (arrived (state_of k b) d) v.config.depth (omega (arith, count, count_then, bound, most)) in
    λ i. between i && not (late i) && equal i
  where
    none_on_way : (c : Bool) → way c ≡ 0 → c ≡ true
    none_on_way true e = refl
    none_on_way false e = absurd (omega (arith, e))

busy_receives : (k : Kernel) (d n : ℕ) (v : DeviceView) (host : HostView) → IsGood k → entry k.devices d ≡ Some v → v.config.kind ≡ Outboard → v.is_bad ≡ false → v.present ≡ None → is_full v ≡ true → Receives d n host host k k reply.Busy
busy_receives k d n v host good there kind fine absent full = still_receives k d n host reply.Busy good refl (λ b. recv_of_busy (state_of k b) d n (device_view b.seen.kept_bytes (b.rests d) (b.sents d) (entry k.pools d) (receiver k.transfers d) v) (at_device k b d v there) fine (busy_is k b d v good there kind absent full))

-- which device it is
kind_is : (kind : Kind) → outboard_kind kind ≡ true → kind ≡ Outboard
kind_is Early e = absurd (cc)
kind_is Pooled e = absurd (cc)
kind_is Outboard e = refl

pub is_present : (o : Option DeviceView) → is_outboard_device o ≡ true → is_some o ≡ true
is_present None e = absurd (cc)
is_present (Some v) e = refl

outboard_there : (o : Option DeviceView) → is_outboard_device o ≡ true → (v : DeviceView) × (o ≡ Some v) × (v.config.kind ≡ Outboard)
outboard_there None e = absurd (cc)
outboard_there (Some v) e = (v, refl, kind_is v.config.kind e)

no_datagram : (o : Option Present) → header_of o ≡ None → o ≡ None
no_datagram None e = refl
no_datagram (Some g) e = absurd (cc)

pub outboard_within : (o : Option DeviceView) (h : Header) (p : Option Header) (bad : Bool) → is_outboard_device o ≡ true → ((v : DeviceView) → o ≡ Some v → bad ≡ v.is_bad) → bad ≡ false → ((v : DeviceView) → o ≡ Some v → p ≡ header_of v.present) → p ≡ Some h → IsWithinAt h o
outboard_within None h p bad e is fine found at = absurd (cc)
outboard_within (Some v) h p bad e is fine found at = record { kind = kind_is v.config.kind e; fine = sym (is v refl) ∙ fine; present = sym (found v refl) ∙ at }

pub outboard_outside : (o : Option DeviceView) (p : Option Header) (bad full : Bool) → is_outboard_device o ≡ true → ((v : DeviceView) → o ≡ Some v → bad ≡ v.is_bad) → bad ≡ false → ((v : DeviceView) → o ≡ Some v → p ≡ header_of v.present) → p ≡ None → ((v : DeviceView) → o ≡ Some v → full ≡ is_full v) → full ≡ false → IsOutsideAt o
outboard_outside None p bad full e is fine found at fills free = absurd (cc)
outboard_outside (Some v) p bad full e is fine found at fills free = record { kind = kind_is v.config.kind e; fine = sym (is v refl) ∙ fine; absent = no_datagram v.present (sym (found v refl) ∙ at); free = sym (fills v refl) ∙ free }

pub bad_received : (k : Kernel) (d n : ℕ) (host : HostView) (bad : Bool) → IsGood k → is_outboard_device (entry k.devices d) ≡ true → ((v : DeviceView) → entry k.devices d ≡ Some v → bad ≡ v.is_bad) → bad ≡ true → Receives d n host host k k reply.Bad
bad_received k d n host bad g outboard is marked =
    let v = outboard_there (entry k.devices d) outboard in
    bad_receives k d n v.0 host g v.1 (sym (is v.0 v.1) ∙ marked)

pub busy_received : (k : Kernel) (d n : ℕ) (host : HostView) (p : Option Header) (bad full : Bool) → IsGood k → is_outboard_device (entry k.devices d) ≡ true → ((v : DeviceView) → entry k.devices d ≡ Some v → bad ≡ v.is_bad) → bad ≡ false → ((v : DeviceView) → entry k.devices d ≡ Some v → p ≡ header_of v.present) → p ≡ None → ((v : DeviceView) → entry k.devices d ≡ Some v → full ≡ is_full v) → full ≡ true → Receives d n host host k k reply.Busy
busy_received k d n host p bad full g outboard is fine found at fills all =
    let v = outboard_there (entry k.devices d) outboard in
    busy_receives k d n v.0 host g v.1 v.2 (sym (is v.0 v.1) ∙ fine) (no_datagram v.0.present (sym (found v.0 v.1) ∙ at)) (sym (fills v.0 v.1) ∙ all)

-- budgets are small
pub fits_budget : (k : Kernel) (d n : ℕ) → refuse (outline k) (Recv d n) ≡ None → 0 + n < 2 ^ 32
fits_budget k d n h = let most = (may_receive k d n h).most in omega (arith, most)

pub fits_rest : (k : Kernel) (d n m : ℕ) → refuse (outline k) (Recv d n) ≡ None → m ≤ n → m + (n - m) < 2 ^ 32
fits_rest k d n m h l = let most = (may_receive k d n h).most in omega (arith, most, l)

header_there : (o : Option Present) (h : Header) → header_of o ≡ Some h → is_some o ≡ true
header_there None h e = absurd (cc)
header_there (Some g) h e = refl

-- a device with a datagram may move its payload
pub may_move : (k : Kernel) (d n : ℕ) (h : Header) (host : HostView) → IsGood k → refuse (outline k) (Recv d n) ≡ None → HasHandles k.config host → IsWithinAt h (entry k.devices d) → MayMove (entry k.devices d) host
may_move k d n h host g accepted handles at = by (entry k.devices d) refl at
  where
    by : (o : Option DeviceView) → entry k.devices d ≡ o → IsWithinAt h o → MayMove o host
    by None e is = absurd is
    by (Some v) e is = record { outboard = ap is_outboard is.kind; present = header_there v.present h is.present; reading = reading k d n v host g accepted handles e }

-- one without may gather its header
pub may_gather : (k : Kernel) (d n : ℕ) (host : HostView) → IsGood k → refuse (outline k) (Recv d n) ≡ None → HasHandles k.config host → IsOutsideAt (entry k.devices d) → MayGather (entry k.devices d) host
may_gather k d n host g accepted handles at = by (entry k.devices d) refl at
  where
    by : (o : Option DeviceView) → entry k.devices d ≡ o → IsOutsideAt o → MayGather o host
    by None e is = absurd is
    by (Some v) e is = (between_of v is, reading k d n v host g accepted handles e)

-- and move the payload of the datagram that its header has begun
pub may_move_begun : (k : Kernel) (d n moved : ℕ) (old now : HostView) (devices : List (Option DeviceView)) (h : Header) → IsGood k → refuse (outline k) (Recv d n) ≡ None → HasHandles k.config old → IsOutsideAt (entry k.devices d) → GathersHeader d n old now k.devices devices moved (Whole h) → MayMove (entry devices d) now
may_move_begun k d n moved old now devices h g accepted handles at x =
    let is : IsOutside x.before = subst IsOutsideAt x.there at in
    let here : entry devices d ≡ Some x.after = ap (λ ds. entry ds d) x.only ∙ entry_same k.devices d x.before (Some x.after) x.there in
    let present : is_some x.after.present ≡ true = ap (λ (v : DeviceView). is_some v.present) x.receives.device in
    let outboard : is_outboard x.after.config.kind ≡ true = ap (λ (v : DeviceView). is_outboard v.config.kind) x.receives.device ∙ ap is_outboard is.kind in
    let config : x.after.config.input ≡ x.before.config.input = ap (λ (v : DeviceView). v.config.input) x.receives.device in
    let open_before = reading k d n x.before old g accepted handles x.there in
    subst (λ o. MayMove o now) (sym here) (record { outboard = outboard; present = present; reading = subst (λ i. IsReading i now) (sym config) (still x.before.config.input open_before x.receives.takes.only) })
  where
    still : (i : Option ℕ) → IsReading i old → OnlyHandle (handle_of i) old now → IsReading i now
    still None is only = absurd is
    still (Some a) is only = only.mode ∙ is
