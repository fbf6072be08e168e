-- What a step of an early device leaves, case by case.
use Rattle.std.proofs.Common.{◌≡◌, ℕ, ◌+◌, ◌-◌, ◌<◌, ◌≤◌, Bool, true, false, List, [], ◌++◌, refl, sym, ap, subst, arith, ◌∙◌, length, set}
use Rattle.std.specs.Prelude.{Option, Some, None, IfSome, replicate, is_some, ◌==◌, ◌&&◌, if◌then◌else◌}
use Rattle.std.specs.Option.{option_map}
use Rattle.std.specs.Io.KnownBytes.{Consumes, IsAtEnd}
use Rattle.std.proofs.lemmas.List.{length-replicate}
use Rattle.genie_base.specs.Events.{mark_of}
use Rattle.genie_base.specs.Posted.{first}
use Rattle.genie_base.specs.declared.event.Event.TheVariants.{Recv}
use Rattle.genie_base.specs.declared.reply.Reply.{Reply}
use Rattle.genie_base.specs.declared.reply.Reply.TheVariants as reply
use Rattle.genie_demux.specs.declared.input.Input.{Input}
use Rattle.genie_input.specs.Pools.{PoolState}
use Rattle.genie_demux.specs.Posted.{address, number_of as posted_number}
use Rattle.genie_device.specs.Device.{DeviceView, after_header, finished, handle_of}
use Rattle.genie_device.specs.declared.present.Present.{Present}
use Rattle.genie_device.specs.declared.steps.HeaderEnd.{HeaderEnd}
use Rattle.genie_device.specs.declared.steps.HeaderEnd.TheVariants.{More, Whole, Bad, Faulted}
use Rattle.genie_host.specs.Host.{HostView, OnlyHandle}
use Rattle.genie_host.specs.OnlyHandle.{only_refl}
use Rattle.genie_orderly.specs.Orderly.{IsOrderly}
use Rattle.genie_wire.specs.declared.header.Header.{Header}
use Rattle.genie_model.specs.Pending.{is_early}
use Rattle.genie_model.specs.Receiving.{recv, receive, receive_record, is_busy}
use Rattle.genie_model.specs.Refusing.{refuse}
use Rattle.genie_model.specs.State as flat
use Rattle.genie_model.specs.Tables.{entry}
use Rattle.genie_model.specs.Lemmas.Lists.{entry_same}
use Rattle.genie_kernel.specs.declared.kernel.Kernel.{Kernel}
use Rattle.genie_kernel.specs.declared.transfer.Transfer.{Transfer}
use Rattle.genie_kernel.specs.Calls.{receiver}
use Rattle.genie_kernel.specs.Devices.{device_view}
use Rattle.genie_kernel.specs.Good.{IsGood}
use Rattle.genie_kernel.specs.Matching.{IsStored}
use Rattle.genie_kernel.specs.Steps.{Steps, StaysOrderly, DeviceCause, bytes_over}
use Rattle.genie_kernel.specs.View.{Bytes, state_of, outline}
use Rattle.genie_kernel.specs.Lemmas.DeviceViews.{entry_view}
use Rattle.genie_kernel.specs.Lemmas.Tidying.{tidy_view}
use Rattle.genie_receiving.specs.Course.{course_of}
use Rattle.genie_receiving.specs.declared.course.Course.{Course}
use Rattle.genie_receiving.specs.Devices.{with_device, with_rest, KeepsPayload}
use Rattle.genie_receiving.specs.Early.{IsWithin, IsWithinAt, IsOutside, IsOutsideAt}
use Rattle.genie_receiving.specs.Gathering.{IsBetween, GathersHeader, DropsRecord, dropped}
use Rattle.genie_receiving.specs.Landing.{SkipsPayload}
use Rattle.genie_receiving.specs.Receiving.{Receives, input_of}
use Rattle.genie_receiving.specs.Lemmas.Accepted.{may_receive}
use Rattle.genie_receiving.specs.Lemmas.Bytes.{append_none}
use Rattle.genie_receiving.specs.Lemmas.Gathered.{gathered_device, gathered_reply, gathered_receives, early_kind, handle_is, IsSkipped}
use Rattle.genie_receiving.specs.Lemmas.Good.{device_good, early_unpooled}
use Rattle.genie_receiving.specs.Lemmas.Kept.{kept_alone}
use Rattle.genie_receiving.specs.Lemmas.Landed.{HasMoved, caused_body, ending_body, has_moved, replied, the_datagram, unbuffered}
use Rattle.genie_receiving.specs.Lemmas.Marking.{plain_steps, rest_same, zeros_with, zeros_rest, orderly_behind}
use Rattle.genie_receiving.specs.Lemmas.Matched.{EndsPayload, after_moving, moving_keeps}
use Rattle.genie_receiving.proofs.Begun.{beginning}
use Rattle.genie_receiving.proofs.Matching.{begun_device, early_free, early_kept, not_full, set_again}
use Rattle.genie_receiving.proofs.Skipping.{skipping_steps}
use Rattle.genie_receiving.specs.Lemmas.Within.{body_reply}

-- the device is bad
recv_of_bad : (s : flat.State) (d n : ℕ) (v : flat.Device) → entry s.devices d ≡ Some v → v.is_bad ≡ true → recv s d n ≡ (s, reply.Bad)
recv_of_bad s d n v there bad = ap (receive s d n) there ∙ ap (λ b. if b then (s, reply.Bad) else (if is_busy s d v then (s, reply.Busy) else receive_record s d n v v.present)) bad

pub bad_receives : (k : Kernel) (d n : ℕ) (v : DeviceView) (host : HostView) → IsGood k → entry k.devices d ≡ Some v → v.is_bad ≡ true → Receives d n host host k k reply.Bad
bad_receives k d n v host good there bad = record {
  good = good;
  kept = kept_alone k k good refl refl;
  config = refl;
  numbers = refl;
  memory = refl;
  landed = omega arith;
  taken = [];
  ended = false;
  only = only_refl (input_of k.config d) host;
  bytes = nothing (host.handle (input_of k.config d)).bytes;
  at_end = λ e. absurd (cc);
  cause = refl;
  steps = λ slots rests sents rest paged is left.
      let b : Bytes = bytes_over k.memory slots rests sents in
      let s : flat.State = state_of k b in
      let at : entry s.devices d ≡ Some (device_view b.seen.kept_bytes (rests d) (sents d) (entry k.pools d) (receiver k.transfers d) v) = entry_view b.seen.kept_bytes rests sents k.pools (receiver k.transfers) k.devices d ∙ ap (option_map (device_view b.seen.kept_bytes (rests d) (sents d) (entry k.pools d) (receiver k.transfers d))) there in
      subst (λ (c : Bytes). Steps s (Recv d n) (state_of k c) reply.Bad) (sym (rest_same d rest b is))
      (plain_steps s s (Recv d n) reply.Bad refl (tidy_view k b) (sym (recv_of_bad s d n (device_view b.seen.kept_bytes (rests d) (sents d) (entry k.pools d) (receiver k.transfers d) v) at bad)));
}
  where
    nothing : (o : Option (List ℕ)) → Consumes o o []
    nothing None = tt
    nothing (Some x) = refl

-- the header isn't whole and valid
abbrev pub is_over : HeaderEnd → Bool
is_over More = true
is_over (Whole h) = false
is_over Bad = true
is_over Faulted = true

over_skipped : (end : HeaderEnd) (k : Kernel) (d : ℕ) (v : DeviceView) → is_over end ≡ true → IsSkipped end k d v
over_skipped More k d v e = tt
over_skipped (Whole h) k d v e = absurd (cc)
over_skipped Bad k d v e = tt
over_skipped Faulted k d v e = tt

over_device : (end : HeaderEnd) (bytes : List ℕ) (v : DeviceView) → is_over end ≡ true → after_header end bytes v ≡ gathered_device end bytes v
over_device More bytes v e = refl
over_device (Whole h) bytes v e = absurd (cc)
over_device Bad bytes v e = refl
over_device Faulted bytes v e = refl

pub between_of : (v : DeviceView) → IsOutside v → IsBetween v
between_of v is = record { absent = is.absent; good = is.fine; free = not_full v is.early }

pub header_receives : StaysOrderly → (k : Kernel) (d n : ℕ) (old now : HostView) (devices : List (Option DeviceView)) (moved : ℕ) (end : HeaderEnd) → IsGood k → refuse (outline k) (Recv d n) ≡ None → IsOutsideAt (entry k.devices d) → is_over end ≡ true → GathersHeader d n old now k.devices devices moved end → Receives d n old now k (record k { devices = devices }) (gathered_reply end moved)
header_receives law k d n old now devices moved end good accepted at over x =
    let v : DeviceView = x.before in
    let is : IsOutside v = subst IsOutsideAt x.there at in
    let w : devices ≡ set k.devices d (Some (gathered_device end (v.gathered ++ x.receives.taken) v)) = x.only ∙ ap (λ u. set k.devices d (Some u)) (x.receives.device ∙ over_device end (v.gathered ++ x.receives.taken) v over) in
    subst (λ ds. Receives d n old now k (record k { devices = ds }) (gathered_reply end moved)) (sym w)
    (gathered_receives law k d n v x.receives.taken moved end old now good accepted x.there (between_of v is) (early_free k d v is.early) (over_skipped end k d v over) x.receives.takes)

-- the record meets no input
dropped_device : (h : Header) (bytes : List ℕ) (v : DeviceView) → v.buffers ≡ [] → dropped h (after_header (Whole h) bytes v) ≡ gathered_device (Whole h) bytes v
dropped_device h bytes v none = ap (dropped h) (begun_device h bytes v none) ∙ by (h.len == 0)
  where
    by : (z : Bool) → (if z then finished (beginning h v) else beginning h v) ≡ record v { gathered = []; present = if z then None else Some (record { header = h; moved = 0; buffer = None }) }
    by true = refl
    by false = refl

pub dropped_receives : StaysOrderly → (k : Kernel) (d n : ℕ) (old now : HostView) (middle devices : List (Option DeviceView)) (moved : ℕ) (h : Header) (r : Reply) → IsGood k → refuse (outline k) (Recv d n) ≡ None → IsOutsideAt (entry k.devices d) → posted_number (first address d h.port h.flow k.posted) ≡ None → GathersHeader d n old now k.devices middle moved (Whole h) → DropsRecord d h middle devices r → Receives d n old now k (record k { devices = devices }) r
dropped_receives law k d n old now middle devices moved h r good accepted at none x y =
    let v : DeviceView = x.before in
    let is : IsOutside v = subst IsOutsideAt x.there at in
    let bytes : List ℕ = v.gathered ++ x.receives.taken in
    let buffers : v.buffers ≡ [] = x.buffers (early_kept v.config.kind is.early) in
    let here : entry middle d ≡ Some x.after = ap (λ ds. entry ds d) x.only ∙ entry_same k.devices d v (Some x.after) x.there in
    let before : y.before ≡ after_header (Whole h) bytes v = same_some y.before x.after (sym y.there ∙ here) ∙ x.receives.device in
    let w : devices ≡ set k.devices d (Some (gathered_device (Whole h) bytes v)) = y.only ∙ (λ i. set (x.only i) d (Some (dropped h (before i)))) ∙ set_again k.devices d (Some x.after) (Some (dropped h (after_header (Whole h) bytes v))) ∙ ap (λ u. set k.devices d (Some u)) (dropped_device h bytes v buffers) in
    subst (λ q. Receives d n old now k (record k { devices = devices }) q) (sym y.reply_is)
    (subst (λ ds. Receives d n old now k (record k { devices = ds }) (gathered_reply (Whole h) moved)) (sym w)
    (gathered_receives law k d n v x.receives.taken moved (Whole h) old now good accepted x.there (between_of v is) (early_free k d v is.early) (is.early, no_first (first address d h.port h.flow k.posted) none) x.receives.takes))
  where
    same_some : (a e : DeviceView) → Some a ≡ Some e → a ≡ e
    same_some a e s = cc

    no_first : (o : Option Input) → posted_number o ≡ None → o ≡ None
    no_first None e = refl
    no_first (Some i) e = absurd (cc)

-- a step that throws payload bytes away
pub skipping_receives : StaysOrderly → (k : Kernel) (d n len : ℕ) (old now : HostView) (devices : List (Option DeviceView)) (r : Reply) → IsGood k → refuse (outline k) (Recv d n) ≡ None → IsWithinAt len (entry k.devices d) → receiver k.transfers d ≡ None → SkipsPayload d n old now k.devices devices r → Receives d n old now k (record k { devices = devices }) r
skipping_receives law k d n len old now devices r good accepted at receives x =
    let v : DeviceView = x.before in
    let there : entry k.devices d ≡ Some v = x.there in
    let is : IsWithin len v = subst (IsWithinAt len) there at in
    let early : is_early v.config.kind ≡ true = is.early in
    let kind = early_kind v.config.kind early in
    let its = the_datagram v.present len is.present in
    let g : Present = its.0 in
    let present : v.present ≡ Some g = its.1 in
    let none : g.buffer ≡ None = unbuffered v g early present x.allowed in
    let m : HasMoved d 0 n old now k v g devices x.moved = (has_moved d 0 n old now k v x.after g devices [] [] x.moved present none x.moves x.device).0 in
    let course : Course = course_of m.end 0 in
    let count : ℕ = length m.taken in
    let left : ℕ = g.header.len - g.moved in
    let w : DeviceView = after_moving course g count v in
    let reply_is : r ≡ body_reply m.end (0 + count) = x.reply_is ∙ replied x.moved m.end 0 count m.faulted m.bytes in
    let some : 0 < n = (may_receive k d n accepted).some in
    let over = ending_body m.end left n count (now.handle (handle_of v.config.input)).bytes m.takes.ends in
    let handle = handle_is k d v good there in
    let zero_bytes : List ℕ = replicate count 0 in
    let z : Bytes = zeros_with k.config.page d zero_bytes in
    let same : length zero_bytes ≡ count = length-replicate count 0 in
    let zero_steps = skipping_steps k z d n v g zero_bytes [] good there is.fine kind early present none receives (zeros_rest k.config.page d zero_bytes ∙ sym (append_none zero_bytes))
    m.end over.ended (subst (λ j. EndsPayload m.end left n j over.ended) (sym same) over.so) (subst (λ j. j ≤ n) (sym same) m.takes.within) (subst (λ j. j ≤ left) (sym same) m.takes.fits) some (λ e. refl) in
    let zero_steps_so : Steps (state_of k z) (Recv d n) (state_of (with_device k d w) (with_rest d [] z)) (body_reply m.end (0 + count)) = subst (λ j. Steps (state_of k z) (Recv d n) (state_of (with_device k d (after_moving course g j v)) (with_rest d [] z)) (body_reply m.end (0 + j))) same zero_steps in
    let orderly : IsOrderly (outline (with_device k d w)) = orderly_behind law k (with_device k d w) d n (body_reply m.end (0 + count)) zero_bytes [] good accepted refl zero_steps_so in
    let itself : KeepsPayload v v = record { config = refl; limit = refl; buffers = refl; staged = refl; sent = refl } in
    let filling = both_none (is_some w.present) (is_some v.present) (entry k.pools d) (early_unpooled k d v good there early) in
    let new : Kernel = with_device k d w in
    subst (λ ds. Receives d n old now k (record k { devices = ds }) r) (sym m.devices_are)
    (record {
      good = device_good k d v w good there (moving_keeps course g count v v itself) filling (no_receiver w.present (receiver k.transfers d) receives) orderly;
      kept = kept_alone k new good refl refl;
      config = refl;
      numbers = refl;
      memory = refl;
      landed = omega arith;
      taken = m.taken;
      ended = over.ended;
      only = subst (λ a. OnlyHandle a old now) (sym handle) m.takes.only;
      bytes = subst (λ a. Consumes (old.handle a).bytes (now.handle a).bytes m.taken) (sym handle) m.takes.bytes;
      at_end = subst (λ a. over.ended ≡ true → IsAtEnd (now.handle a).bytes) (sym handle) over.at_end;
      cause = subst (λ y. DeviceCause (mark_of y) (old.handle (input_of k.config d)).faults (now.handle (input_of k.config d)).faults) (sym reply_is)
          (subst (λ a. DeviceCause (mark_of (body_reply m.end (0 + count))) (old.handle a).faults (now.handle a).faults) (sym handle) (caused_body m.end (0 + count) (old.handle (handle_of v.config.input)).faults (now.handle (handle_of v.config.input)).faults m.takes.cause));
      steps = λ slots rests sents rest paged place behind.
          let b : Bytes = bytes_over k.memory slots rests sents in
          subst (λ y. Steps (state_of k b) (Recv d n) (state_of new (with_rest d rest b)) y) (sym reply_is)
          (skipping_steps k b d n v g m.taken rest good there is.fine kind early present none receives place m.end over.ended over.so m.takes.within m.takes.fits some behind);
    })
  where
    no_receiver : (o : Option Present) (q : Option Transfer) → q ≡ None → IfSome o (λ (p : Present). IfSome q (IsStored p))
    no_receiver None q e = tt
    no_receiver (Some p) q e = subst (λ (y : Option Transfer). IfSome y (IsStored p)) (sym e) tt

    none_and : (a : Bool) → (a && false) ≡ false
    none_and true = refl
    none_and false = refl

    both_none : (a e : Bool) (o : Option PoolState) → o ≡ None → (a && is_some o) ≡ (e && is_some o)
    both_none a e o is = ap (λ (y : Option PoolState). a && is_some y) is ∙ none_and a ∙ sym (ap (λ (y : Option PoolState). e && is_some y) is ∙ none_and e)
