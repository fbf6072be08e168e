-- A step of a pooled device that changes nothing, and which step comes.
use Rattle.std.proofs.Common.{◌≡◌, ℕ, ◌+◌, ◌≤◌, Bool, true, false, not, List, [], refl, sym, ap, subst, arith, ◌∙◌, eq-eqb, eqb-true}
use Rattle.std.specs.Prelude.{Option, Some, None, IsSome, count_by, is_none, is_some, ◌==◌, ◌&&◌, if◌then◌else◌}
use Rattle.std.specs.Option.{option_map}
use Rattle.std.specs.Io.KnownBytes.{Consumes}
use Rattle.genie_base.specs.Events.{mark_of}
use Rattle.genie_base.specs.declared.config.Kind.{Kind}
use Rattle.genie_base.specs.declared.config.Kind.TheVariants.{Early, Pooled, Outboard}
use Rattle.genie_base.specs.declared.event.Event.TheVariants.{Recv}
use Rattle.genie_base.specs.declared.reply.Mark.TheVariants as mark
use Rattle.genie_base.specs.declared.reply.Reply.{Reply}
use Rattle.genie_base.specs.declared.reply.Reply.TheVariants as reply
use Rattle.genie_device.specs.Device.{DeviceView, header_of}
use Rattle.genie_device.specs.declared.present.Present.{Present}
use Rattle.genie_host.specs.Host.{HostView}
use Rattle.genie_host.specs.OnlyHandle.{only_refl}
use Rattle.genie_orderly.specs.Orderly.{on_its_way}
use Rattle.genie_wire.specs.declared.header.Header.{Header}
use Rattle.genie_model.specs.Pending.{arrived, is_early}
use Rattle.genie_model.specs.Receiving.{is_between_records, is_busy, no_bytes as no_header, receive, receive_record, recv}
use Rattle.genie_model.specs.Refusing.{refuse}
use Rattle.genie_model.specs.State as flat
use Rattle.genie_model.specs.Tables.{entry}
use Rattle.genie_kernel.specs.declared.kernel.Kernel.{Kernel}
use Rattle.genie_kernel.specs.Calls.{has_arrived, receiver}
use Rattle.genie_kernel.specs.Devices.{datagram_view, device_view}
use Rattle.genie_kernel.specs.Good.{IsGood}
use Rattle.genie_kernel.specs.Handles.{HasHandles}
use Rattle.genie_kernel.specs.Steps.{DeviceCause, Steps, bytes_over}
use Rattle.genie_kernel.specs.View.{Bytes, no_bytes, outline, state_of}
use Rattle.genie_kernel.specs.Lemmas.DeviceViews.{entry_view}
use Rattle.genie_kernel.specs.Lemmas.Tidying.{tidy_view}
use Rattle.genie_receiving.specs.Receiving.{IsReceived, Receives, input_of}
use Rattle.genie_receiving.specs.Lemmas.Accepted.{named}
use Rattle.genie_receiving.specs.Lemmas.Kept.{kept_alone}
use Rattle.genie_receiving.specs.Lemmas.Marking.{plain_steps, rest_same}
use Rattle.genie_receiving.specs.Lemmas.Telling.{is_received}
use Rattle.genie_pooling.specs.Pooled.{IsOutsideAt, IsWithinAt, depth_at, is_busy_now, is_pooled_device, is_pooled_kind}
use Rattle.genie_pooling.proofs.Counting.{arrived_same}
use Rattle.genie_pooling.proofs.Record.{depth_kept}
use Rattle.genie_pooling.proofs.Room.{pooled_of}

nothing : (o : Option (List ℕ)) → Consumes o o []
nothing None = tt
nothing (Some x) = refl

-- a step that changes nothing
still_receives : (k : Kernel) (d n : ℕ) (host : HostView) (r : Reply) → IsGood k → mark_of r ≡ mark.NoFault → ((b : Bytes) → recv (state_of k b) d n ≡ (state_of k b, r)) → Receives d n host host k k r
still_receives k d n host r good plain same = record {
  good = good;
  kept = kept_alone k k good refl refl;
  config = refl;
  numbers = refl;
  memory = refl;
  landed = omega arith;
  taken = [];
  ended = false;
  only = only_refl (input_of k.config d) host;
  bytes = nothing (host.handle (input_of k.config d)).bytes;
  at_end = λ e. absurd (cc);
  cause = subst (λ x. DeviceCause x (host.handle (input_of k.config d)).faults (host.handle (input_of k.config d)).faults) (sym plain) refl;
  steps = λ slots rests sents rest paged place may.
      let b : Bytes = bytes_over k.memory slots rests sents in
      subst (λ (c : Bytes). Steps (state_of k b) (Recv d n) (state_of k c) r) (sym (rest_same d rest b place))
      (plain_steps (state_of k b) (state_of k b) (Recv d n) r plain (tidy_view k b) (sym (same b)));
}

at_device : (k : Kernel) (b : Bytes) (d : ℕ) (v : DeviceView) → entry k.devices d ≡ Some v → entry (state_of k b).devices d ≡ Some (device_view b.seen.kept_bytes (b.rests d) (b.sents d) (entry k.pools d) (receiver k.transfers d) v)
at_device k b d v there = entry_view b.seen.kept_bytes b.rests b.sents k.pools (receiver k.transfers) k.devices d ∙ ap (option_map (device_view b.seen.kept_bytes (b.rests d) (b.sents d) (entry k.pools d) (receiver k.transfers d))) there

-- the device is bad
recv_of_bad : (s : flat.State) (d n : ℕ) (v : flat.Device) → entry s.devices d ≡ Some v → v.is_bad ≡ true → recv s d n ≡ (s, reply.Bad)
recv_of_bad s d n v there bad = ap (receive s d n) there ∙ ap (λ b. if b then (s, reply.Bad) else (if is_busy s d v then (s, reply.Busy) else receive_record s d n v v.present)) bad

bad_receives : (k : Kernel) (d n : ℕ) (v : DeviceView) (host : HostView) → IsGood k → entry k.devices d ≡ Some v → v.is_bad ≡ true → Receives d n host host k k reply.Bad
bad_receives k d n v host good there bad = still_receives k d n host reply.Bad good refl (λ b. recv_of_bad (state_of k b) d n (device_view b.seen.kept_bytes (b.rests d) (b.sents d) (entry k.pools d) (receiver k.transfers d) v) (at_device k b d v there) bad)

-- or as many datagrams wait as it has buffers
recv_of_busy : (s : flat.State) (d n : ℕ) (v : flat.Device) → entry s.devices d ≡ Some v → v.is_bad ≡ false → is_busy s d v ≡ true → recv s d n ≡ (s, reply.Busy)
recv_of_busy s d n v there fine busy = ap (receive s d n) there
    ∙ ap (λ b. if b then (s, reply.Bad) else (if is_busy s d v then (s, reply.Busy) else receive_record s d n v v.present)) fine
    ∙ ap (λ b. if b then (s, reply.Busy) else receive_record s d n v v.present) busy

-- how many datagrams are on their way
abbrev way : Bool → ℕ
way c = if c then 0 else 1

none_on_way : (c : Bool) → way c ≡ 0 → c ≡ true
none_on_way true e = refl
none_on_way false e = absurd (omega (arith, e))

busy_is : (k : Kernel) (b : Bytes) (d : ℕ) (v : DeviceView) → IsGood k → entry k.devices d ≡ Some v → v.config.kind ≡ Pooled → v.present ≡ None → is_busy_now d k.transfers v ≡ true → is_busy (state_of k b) d (device_view b.seen.kept_bytes (b.rests d) (b.sents d) (entry k.pools d) (receiver k.transfers d) v) ≡ true
busy_is k b d v g there kind absent busy =
    let z : Bytes = no_bytes k.config.page in
    let x : flat.Device = device_view b.seen.kept_bytes (b.rests d) (b.sents d) (entry k.pools d) (receiver k.transfers d) v in
    let y : flat.Device = device_view z.seen.kept_bytes [] [] (entry k.pools d) (receiver k.transfers d) v in
    let late : is_early v.config.kind ≡ false = ap is_early kind in
    let bound : arrived (outline k) d + on_its_way y ≤ v.config.depth = depth_kept k d v g there kind in
    let counts : arrived (outline k) d ≡ count_by (has_arrived d) k.transfers = arrived_same k z d in
    let all : count_by (has_arrived d) k.transfers ≡ v.config.depth = eqb-true (count_by (has_arrived d) k.transfers) v.config.depth busy in
    let on_way : on_its_way y ≡ 0 = omega (arith, bound, counts, all) in
    let between_then : is_between_records y ≡ (no_header v.gathered && true) = ap (λ p. no_header v.gathered && is_none (option_map (datagram_view z.seen.kept_bytes v (entry k.pools d) (receiver k.transfers d)) p)) absent in
    let between_now : is_between_records x ≡ (no_header v.gathered && true) = ap (λ p. no_header v.gathered && is_none (option_map (datagram_view b.seen.kept_bytes v (entry k.pools d) (receiver k.transfers d)) p)) absent in
    let between : is_between_records x ≡ true = between_now ∙ sym between_then ∙ none_on_way (is_between_records y) on_way in
    let equal : (arrived (state_of k b) d == v.config.depth) ≡ true = eq-eqb (arrived (state_of k b) d) v.config.depth (arrived_same k b d ∙ all) in
    λ i. between i && not (late i) && equal i

busy_receives : (k : Kernel) (d n : ℕ) (v : DeviceView) (host : HostView) → IsGood k → entry k.devices d ≡ Some v → v.config.kind ≡ Pooled → v.is_bad ≡ false → v.present ≡ None → is_busy_now d k.transfers v ≡ true → Receives d n host host k k reply.Busy
busy_receives k d n v host good there kind fine absent busy = still_receives k d n host reply.Busy good refl (λ b. recv_of_busy (state_of k b) d n (device_view b.seen.kept_bytes (b.rests d) (b.sents d) (entry k.pools d) (receiver k.transfers d) v) (at_device k b d v there) fine (busy_is k b d v good there kind absent busy))

-- which device it is
kind_is : (kind : Kind) → is_pooled_kind kind ≡ true → kind ≡ Pooled
kind_is Early e = absurd (cc)
kind_is Pooled e = refl
kind_is Outboard e = absurd (cc)

pub is_present : (o : Option DeviceView) → is_pooled_device o ≡ true → is_some o ≡ true
is_present None e = absurd (cc)
is_present (Some v) e = refl

pooled_there : (o : Option DeviceView) → is_pooled_device o ≡ true → (v : DeviceView) × (o ≡ Some v) × (v.config.kind ≡ Pooled)
pooled_there None e = absurd (cc)
pooled_there (Some v) e = (v, refl, kind_is v.config.kind e)

no_datagram : (o : Option Present) → header_of o ≡ None → o ≡ None
no_datagram None e = refl
no_datagram (Some g) e = absurd (cc)

pub pooled_within : (o : Option DeviceView) (h : Header) (l : Option Header) (bad : Bool) → is_pooled_device o ≡ true → ((v : DeviceView) → o ≡ Some v → bad ≡ v.is_bad) → bad ≡ false → ((v : DeviceView) → o ≡ Some v → l ≡ header_of v.present) → l ≡ Some h → IsWithinAt h o
pooled_within None h l bad e is fine found at = absurd (cc)
pooled_within (Some v) h l bad e is fine found at = record { kind = kind_is v.config.kind e; fine = sym (is v refl) ∙ fine; present = sym (found v refl) ∙ at }

-- it has as many buffers as its configuration says
depth_is : (k : Kernel) (d : ℕ) (v : DeviceView) → IsGood k → entry k.devices d ≡ Some v → v.config.kind ≡ Pooled → depth_at (entry k.config.devices d) ≡ v.config.depth
depth_is k d v g there kind = let pool = pooled_of k d v g there kind in ap depth_at pool.1.config

pub has_config : (k : Kernel) (d : ℕ) → IsGood k → is_pooled_device (entry k.devices d) ≡ true → IsSome (entry k.config.devices d)
has_config k d g e = let x = pooled_there (entry k.devices d) e in let pool = pooled_of k d x.0 g x.1 x.2 in ap is_some pool.1.config

-- whether it is busy
counted : (k : Kernel) (d : ℕ) (v : DeviceView) (busy is : Bool) → IsGood k → entry k.devices d ≡ Some v → v.config.kind ≡ Pooled → busy ≡ (count_by (has_arrived d) k.transfers == depth_at (entry k.config.devices d)) → busy ≡ is → is_busy_now d k.transfers v ≡ is
counted k d v busy is g there kind found e = ap (λ n. count_by (has_arrived d) k.transfers == n) (sym (depth_is k d v g there kind)) ∙ sym found ∙ e

pub pooled_outside : (k : Kernel) (d : ℕ) (l : Option Header) (bad busy : Bool) → IsGood k → is_pooled_device (entry k.devices d) ≡ true → ((v : DeviceView) → entry k.devices d ≡ Some v → bad ≡ v.is_bad) → bad ≡ false → ((v : DeviceView) → entry k.devices d ≡ Some v → l ≡ header_of v.present) → l ≡ None
    → busy ≡ (count_by (has_arrived d) k.transfers == depth_at (entry k.config.devices d)) → busy ≡ false → IsOutsideAt d k.transfers (entry k.devices d)
pooled_outside k d l bad busy g e is fine found at counts free =
    let x = pooled_there (entry k.devices d) e in
    subst (IsOutsideAt d k.transfers) (sym x.1) (record { kind = x.2; fine = sym (is x.0 x.1) ∙ fine; absent = no_datagram x.0.present (sym (found x.0 x.1) ∙ at); free = counted k d x.0 busy false g x.1 x.2 counts free })

-- what each case leaves
pub received : (k new : Kernel) (d n : ℕ) (old now : HostView) (r : Reply) → IsGood k → refuse (outline k) (Recv d n) ≡ None → HasHandles k.config old → Receives d n old now k new r → IsReceived d n old now k new r
received k new d n old now r g accepted handles x = is_received d n old now k new r g accepted handles (named k d n accepted) x

pub bad_received : (k : Kernel) (d n : ℕ) (host : HostView) (bad : Bool) → IsGood k → refuse (outline k) (Recv d n) ≡ None → HasHandles k.config host → is_pooled_device (entry k.devices d) ≡ true → ((v : DeviceView) → entry k.devices d ≡ Some v → bad ≡ v.is_bad) → bad ≡ true → IsReceived d n host host k k reply.Bad
bad_received k d n host bad g accepted handles e is marked =
    let x = pooled_there (entry k.devices d) e in
    received k k d n host host reply.Bad g accepted handles (bad_receives k d n x.0 host g x.1 (sym (is x.0 x.1) ∙ marked))

pub busy_received : (k : Kernel) (d n : ℕ) (host : HostView) (l : Option Header) (bad busy : Bool) → IsGood k → refuse (outline k) (Recv d n) ≡ None → HasHandles k.config host → is_pooled_device (entry k.devices d) ≡ true → ((v : DeviceView) → entry k.devices d ≡ Some v → bad ≡ v.is_bad) → bad ≡ false → ((v : DeviceView) → entry k.devices d ≡ Some v → l ≡ header_of v.present) → l ≡ None
    → busy ≡ (count_by (has_arrived d) k.transfers == depth_at (entry k.config.devices d)) → busy ≡ true → IsReceived d n host host k k reply.Busy
busy_received k d n host l bad busy g accepted handles e is fine found at counts all =
    let x = pooled_there (entry k.devices d) e in
    received k k d n host host reply.Busy g accepted handles (busy_receives k d n x.0 host g x.1 x.2 (sym (is x.0 x.1) ∙ fine) (no_datagram x.0.present (sym (found x.0 x.1) ∙ at)) (counted k d x.0 busy true g x.1 x.2 counts all))
