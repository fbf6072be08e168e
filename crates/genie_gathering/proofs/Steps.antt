-- Steps of the flat machine that gather payload bytes.
use Rattle.std.proofs.Common.{◌≡◌, ℕ, ◌+◌, ◌-◌, ◌<◌, ◌≤◌, Bool, true, false, List, [], ◌++◌, refl, sym, ap, subst, arith, rules, ◌∙◌, length, set, get_or, inl, eqb-true, if◌then◌else◌}
use Rattle.std.specs.Prelude.{Option, Some, None, ◌==◌}
use Rattle.std.specs.Option.{option_map}
use Rattle.std.proofs.lemmas.Bool.{eqb-false}
use Rattle.std.proofs.lemmas.List.{length-append, set-get_or}
use Rattle.genie_base.specs.Configs.{most}
use Rattle.genie_base.specs.Headers.{payload_taken, is_valid_header}
use Rattle.genie_base.specs.Events.{mark_of}
use Rattle.genie_base.specs.Posted.{first}
use Rattle.genie_base.specs.declared.config.Kind.TheVariants.{Outboard}
use Rattle.genie_base.specs.declared.event.Event.TheVariants.{Recv}
use Rattle.genie_base.specs.declared.reply.Mark.TheVariants as mark
use Rattle.genie_base.specs.declared.reply.Reply.{Reply}
use Rattle.genie_base.specs.declared.reply.Reply.TheVariants as reply
use Rattle.genie_demux.specs.Posted.{address, number_of as posted_number}
use Rattle.genie_device.specs.Buffers.{BufferState, BufferView, Filling, no_buffer, state_at, with_state}
use Rattle.genie_device.specs.Device.{DeviceView, after_header}
use Rattle.genie_device.specs.declared.present.Present.{Present}
use Rattle.genie_device.specs.declared.steps.BodyEnd.{BodyEnd}
use Rattle.genie_device.specs.declared.steps.BodyEnd.TheVariants as body
use Rattle.genie_device.specs.declared.steps.HeaderEnd.TheVariants as header
use Rattle.genie_wire.specs.Headers.{IsWhole, header_in}
use Rattle.genie_wire.specs.declared.header.Header.{Header}
use Rattle.genie_model.specs.Pending.{is_early}
use Rattle.genie_model.specs.Receiving.{recv, go_on, stays_in_payload, may_fail_receiving}
use Rattle.genie_model.specs.Space.{Outcome, tidy}
use Rattle.genie_model.specs.State as flat
use Rattle.genie_model.specs.Step.{may_fail}
use Rattle.genie_model.specs.Tables.{entry}
use Rattle.genie_kernel.specs.declared.kernel.Kernel.{Kernel}
use Rattle.genie_kernel.specs.Calls.{receiver}
use Rattle.genie_kernel.specs.Devices.{device_view, datagram_view}
use Rattle.genie_kernel.specs.Good.{IsGood}
use Rattle.genie_kernel.specs.Steps.{Steps}
use Rattle.genie_kernel.specs.View.{Bytes, state_of}
use Rattle.genie_kernel.specs.Lemmas.DeviceViews.{entry_view}
use Rattle.genie_kernel.specs.Lemmas.Tidying.{tidy_view}
use Rattle.genie_gathering.specs.Devices.{with_device, with_rest}
use Rattle.genie_gathering.specs.Laws.{GatheringLaws}
use Rattle.genie_gathering.specs.Payload.{course_of, is_faulted}
use Rattle.genie_gathering.specs.Receiving.{MayBeLeft}
use Rattle.genie_gathering.specs.declared.payload.Course.{Course}
use Rattle.genie_gathering.specs.declared.payload.Course.TheVariants.{GoesOn, Ends, IsTruncated}
use Rattle.genie_gathering.proofs.Buffers.{Fills, filled_device}
use Rattle.genie_gathering.proofs.Bytes.{append_none, none_taken, payload_is}
use Rattle.genie_gathering.proofs.Flat.{Gathers, HasPresent, recv_gathers, recv_within, payload_moved, may_fail_begun, may_fail_within}
use Rattle.genie_gathering.proofs.Gathered.{Meets, EndsPayload, taken_all, flat_device, gathering_datagram, gathering_view, final, plain_reply, went_on}
use Rattle.genie_gathering.proofs.Good.{outboard_unpooled}
use Rattle.genie_gathering.proofs.Marking.{plain_steps, failed_steps, rest_same}
use Rattle.genie_gathering.proofs.Views.{set_same}

-- what is answered: the failure, or how the datagram fares
abbrev pub step_reply : Bool → ℕ → Reply → Reply
step_reply faulted m plain = if faulted then reply.Fault m else plain

-- how the flat machine's step goes that moves these payload bytes, behind h bytes of the header
pub record MovesOn (s : flat.State) (d h left : ℕ) (y : flat.Device) (dg : flat.Datagram) (bytes rest : List ℕ) : Type 0 where
  pub recv_is : (m : ℕ) → h ≤ m → length bytes ≡ payload_taken (m - h) left (bytes ++ rest) → recv s d m ≡ go_on s d y dg (h + length bytes)
  pub may : length bytes < left → may_fail_receiving s d (h + length bytes) ≡ true

pub plain_mark : (laws : GatheringLaws) (k : Kernel) (b : Bytes) (d h buffer : ℕ) (v v1 : DeviceView) (g : Present) (held bytes rest : List ℕ) (good : IsGood k) (there : entry k.devices d ≡ Some v) (f : Fills buffer held v v1 g) (c : Course) (o : Option ℕ) → mark_of (plain_reply laws k b d h buffer v v1 g held bytes rest good there f c o) ≡ mark.NoFault
plain_mark laws k b d h buffer v v1 g held bytes rest good there f GoesOn o = refl
plain_mark laws k b d h buffer v v1 g held bytes rest good there f Ends None = refl
plain_mark laws k b d h buffer v v1 g held bytes rest good there f Ends (Some n) = refl
plain_mark laws k b d h buffer v v1 g held bytes rest good there f IsTruncated None = refl
plain_mark laws k b d h buffer v v1 g held bytes rest good there f IsTruncated (Some n) = refl

module _ (laws : GatheringLaws) (k : Kernel) (b : Bytes) (d h budget buffer : ℕ) (v v1 : DeviceView) (g : Present) (held bytes rest : List ℕ) (good : IsGood k) (there : entry k.devices d ≡ Some v) (f : Fills buffer held v v1 g) (before : Option flat.Datagram) (o : Option ℕ) (m : Meets k d o) (met : posted_number (first address d g.header.port g.header.flow k.posted) ≡ o)
    (within : h ≤ budget) (moves : MovesOn (state_of k b) d h (g.header.len - g.moved) (flat_device v1 rest (b.sents d) before) (gathering_datagram g.header (g.moved + length bytes) (held ++ bytes)) bytes rest) (fits : g.moved ≤ g.header.len) (more : 0 < h + (g.header.len - g.moved)) (some : 0 < budget)
    (unmoved : (h + length bytes == 0) ≡ true → state_of (with_device k d (filled_device buffer (held ++ bytes) g (length bytes) v1)) (with_rest d rest b) ≡ state_of k b) where
  abbrev s : flat.State
  s = state_of k b

  abbrev left : ℕ
  left = g.header.len - g.moved

  abbrev pub last : Course → Kernel
  last c = final laws k b d h buffer v v1 g held bytes rest good there f c o m

  abbrev pub replied : Course → Reply
  replied c = plain_reply laws k b d h buffer v v1 g held bytes rest good there f c o

  went : (end : BodyEnd) (ended : Bool) → EndsPayload end left (budget - h) (length bytes) ended → (is_faulted end ≡ true → 0 < h + length bytes)
      → go_on s d (flat_device v1 rest (b.sents d) before) (gathering_datagram g.header (g.moved + length bytes) (held ++ bytes)) (h + length bytes) ≡ (state_of (last (course_of end h)) (with_rest d rest b), replied (course_of end h))
  went end ended ends faulted = went_on laws k b d h buffer v v1 g held bytes rest good there f end ended (budget - h) (b.sents d) before o m met ends fits (omega (arith, some, within)) more faulted

  tidied : (c : Course) → tidy (state_of (last c) (with_rest d rest b)) ≡ state_of (last c) (with_rest d rest b)
  tidied c = tidy_view (last c) (with_rest d rest b)

  plain : (end : BodyEnd) (ended : Bool) → is_faulted end ≡ false → EndsPayload end left (budget - h) (length bytes) ended → length bytes ≤ budget - h → length bytes ≤ left → MayBeLeft ended rest → Steps s (Recv d budget) (state_of (last (course_of end h)) (with_rest d rest b)) (replied (course_of end h))
  plain end ended unfaulted ends most few may = plain_steps s (state_of (last (course_of end h)) (with_rest d rest b)) (Recv d budget) (replied (course_of end h)) (plain_mark laws k b d h buffer v v1 g held bytes rest good there f (course_of end h) o) (tidied (course_of end h))
      (sym (moves.recv_is budget within (taken_all end left (budget - h) bytes rest ended ends unfaulted most few may) ∙ went end ended ends (λ e. let clash : true ≡ false = sym e ∙ unfaulted in absurd (cc))))

  pub gathered_steps : (end : BodyEnd) (ended : Bool) → EndsPayload end left (budget - h) (length bytes) ended → length bytes ≤ budget - h → length bytes ≤ left → MayBeLeft ended rest → Steps s (Recv d budget) (state_of (last (course_of end h)) (with_rest d rest b)) (step_reply (is_faulted end) (h + length bytes) (replied (course_of end h)))
  gathered_steps body.More ended ends most few may = plain body.More ended refl ends most few may
  gathered_steps body.Whole ended ends most few may = plain body.Whole ended refl ends most few may
  gathered_steps body.Truncated ended ends most few may = plain body.Truncated ended refl ends most few may
  gathered_steps body.Faulted ended ends most few may =
      let fewer : length bytes < budget - h = ends.0 in
      let short : length bytes < left = ends.1 in
      let less : h + length bytes < budget = omega (arith, fewer, within) in
      let inside = moves.may short in
      let can : may_fail s (Recv d budget) (h + length bytes) ≡ true = grind (arith, rules, inside, less) in
      failed_steps s (state_of (last GoesOn) (with_rest d rest b)) (Recv d budget) (h + length bytes) can (tidied GoesOn) unmoved
      (λ z. sym (ap (λ (x : Outcome). x.0) (moves.recv_is (h + length bytes) (omega arith) (payload_is ((h + length bytes) - h) left bytes rest (omega arith) few (inl (omega arith))) ∙ went body.Faulted ended ends (λ e. positive (h + length bytes) (eqb-false (h + length bytes) 0 z)))))
    where
      positive : (j : ℕ) → (j ≡ 0 → ⊥) → 0 < j
      positive j apart = omega (arith, apart)

pub inside_payload : (bytes rest : List ℕ) (left : ℕ) → length bytes < left → stays_in_payload (bytes ++ rest) left (length bytes) ≡ true
inside_payload bytes rest left l = let a = length-append bytes rest in let some : length bytes ≤ length (bytes ++ rest) = omega (arith, a) in grind (arith, rules, some, l)

-- the datagram was present
pub moves_within : (k : Kernel) (b : Bytes) (d buffer : ℕ) (v : DeviceView) (g : Present) (held bytes rest : List ℕ) → IsGood k → entry k.devices d ≡ Some v → v.is_bad ≡ false → Fills buffer held v v g → b.rests d ≡ bytes ++ rest
    → MovesOn (state_of k b) d 0 (g.header.len - g.moved) (flat_device v rest (b.sents d) (option_map (datagram_view b.seen.kept_bytes v (entry k.pools d) (receiver k.transfers d)) v.present)) (gathering_datagram g.header (g.moved + length bytes) (held ++ bytes)) bytes rest
moves_within k b d buffer v g held bytes rest good there fine f is =
    let x : flat.Device = device_view b.seen.kept_bytes (bytes ++ rest) (b.sents d) (entry k.pools d) (receiver k.transfers d) v in
    let dg : flat.Datagram = gathering_datagram g.header g.moved held in
    let has : HasPresent (state_of k b) d x dg = record {
      there = entry_view b.seen.kept_bytes b.rests b.sents k.pools (receiver k.transfers) k.devices d ∙ (λ i. option_map (device_view b.seen.kept_bytes (is i) (b.sents d) (entry k.pools d) (receiver k.transfers d)) (there i));
      good = fine;
      present = ap (option_map (datagram_view b.seen.kept_bytes v (entry k.pools d) (receiver k.transfers d))) f.present ∙ ap Some (gathering_view b.seen.kept_bytes v (entry k.pools d) (receiver k.transfers d) g buffer held f.kind (outboard_unpooled k d v good there f.kind) f.place f.state f.size);
    } in
    record {
      recv_is = λ m l all. recv_within (state_of k b) d m x dg has ∙ payload_moved (state_of k b) d m 0 x dg bytes rest refl (all ∙ (let e : m - 0 ≡ m = omega arith in ap (λ j. payload_taken j (g.header.len - g.moved) (bytes ++ rest)) e));
      may = λ l. (let e : 0 + length bytes ≡ length bytes = omega arith in ap (may_fail_receiving (state_of k b) d) e) ∙ may_fail_within (state_of k b) d x dg bytes rest has refl (inside_payload bytes rest (g.header.len - g.moved) l);
    }

-- nothing came, and nothing changed
state_again : (s : BufferState) (i : ℕ) (bs : List BufferView) → state_at bs i ≡ s → with_state s i bs ≡ bs
state_again s i bs e = ap (λ x. set bs i (record (get_or bs i no_buffer) { state = x })) (sym e) ∙ set-get_or bs i no_buffer

pub unmoved_within : (k : Kernel) (b : Bytes) (d buffer : ℕ) (v : DeviceView) (g : Present) (held bytes rest : List ℕ) → entry k.devices d ≡ Some v → Fills buffer held v v g → b.rests d ≡ bytes ++ rest → (0 + length bytes == 0) ≡ true → state_of (with_device k d (filled_device buffer (held ++ bytes) g (length bytes) v)) (with_rest d rest b) ≡ state_of k b
unmoved_within k b d buffer v g held bytes rest there f is z =
    let zero_moved : 0 + length bytes ≡ 0 = eqb-true (0 + length bytes) 0 z in
    let empty : bytes ≡ [] = none_taken bytes (omega (arith, zero_moved)) in
    let same : g.moved + length bytes ≡ g.moved = omega (arith, zero_moved) in
    let all : held ++ bytes ≡ held = ap (λ l. held ++ l) empty ∙ append_none held in
    let device : filled_device buffer (held ++ bytes) g (length bytes) v ≡ v = λ i. record v {
      present = (ap (λ j. Some (record g { moved = j })) same ∙ sym f.present) i;
      buffers = (ap (λ l. with_state (Filling l) buffer v.buffers) all ∙ state_again (Filling held) buffer v.buffers f.state) i;
    } in
    let devices : set k.devices d (Some (filled_device buffer (held ++ bytes) g (length bytes) v)) ≡ k.devices = ap (λ w. set k.devices d (Some w)) device ∙ set_same k.devices d v there in
    (λ i. state_of (record k { devices = devices i }) (with_rest d rest b)) ∙ ap (state_of k) (rest_same d rest b (is ∙ ap (λ l. l ++ rest) empty))

-- the header that was gathered begins it
pub moves_begun : (k : Kernel) (b : Bytes) (d : ℕ) (v : DeviceView) (taken bytes rest : List ℕ) (x : flat.Device) → Gathers (state_of k b) d x → x ≡ device_view b.seen.kept_bytes (taken ++ (bytes ++ rest)) (b.sents d) (entry k.pools d) (receiver k.transfers d) v → v.config.kind ≡ Outboard → IsWhole (v.gathered ++ taken) → is_valid_header (most v.config.kind k.config.page) (v.gathered ++ taken) ≡ true
    → MovesOn (state_of k b) d (length taken) ((header_in (v.gathered ++ taken)).len - 0) (flat_device (after_header (header.Whole (header_in (v.gathered ++ taken))) (v.gathered ++ taken) v) rest (b.sents d) (option_map (datagram_view b.seen.kept_bytes v (entry k.pools d) (receiver k.transfers d)) v.present)) (gathering_datagram (header_in (v.gathered ++ taken)) (0 + length bytes) ([] ++ bytes)) bytes rest
moves_begun k b d v taken bytes rest x has is kind whole valid =
    let y : flat.Device = device_view b.seen.kept_bytes (taken ++ (bytes ++ rest)) (b.sents d) (entry k.pools d) (receiver k.transfers d) v in
    let h : Header = header_in (v.gathered ++ taken) in
    let late : is_early v.config.kind ≡ false = ap is_early kind in
    let has_y : Gathers (state_of k b) d y = subst (Gathers (state_of k b) d) is has in
    let left : h.len - 0 ≡ h.len = omega arith in
    record {
      recv_is = λ m l all. recv_gathers (state_of k b) d m y taken (bytes ++ rest) has_y refl whole l valid late
          ∙ payload_moved (state_of k b) d (m - length taken) (length taken) (record y { rest = bytes ++ rest; header = [] }) (gathering_datagram h 0 []) bytes rest refl all;
      may = λ l. may_fail_begun (state_of k b) d y taken bytes rest has_y refl whole valid late (inside_payload bytes rest h.len (subst (λ j. length bytes < j) left l));
    }
