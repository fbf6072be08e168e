-- A datagram whose payload a device gathers in one of its buffers: the states that a step leads to.
use Rattle.std.proofs.Common.{◌≡◌, ℕ, ◌+◌, ◌-◌, ◌<◌, ◌≤◌, ◌⊎◌, Bool, true, false, List, [], ◌∷◌, ◌++◌, refl, sym, ap, subst, arith, ◌∙◌, ⊎_elim, map, length, take, set, cond, zero, suc, inl, inr, eqb-true, eq-eqb}
use Rattle.std.specs.Prelude.{Option, Some, None, find, filter, min, ◌==◌, ◌&&◌, if◌then◌else◌}
use Rattle.std.specs.Option.{option_map}
use Rattle.std.proofs.lemmas.Bool.{ne_eqb, eqb-false}
use Rattle.std.proofs.lemmas.List.{length-append}
use Rattle.genie_base.specs.Headers.{payload_taken}
use Rattle.genie_base.specs.Posted.{meets, first}
use Rattle.genie_base.specs.declared.config.DeviceConfig.{DeviceConfig}
use Rattle.genie_base.specs.declared.config.Kind.TheVariants.{Outboard}
use Rattle.genie_base.specs.declared.reply.Reply.{Reply}
use Rattle.genie_base.specs.declared.reply.Reply.TheVariants as reply
use Rattle.genie_base.specs.declared.semantics.Direction.TheVariants.{Inward}
use Rattle.genie_demux.specs.declared.input.Input.{Input}
use Rattle.genie_demux.specs.Posted.{address, without, number_of as posted_number}
use Rattle.genie_device.specs.Buffers.{Filling, bytes_in, state_at}
use Rattle.genie_device.specs.Device.{DeviceView}
use Rattle.genie_device.specs.declared.present.Present.{Present}
use Rattle.genie_device.specs.declared.steps.BodyEnd.{BodyEnd}
use Rattle.genie_device.specs.declared.steps.BodyEnd.TheVariants.{More, Whole, Truncated, Faulted}
use Rattle.genie_input.specs.Pools.{PoolState}
use Rattle.genie_wire.specs.declared.header.Header.{Header}
use Rattle.genie_model.specs.Pending.{is_posted, is_queued, is_moving, awaits, first_posted}
use Rattle.genie_model.specs.Receiving.{set_device, change_transfer, gathered, deliver, complete, go_on}
use Rattle.genie_model.specs.State as flat
use Rattle.genie_model.specs.Tables.{entry}
use Rattle.genie_model.specs.Lemmas.Lists.{entry_same}
use Rattle.genie_model.specs.declared.fate.Fate.TheVariants.{Gathering}
use Rattle.genie_model.specs.declared.phase.Phase.TheVariants.{Posted}
use Rattle.genie_kernel.specs.declared.kernel.Kernel.{Kernel}
use Rattle.genie_kernel.specs.declared.transfer.Transfer.{Transfer}
use Rattle.genie_kernel.specs.Calls.{has_number, number_of, first_waiting, receiver}
use Rattle.genie_kernel.specs.Devices.{device_view, datagram_view, fate_of, gathered_in, filling}
use Rattle.genie_kernel.specs.Good.{IsGood}
use Rattle.genie_kernel.specs.Matching.{ArePosted, posted_as}
use Rattle.genie_kernel.specs.Transfers.{buffer_bytes, transfer_view}
use Rattle.genie_kernel.specs.View.{Bytes, state_of}
use Rattle.genie_kernel.specs.Lemmas.DeviceViews.{entry_view}
use Rattle.genie_kernel.specs.Lemmas.Processes.{find_map}
use Rattle.genie_changes.specs.Working.{Work, at_work, worked}
use Rattle.genie_gathering.specs.Delivering.{ready_with}
use Rattle.genie_gathering.specs.Devices.{with_device, with_rest}
use Rattle.genie_gathering.specs.Laws.{GatheringLaws}
use Rattle.genie_gathering.specs.Payload.{course_of, is_faulted}
use Rattle.genie_gathering.specs.Receiving.{MayBeLeft}
use Rattle.genie_gathering.specs.declared.payload.Course.{Course}
use Rattle.genie_gathering.specs.declared.payload.Course.TheVariants.{GoesOn, Ends, IsTruncated}
use Rattle.genie_gathering.proofs.Buffers.{KeepsWaiting, Fills, keeps_waiting, filled_device, arrived_device, dropped_device, filled_touches, arrived_touches, dropped_touches, filled_state, arrived_state}
use Rattle.genie_gathering.proofs.Bytes.{payload_is}
use Rattle.genie_gathering.proofs.Flat.{device_changed, goes_on, is_over, is_cut_off}
use Rattle.genie_gathering.proofs.Good.{are_waiting, outboard_unpooled}
use Rattle.genie_gathering.proofs.Views.{AreWaiting, device_state, worked_state, seen_device}

-- the first posted input that a record meets is that of the flat machine
pub found_posted : (q : Input → Bool) (ts : List Transfer) → posted_number (find q (map posted_as (filter (λ (t : Transfer). is_posted t.phase) ts))) ≡ option_map number_of (find (λ (t : Transfer). is_posted t.phase && q (posted_as t)) ts)
found_posted q [] = refl
found_posted q (t ∷ ts) = elim (is_posted t.phase) as (λ b. posted_number (find q (map posted_as (cond b (t ∷ filter (λ (u : Transfer). is_posted u.phase) ts) (filter (λ (u : Transfer). is_posted u.phase) ts)))) ≡ option_map number_of (cond (b && q (posted_as t)) (Some t) (find (λ (u : Transfer). is_posted u.phase && q (posted_as u)) ts))) [
  | true ↦ elim (q (posted_as t)) as (λ c. posted_number (cond c (Some (posted_as t)) (find q (map posted_as (filter (λ (u : Transfer). is_posted u.phase) ts)))) ≡ option_map number_of (cond c (Some t) (find (λ (u : Transfer). is_posted u.phase && q (posted_as u)) ts))) [ true ↦ refl | false ↦ found_posted q ts ]
  | false ↦ found_posted q ts
]

number_view : (f : Transfer → flat.Transfer) → ((t : Transfer) → (f t).number ≡ number_of t) → (o : Option Transfer) → option_map (λ (t : flat.Transfer). t.number) (option_map f o) ≡ option_map number_of o
number_view f same None = refl
number_view f same (Some t) = ap Some (same t)

pub first_met : (k : Kernel) (b : Bytes) (d port : ℕ) (flow : Option ℕ) (posted : List Input) → ArePosted posted k.transfers → first_posted (state_of k b) d port flow ≡ posted_number (first address d port flow posted)
first_met k b d port flow posted p =
    let view : Transfer → flat.Transfer = transfer_view b.seen.kept_bytes k.devices k.pools (first_waiting k.transfers) in
    ap (option_map (λ (t : flat.Transfer). t.number)) (find_map (awaits d port flow) view k.transfers)
    ∙ number_view view (λ t. refl) (find (λ t. awaits d port flow (view t)) k.transfers)
    ∙ sym (ap (λ ps. posted_number (first address d port flow ps)) p.listed ∙ found_posted (λ (x : Input). meets d port flow (address x)) k.transfers)

-- the device changed, and so much left of its input
set_state : (k : Kernel) (c : Bytes) (d : ℕ) (v w : DeviceView) (rest : List ℕ) (x : flat.Device) → entry k.devices d ≡ Some v → KeepsWaiting v w → entry k.pools d ≡ None → AreWaiting d v k.transfers → device_view c.seen.kept_bytes rest (c.sents d) (entry k.pools d) (receiver k.transfers d) w ≡ record x { sent = c.sents d }
    → set_device (state_of k c) d x ≡ state_of (with_device k d w) (with_rest d rest c)
set_state k c d v w rest x there kept unpooled waits is =
    let was : entry (state_of k c).devices d ≡ Some (device_view c.seen.kept_bytes (c.rests d) (c.sents d) (entry k.pools d) (receiver k.transfers d) v) = entry_view c.seen.kept_bytes c.rests c.sents k.pools (receiver k.transfers) k.devices d ∙ ap (seen_device c.seen.kept_bytes c.rests c.sents k.pools (receiver k.transfers) d) there in
    device_changed (state_of k c) d _ x was ∙ sym (device_state k c d v w rest (record x { sent = c.sents d }) there kept unpooled waits is)

-- a datagram that is gathered
abbrev pub gathering_datagram : Header → ℕ → List ℕ → flat.Datagram
gathering_datagram h moved bytes = record { port = h.port; flow = h.flow; len = h.len; moved = moved; fate = Gathering; bytes = bytes }

take_length : (xs : List ℕ) → take (length xs) xs ≡ xs
take_length [] = refl
take_length (x ∷ xs) = ap (λ l. x ∷ l) (take_length xs)

take_all : (xs : List ℕ) (n : ℕ) → length xs ≡ n → take n xs ≡ xs
take_all xs n e = subst (λ m. take m xs ≡ xs) e (take_length xs)

pub gathering_view : (s : ℕ → List ℕ) (w : DeviceView) (pool : Option PoolState) (r : Option Transfer) (g : Present) (buffer : ℕ) (all : List ℕ) → w.config.kind ≡ Outboard → pool ≡ None → g.buffer ≡ Some buffer → state_at w.buffers buffer ≡ Filling all → length all ≡ g.moved → datagram_view s w pool r g ≡ gathering_datagram g.header g.moved all
gathering_view s w pool r g buffer all kind unpooled place state size = λ i. record {
  port = g.header.port;
  flow = g.header.flow;
  len = g.header.len;
  moved = g.moved;
  fate = fate_of (kind i) r;
  bytes = (ap (λ p. gathered_in s w p g.moved (filling p g)) unpooled ∙ ap (gathered_in s w None g.moved) place ∙ ap (λ x. take g.moved (bytes_in x)) state ∙ take_all all g.moved size) i;
}

-- a device of the flat machine, with such a datagram
abbrev pub flat_device : DeviceView → List ℕ → List ℕ → Option flat.Datagram → flat.Device
flat_device v rest sent present = record { kind = v.config.kind; depth = v.config.depth; rest = rest; header = v.gathered; present = present; is_bad = v.is_bad; sent = sent }

-- the input that a record meets
pub record IsMet (k : Kernel) (d n : ℕ) : Type 0 where
  pub transfer : Transfer
  pub found : find (has_number n) k.transfers ≡ Some transfer
  pub dev : transfer.dev ≡ d
  pub inward : transfer.dir ≡ Inward
  pub unbuffered : transfer.buffer ≡ None
  pub posted : transfer.phase ≡ Posted

abbrev pub Meets : Kernel → ℕ → Option ℕ → Type 0
Meets k d None = Unit {0}
Meets k d (Some n) = IsMet k d n

-- how a step of a payload ended that moved so many of the bytes left: whether it ended because the input had
abbrev pub EndsPayload : BodyEnd → (left n moved : ℕ) (ended : Bool) → Type 0
EndsPayload More left n moved ended = (moved < left) × ((moved ≡ n) ⊎ ((0 < moved) × (ended ≡ true)))
EndsPayload Whole left n moved ended = moved ≡ left
EndsPayload Truncated left n moved ended = (moved ≡ 0) × (0 < n) × (0 < left) × (ended ≡ true)
EndsPayload Faulted left n moved ended = (moved < n) × (moved < left)

-- it moved all that it could
pub taken_all : (end : BodyEnd) (left n : ℕ) (bytes rest : List ℕ) (ended : Bool) → EndsPayload end left n (length bytes) ended → is_faulted end ≡ false → length bytes ≤ n → length bytes ≤ left → MayBeLeft ended rest → length bytes ≡ payload_taken n left (bytes ++ rest)
taken_all More left n bytes rest ended h plain within fits may = payload_is n left bytes rest within fits (⊎_elim (λ e. inl e) (λ (x : (0 < length bytes) × (ended ≡ true)). inr (inr (ap length (may x.1)))) h.1)
taken_all Whole left n bytes rest ended h plain within fits may = payload_is n left bytes rest within fits (inr (inl h))
taken_all Truncated left n bytes rest ended h plain within fits may = payload_is n left bytes rest within fits (inr (inr (ap length (may h.3))))
taken_all Faulted left n bytes rest ended h plain within fits may = absurd (cc)

take_none : (n : ℕ) → take {A = ℕ} n [] ≡ []
take_none zero = refl
take_none (suc n) = refl

-- the bytes that fit a buffer
fit_min : (xs : List ℕ) (n m : ℕ) → length xs ≡ n → take (min n m) xs ≡ take m xs
fit_min xs n m e = subst (λ x. take (min x m) xs ≡ take m xs) e (by xs m)
  where
    by : (ys : List ℕ) (j : ℕ) → take (min (length ys) j) ys ≡ take j ys
    by [] j = take_none (min 0 j) ∙ sym (take_none j)
    by (y ∷ ys) zero = let z : min (suc (length ys)) 0 ≡ 0 = omega arith in ap (λ x. take x (y ∷ ys)) z
    by (y ∷ ys) (suc j) = let z : min (suc (length ys)) (suc j) ≡ suc (min (length ys) j) = omega arith in ap (λ x. take x (y ∷ ys)) z ∙ ap (λ l. y ∷ l) (by ys j)

fit_length : (xs : List ℕ) (n m : ℕ) → length xs ≡ n → min n m ≡ length (take m xs)
fit_length xs n m e = subst (λ x. min x m ≡ length (take m xs)) e (by xs m)
  where
    by : (ys : List ℕ) (j : ℕ) → min (length ys) j ≡ length (take j ys)
    by [] zero = omega arith
    by [] (suc j) = omega arith
    by (y ∷ ys) zero = omega arith
    by (y ∷ ys) (suc j) = omega (arith, by ys j)

-- an input that is ready with bytes from a buffer, as it is seen
seen_ready : (s : ℕ → List ℕ) (k : Kernel) (buffer so_far len : ℕ) (truncated : Bool) (all : List ℕ) (t : Transfer) → length all ≡ so_far → buffer_bytes s (entry k.devices t.dev) (entry k.pools t.dev) buffer ≡ all
    → transfer_view s k.devices k.pools (first_waiting k.transfers) (at_work (ready_with buffer so_far truncated len t) (record t { dir = Inward })) ≡ gathered truncated len all (transfer_view s k.devices k.pools (first_waiting k.transfers) (record t { dir = Inward; phase = Posted; buffer = None }))
seen_ready s k buffer so_far len truncated all t size bytes = λ i. record (transfer_view s k.devices k.pools (first_waiting k.transfers) (at_work (ready_with buffer so_far truncated len t) (record t { dir = Inward }))) {
  payload = (ap (take (min so_far t.len)) bytes ∙ fit_min all so_far t.len size) i;
  stored = fit_length all so_far t.len size i;
}

-- device v of the kernel is v1 once its header is gathered, and has the datagram g
module _ (laws : GatheringLaws) (k : Kernel) (b : Bytes) (d h buffer : ℕ) (v v1 : DeviceView) (g : Present) (held bytes rest : List ℕ) (good : IsGood k) (there : entry k.devices d ≡ Some v) (f : Fills buffer held v v1 g) where
  abbrev so_far : ℕ
  so_far = g.moved + length bytes

  abbrev all : List ℕ
  all = held ++ bytes

  abbrev s : flat.State
  s = state_of k b

  abbrev dg : flat.Datagram
  dg = gathering_datagram g.header so_far all

  kind_before : v.config.kind ≡ Outboard
  kind_before = sym (ap (λ (c : DeviceConfig). c.kind) f.touches.config) ∙ f.kind

  unpooled : entry k.pools d ≡ None
  unpooled = outboard_unpooled k d v good there kind_before

  waits : AreWaiting d v k.transfers
  waits = are_waiting k d v good there unpooled

  pub all_size : length all ≡ so_far
  all_size = omega (arith, length-append held bytes, f.size)

  abbrev on : DeviceView
  on = filled_device buffer all g (length bytes) v1

  abbrev over : DeviceView
  over = arrived_device buffer all v1

  abbrev off : DeviceView
  off = dropped_device buffer all v1

  -- the datagram goes on
  goes_on_state : (sent : List ℕ) → set_device s d (flat_device v1 rest sent (Some dg)) ≡ state_of (with_device k d on) (with_rest d rest b)
  goes_on_state sent =
      let x : flat.Device = flat_device v1 rest sent (Some dg) in
      let seen = gathering_view b.seen.kept_bytes on (entry k.pools d) (receiver k.transfers d) (record g { moved = so_far }) buffer all f.kind unpooled f.place (filled_state buffer held bytes v v1 g f) all_size in
      set_state k b d v on rest x there (keeps_waiting buffer v on (filled_touches buffer held bytes v v1 g f)) unpooled waits (λ i. record x { present = Some (seen i); sent = b.sents d })

  -- it is over, and waits in its buffer
  over_state : (sent : List ℕ) → set_device s d (flat_device v1 rest sent None) ≡ state_of (with_device k d over) (with_rest d rest b)
  over_state sent = set_state k b d v over rest (flat_device v1 rest sent None) there (keeps_waiting buffer v over (arrived_touches buffer held bytes v v1 g f)) unpooled waits refl

  off_state : (sent : List ℕ) → set_device s d (flat_device v1 rest sent None) ≡ state_of (with_device k d off) (with_rest d rest b)
  off_state sent = set_state k b d v off rest (flat_device v1 rest sent None) there (keeps_waiting buffer v off (dropped_touches buffer held bytes v v1 g f)) unpooled waits refl

  -- the kernel then
  abbrev pub final_over : Bool → (o : Option ℕ) → Meets k d o → Kernel
  final_over truncated None m = with_device k d off
  final_over truncated (Some n) m = record k { devices = set k.devices d (Some over); transfers = worked (has_number n) (ready_with buffer so_far truncated g.header.len m.transfer) k.transfers; posted = without n k.posted }

  abbrev pub over_reply : Option ℕ → ℕ → Reply
  over_reply None m = reply.Dropped g.header.port g.header.flow g.header.len
  over_reply (Some n) m = reply.Got m

  -- the input that has it
  ready_state : (truncated : Bool) (n : ℕ) (m : IsMet k d n) → change_transfer (state_of (with_device k d over) (with_rest d rest b)) n (gathered truncated g.header.len all) ≡ state_of (final_over truncated (Some n) m) (with_rest d rest b)
  ready_state truncated n m =
      let k3 : Kernel = with_device k d over in
      let c : Bytes = with_rest d rest b in
      let t : Transfer = m.transfer in
      let work : Work = ready_with buffer so_far truncated g.header.len t in
      let held_now : buffer_bytes c.seen.kept_bytes (entry k3.devices t.dev) (entry k3.pools t.dev) buffer ≡ all =
      ap (λ j. buffer_bytes c.seen.kept_bytes (entry k3.devices j) (entry k3.pools j) buffer) m.dev
      ∙ (λ i. buffer_bytes c.seen.kept_bytes (entry_same k.devices d v (Some over) there i) (unpooled i) buffer)
      ∙ ap bytes_in (arrived_state buffer held bytes v v1 g f) in
      let is : record t { dir = Inward; phase = Posted; buffer = None } ≡ t = λ i. record t { dir = sym m.inward i; phase = sym m.posted i; buffer = sym m.unbuffered i } in
      let view : Transfer → flat.Transfer = transfer_view c.seen.kept_bytes k3.devices k3.pools (first_waiting k3.transfers) in
      let here : view (at_work work t) ≡ gathered truncated g.header.len all (view t) =
      (λ i. view (at_work work (record t { dir = m.inward i })))
      ∙ seen_ready c.seen.kept_bytes k3 buffer so_far g.header.len truncated all t all_size held_now
      ∙ ap (λ (u : Transfer). gathered truncated g.header.len all (view u)) is in
      sym (worked_state laws.orphans laws.transfers k3 c n work t (gathered truncated g.header.len all) m.found (ap is_queued m.posted) refl here
      (λ j i. option_map (device_view c.seen.kept_bytes (c.rests j) (c.sents j) (entry k3.pools j) (laws.receiver (has_number n) work t k.transfers j m.found (ap is_moving m.posted) refl i)) (entry k3.devices j)))

  -- the end of the datagram in the flat machine
  over_is : (truncated : Bool) (sent : List ℕ) (moved : ℕ) (o : Option ℕ) (m : Meets k d o) → posted_number (first address d g.header.port g.header.flow k.posted) ≡ o
      → complete (set_device s d (flat_device v1 rest sent None)) d dg truncated moved Gathering ≡ (state_of (final_over truncated o m) (with_rest d rest b), over_reply o moved)
  over_is truncated sent moved None m met =
      let met_here : first_posted (state_of (with_device k d off) (with_rest d rest b)) d g.header.port g.header.flow ≡ None = first_met (with_device k d off) (with_rest d rest b) d g.header.port g.header.flow k.posted good.posted ∙ met in
      ap (λ z. complete z d dg truncated moved Gathering) (off_state sent)
      ∙ ap (deliver (state_of (with_device k d off) (with_rest d rest b)) dg truncated moved) met_here
  over_is truncated sent moved (Some n) m met =
      let met_here : first_posted (state_of (with_device k d over) (with_rest d rest b)) d g.header.port g.header.flow ≡ Some n = first_met (with_device k d over) (with_rest d rest b) d g.header.port g.header.flow k.posted good.posted ∙ met in
      ap (λ z. complete z d dg truncated moved Gathering) (over_state sent)
      ∙ ap (deliver (state_of (with_device k d over) (with_rest d rest b)) dg truncated moved) met_here
      ∙ (λ i. (ready_state truncated n m i, reply.Got moved))

  abbrev pub final : Course → (o : Option ℕ) → Meets k d o → Kernel
  final GoesOn o m = with_device k d on
  final Ends o m = final_over false o m
  final IsTruncated o m = final_over true o m

  abbrev pub plain_reply : Course → Option ℕ → Reply
  plain_reply GoesOn o = reply.Got (h + length bytes)
  plain_reply Ends o = over_reply o (h + length bytes)
  plain_reply IsTruncated o = over_reply o 0

  -- so it goes on in the flat machine
  pub went_on : (end : BodyEnd) (ended : Bool) (n : ℕ) (sent : List ℕ) (before : Option flat.Datagram) (o : Option ℕ) (m : Meets k d o) → posted_number (first address d g.header.port g.header.flow k.posted) ≡ o → EndsPayload end (g.header.len - g.moved) n (length bytes) ended → g.moved ≤ g.header.len → 0 < h + n → 0 < h + (g.header.len - g.moved) → (is_faulted end ≡ true → 0 < h + length bytes)
      → go_on s d (flat_device v1 rest sent before) dg (h + length bytes) ≡ (state_of (final (course_of end h) o m) (with_rest d rest b), plain_reply (course_of end h) o)
  went_on More ended n sent before o m met ends fits some more faulted =
      let y : flat.Device = flat_device v1 rest sent before in
      let moved : (h + length bytes == 0) ≡ false = ne_eqb (h + length bytes) 0 (λ e. ⊎_elim (λ (z : length bytes ≡ n). absurd (omega (arith, some, z, e))) (λ (z : (0 < length bytes) × (ended ≡ true)). let l : 0 < length bytes = z.0 in absurd (omega (arith, l, e))) ends.1) in
      let l : length bytes < g.header.len - g.moved = ends.0 in
      goes_on s d y dg (h + length bytes) moved (ne_eqb so_far g.header.len (λ e. absurd (omega (arith, l, e)))) ∙ (λ i. (goes_on_state sent i, reply.Got (h + length bytes)))
  went_on Faulted ended n sent before o m met ends fits some more faulted =
      let y : flat.Device = flat_device v1 rest sent before in
      let z : 0 < h + length bytes = faulted refl in
      let l : length bytes < g.header.len - g.moved = ends.1 in
      goes_on s d y dg (h + length bytes) (ne_eqb (h + length bytes) 0 (λ e. absurd (omega (arith, z, e)))) (ne_eqb so_far g.header.len (λ e. absurd (omega (arith, l, e)))) ∙ (λ i. (goes_on_state sent i, reply.Got (h + length bytes)))
  went_on Whole ended n sent before o m met ends fits some more faulted =
      let y : flat.Device = flat_device v1 rest sent before in
      let whole : length bytes ≡ g.header.len - g.moved = ends in
      is_over s d y dg (h + length bytes) (ne_eqb (h + length bytes) 0 (λ e. absurd (omega (arith, more, whole, e)))) (eq-eqb so_far g.header.len (omega (arith, whole, fits))) ∙ over_is false sent (h + length bytes) o m met
  went_on Truncated ended n sent before o m met ends fits some more faulted = by (h == 0) refl
    where
      by : (z : Bool) → (h == 0) ≡ z → go_on s d (flat_device v1 rest sent before) dg (h + length bytes) ≡ (state_of (final (if z then IsTruncated else GoesOn) o m) (with_rest d rest b), plain_reply (if z then IsTruncated else GoesOn) o)
      by true e =
          let y : flat.Device = flat_device v1 rest sent before in
          let begins : h ≡ 0 = eqb-true h 0 e in
          let none : length bytes ≡ 0 = ends.0 in
          let zero_moved : h + length bytes ≡ 0 = omega (arith, begins, none) in
          is_cut_off s d y dg (h + length bytes) (eq-eqb (h + length bytes) 0 zero_moved) ∙ over_is true sent 0 o m met
      by false e =
          let y : flat.Device = flat_device v1 rest sent before in
          let none : length bytes ≡ 0 = ends.0 in
          let left : 0 < g.header.len - g.moved = ends.2 in
          goes_on s d y dg (h + length bytes) (ne_eqb (h + length bytes) 0 (λ z. eqb-false h 0 e (omega (arith, z)))) (ne_eqb so_far g.header.len (λ z. absurd (omega (arith, left, none, z)))) ∙ (λ i. (goes_on_state sent i, reply.Got (h + length bytes)))
