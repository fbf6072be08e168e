-- The header part of a receive step that begins no datagram.
use Rattle.std.proofs.Common.{◌≡◌, ℕ, ◌<◌, ◌≤◌, Bool, true, false, List, [], ◌++◌, refl, sym, ap, subst, arith, rules, ◌∙◌, ◌⊎◌, ⊎_elim, length, set, inl, inr, eqb-true}
use Rattle.std.specs.Prelude.{Option, Some, None, ◌==◌, ◌&&◌, not, nat_le, if◌then◌else◌}
use Rattle.std.specs.Option.{option_map}
use Rattle.std.specs.Io.KnownBytes.{Consumes, IsAtEnd}
use Rattle.std.proofs.lemmas.Bool.{ne_eqb}
use Rattle.genie_base.specs.Configs.{most}
use Rattle.genie_base.specs.Events.{mark_of}
use Rattle.genie_base.specs.Headers.{is_whole_header, is_valid_header}
use Rattle.genie_base.specs.declared.config.Kind.TheVariants.{Outboard}
use Rattle.genie_base.specs.declared.event.Event.TheVariants.{Recv}
use Rattle.genie_base.specs.declared.reply.Reply.{Reply}
use Rattle.genie_base.specs.declared.reply.Reply.TheVariants as reply
use Rattle.genie_device.specs.Buffers.{arrived_count, is_arrived, state_at}
use Rattle.genie_device.specs.Device.{DeviceView, handle_of, is_full, is_outboard}
use Rattle.genie_device.specs.Gathering.{judged, EndsHeader, HeaderCause, TakesHeader}
use Rattle.genie_device.specs.declared.steps.HeaderEnd.{HeaderEnd}
use Rattle.genie_device.specs.declared.steps.HeaderEnd.TheVariants.{More, Whole, Bad, Faulted}
use Rattle.genie_host.specs.Host.{HostView, OnlyHandle}
use Rattle.genie_wire.specs.Headers.{IsWhole, header_in}
use Rattle.genie_wire.specs.declared.header.Header.{Header}
use Rattle.genie_model.specs.Pending.{arrived, is_early}
use Rattle.genie_model.specs.Receiving.{header_reply, set_device, is_busy, is_between_records}
use Rattle.genie_model.specs.Refusing.{refuse}
use Rattle.genie_model.specs.Space.{Outcome, tidy}
use Rattle.genie_model.specs.State as flat
use Rattle.genie_model.specs.Tables.{entry}
use Rattle.genie_kernel.specs.declared.kernel.Kernel.{Kernel}
use Rattle.genie_kernel.specs.Calls.{receiver}
use Rattle.genie_kernel.specs.Devices.{device_view, datagram_view}
use Rattle.genie_kernel.specs.Good.{IsGood}
use Rattle.genie_kernel.specs.Steps.{Steps, StaysOrderly, DeviceCause, bytes_over}
use Rattle.genie_kernel.specs.Told.{input_at}
use Rattle.genie_kernel.specs.View.{Bytes, state_of, outline}
use Rattle.genie_kernel.specs.Lemmas.DeviceViews.{entry_view}
use Rattle.genie_kernel.specs.Lemmas.Tidying.{tidy_view}
use Rattle.genie_gathering.specs.Devices.{with_device, with_rest}
use Rattle.genie_gathering.specs.Gathering.{IsBetween}
use Rattle.genie_gathering.specs.Receiving.{Receives, MayBeLeft, input_of}
use Rattle.genie_gathering.proofs.Buffers.{KeepsWaiting}
use Rattle.genie_gathering.proofs.Bytes.{short_taken, append_none, none_taken}
use Rattle.genie_gathering.proofs.Counting.{as_many_arrived}
use Rattle.genie_gathering.proofs.Flat.{Gathers, device_changed, recv_more, recv_bad, may_fail_short}
use Rattle.genie_gathering.proofs.Good.{are_waiting, configured, device_good, outboard_unpooled}
use Rattle.genie_gathering.proofs.Kept.{kept_alone}
use Rattle.genie_gathering.proofs.Marking.{plain_steps, failed_steps, header_mark, zeros_with, zeros_rest, orderly_behind}
use Rattle.genie_gathering.proofs.Views.{device_state, set_same}

-- the device behind a step that gathered these bytes, and began no datagram
abbrev pub gathered_device : HeaderEnd → List ℕ → DeviceView → DeviceView
gathered_device More bytes v = record v { gathered = bytes }
gathered_device Faulted bytes v = record v { gathered = bytes }
gathered_device Bad bytes v = record v { gathered = []; is_bad = true }
gathered_device (Whole h) bytes v = v

abbrev pub gathered_reply : HeaderEnd → ℕ → Reply
gathered_reply More moved = header_reply moved
gathered_reply (Whole h) moved = reply.Got moved
gathered_reply Bad moved = reply.Bad
gathered_reply Faulted moved = reply.Fault moved

keeps : (end : HeaderEnd) (bytes : List ℕ) (v : DeviceView) → KeepsWaiting v (gathered_device end bytes v)
keeps More bytes v = record { config = refl; limit = refl; staged = refl; sent = refl; waiting = λ b e. refl }
keeps (Whole h) bytes v = record { config = refl; limit = refl; staged = refl; sent = refl; waiting = λ b e. refl }
keeps Bad bytes v = record { config = refl; limit = refl; staged = refl; sent = refl; waiting = λ b e. refl }
keeps Faulted bytes v = record { config = refl; limit = refl; staged = refl; sent = refl; waiting = λ b e. refl }

pub judged_whole : (b : Bool) (h : Header) (bytes : List ℕ) → Whole h ≡ (if b then Whole (header_in bytes) else Bad) → (b ≡ true) × (h ≡ header_in bytes)
judged_whole true h bytes e = (refl, cc)
judged_whole false h bytes e = absurd (cc)

judged_bad : (b : Bool) (bytes : List ℕ) → Bad ≡ (if b then Whole (header_in bytes) else Bad) → b ≡ false
judged_bad true bytes e = absurd (cc)
judged_bad false bytes e = refl

-- how a step ends, of what is needed here: whether it ended because the input had
abbrev pub EndsSo : HeaderEnd → (limit n : ℕ) (taken bytes : List ℕ) (ended : Bool) → Type 0
EndsSo More limit n taken bytes ended = (is_whole_header bytes ≡ false) × ((length taken ≡ n) ⊎ (ended ≡ true))
EndsSo (Whole h) limit n taken bytes ended = ⊥
EndsSo Bad limit n taken bytes ended = IsWhole bytes × (Bad ≡ judged limit bytes)
EndsSo Faulted limit n taken bytes ended = (is_whole_header bytes ≡ false) × (length taken < n)

-- a device that isn't full isn't busy
full_of : (o : Bool) (depth count : ℕ) → o ≡ true → (o && nat_le depth count) ≡ false → count < depth
full_of true depth count e h = grind (arith, rules, h)
full_of false depth count e h = absurd (cc)

pub not_busy : (k : Kernel) (b : Bytes) (d : ℕ) (v : DeviceView) (rest : List ℕ) → IsGood k → entry k.devices d ≡ Some v → v.config.kind ≡ Outboard → is_full v ≡ false → is_busy (state_of k b) d (device_view b.seen.kept_bytes rest (b.sents d) (entry k.pools d) (receiver k.transfers d) v) ≡ false
not_busy k b d v rest g there kind free =
    let x : flat.Device = device_view b.seen.kept_bytes rest (b.sents d) (entry k.pools d) (receiver k.transfers d) v in
    let few : arrived_count v.buffers < v.config.depth = full_of (is_outboard v.config.kind) v.config.depth (arrived_count v.buffers) (ap is_outboard kind) free in
    let count : arrived (state_of k b) d ≡ arrived_count v.buffers = as_many_arrived k b d v g there kind (outboard_unpooled k d v g there kind) in
    let apart : (arrived (state_of k b) d == v.config.depth) ≡ false = ne_eqb (arrived (state_of k b) d) v.config.depth (λ e. absurd (omega (arith, few, count, e))) in
    ap (λ c. is_between_records x && not (is_early v.config.kind) && c) apart ∙ none (is_between_records x) (not (is_early v.config.kind))
  where
    none : (p q : Bool) → (p && q && false) ≡ false
    none true true = refl
    none true false = refl
    none false q = refl

module _ (k : Kernel) (b : Bytes) (d n : ℕ) (v : DeviceView) (taken rest : List ℕ) (g : IsGood k) (there : entry k.devices d ≡ Some v) (kind : v.config.kind ≡ Outboard) (between : IsBetween v) (within : length taken ≤ n) (is : b.rests d ≡ taken ++ rest) where
  abbrev s : flat.State
  s = state_of k b

  abbrev bytes : List ℕ
  bytes = v.gathered ++ taken

  abbrev pub seen_before : flat.Device
  seen_before = device_view b.seen.kept_bytes (taken ++ rest) (b.sents d) (entry k.pools d) (receiver k.transfers d) v

  unpooled : entry k.pools d ≡ None
  unpooled = outboard_unpooled k d v g there kind

  limit : v.limit ≡ most v.config.kind k.config.page
  limit = (configured k d v g there).1

  at_device : entry s.devices d ≡ Some seen_before
  at_device = entry_view b.seen.kept_bytes b.rests b.sents k.pools (receiver k.transfers) k.devices d ∙ (λ i. option_map (device_view b.seen.kept_bytes (is i) (b.sents d) (entry k.pools d) (receiver k.transfers d)) (there i))

  pub gathers : Gathers s d seen_before
  gathers = record {
    there = at_device;
    good = between.good;
    free = not_busy k b d v (taken ++ rest) g there kind between.free;
    absent = ap (option_map (datagram_view b.seen.kept_bytes v (entry k.pools d) (receiver k.transfers d))) between.absent;
  }

  abbrev after : DeviceView → flat.State
  after w = state_of (with_device k d w) (with_rest d rest b)

  -- the new state, where the device is seen as x
  changed : (w : DeviceView) (x : flat.Device) → KeepsWaiting v w → device_view b.seen.kept_bytes rest (b.sents d) (entry k.pools d) (receiver k.transfers d) w ≡ x → x.sent ≡ b.sents d → after w ≡ set_device s d x
  changed w x kept e sent = device_state k b d v w rest x there kept unpooled (are_waiting k d v g there unpooled) e ∙ (λ i. record s { devices = set s.devices d (Some (record x { sent = sent i })) }) ∙ sym (device_changed s d seen_before x at_device)

  absent_before : seen_before.present ≡ None
  absent_before = ap (option_map (datagram_view b.seen.kept_bytes v (entry k.pools d) (receiver k.transfers d))) between.absent

  -- no datagram is present before and afterwards
  absent_still : (w : DeviceView) → w.present ≡ None → option_map (datagram_view b.seen.kept_bytes w (entry k.pools d) (receiver k.transfers d)) w.present ≡ seen_before.present
  absent_still w e = ap (option_map (datagram_view b.seen.kept_bytes w (entry k.pools d) (receiver k.transfers d))) e ∙ sym absent_before

  more_state : after (gathered_device More bytes v) ≡ set_device s d (record seen_before { rest = rest; header = bytes })
  more_state = changed (gathered_device More bytes v) (record seen_before { rest = rest; header = bytes }) (keeps More bytes v) (λ i. record seen_before { rest = rest; header = bytes; present = absent_still (gathered_device More bytes v) between.absent i }) refl

  bad_state : after (gathered_device Bad bytes v) ≡ set_device s d (record seen_before { rest = rest; header = []; is_bad = true })
  bad_state = changed (gathered_device Bad bytes v) (record seen_before { rest = rest; header = []; is_bad = true }) (keeps Bad bytes v) (λ i. record seen_before { rest = rest; header = []; is_bad = true; present = absent_still (gathered_device Bad bytes v) between.absent i }) refl

  -- no byte came, and nothing changed
  none_state : (length taken == 0) ≡ true → after (gathered_device Faulted bytes v) ≡ s
  none_state e =
      let empty : taken ≡ [] = none_taken taken (eqb-true (length taken) 0 e) in
      let header : bytes ≡ v.gathered = ap (λ l. v.gathered ++ l) empty ∙ append_none v.gathered in
      more_state ∙ device_changed s d seen_before (record seen_before { rest = rest; header = bytes }) at_device
      ∙ (λ i. record s { devices = set s.devices d (Some (record seen_before { rest = sym (ap (λ l. l ++ rest) empty) i; header = header i })) })
      ∙ ap (λ ds. record s { devices = ds }) (set_same s.devices d seen_before at_device)

  tidied : (w : DeviceView) → tidy (after w) ≡ after w
  tidied w = tidy_view (with_device k d w) (with_rest d rest b)

  ends_all : (ended : Bool) → (length taken ≡ n) ⊎ (ended ≡ true) → MayBeLeft ended rest → (length taken ≡ n) ⊎ (length rest ≡ 0)
  ends_all ended (inl e) left = inl e
  ends_all ended (inr e) left = inr (ap length (left e))

  pub header_steps : (end : HeaderEnd) (ended : Bool) → EndsSo end v.limit n taken bytes ended → MayBeLeft ended rest → Steps s (Recv d n) (after (gathered_device end bytes v)) (gathered_reply end (length taken))
  header_steps More ended ends left =
      let step = recv_more s d n seen_before taken rest gathers refl ends.0 (short_taken n v.gathered taken rest ends.0 within (ends_all ended ends.1 left)) in
      plain_steps s (after (gathered_device More bytes v)) (Recv d n) (header_reply (length taken)) (header_mark (length taken)) (tidied (gathered_device More bytes v)) ((λ i. (more_state i, header_reply (length taken))) ∙ sym step)
  header_steps Bad ended ends left =
      let bad : is_valid_header (most v.config.kind k.config.page) bytes ≡ false = subst (λ m. is_valid_header m bytes ≡ false) limit (judged_bad (is_valid_header v.limit bytes) bytes ends.1) in
      let step = recv_bad s d n seen_before taken rest gathers refl ends.0 within bad in
      plain_steps s (after (gathered_device Bad bytes v)) (Recv d n) reply.Bad refl (tidied (gathered_device Bad bytes v)) ((λ i. (bad_state i, reply.Bad)) ∙ sym step)
  header_steps (Whole h) ended ends left = absurd ends
  header_steps Faulted ended ends left =
      let may = may_fail_short s d seen_before taken rest gathers refl ends.0 in
      let fewer : length taken < n = ends.1 in
      let step = recv_more s d (length taken) seen_before taken rest gathers refl ends.0 (short_taken (length taken) v.gathered taken rest ends.0 (omega arith) (inl refl)) in
      failed_steps s (after (gathered_device Faulted bytes v)) (Recv d n) (length taken) (grind (arith, rules, may, fewer)) (tidied (gathered_device Faulted bytes v)) none_state (λ some. more_state ∙ sym (ap (λ (o : Outcome). o.0) step))

alike : (end : HeaderEnd) (all : List ℕ) (v : DeviceView) (b : ℕ) → is_arrived (state_at (gathered_device end all v).buffers b) ≡ is_arrived (state_at v.buffers b)
alike More all v b = refl
alike (Whole h) all v b = refl
alike Bad all v b = refl
alike Faulted all v b = refl

-- the kernel is good behind it
header_good : StaysOrderly → (k : Kernel) (d n : ℕ) (v : DeviceView) (taken : List ℕ) (end : HeaderEnd) (ended : Bool) → IsGood k → refuse (outline k) (Recv d n) ≡ None → entry k.devices d ≡ Some v → v.config.kind ≡ Outboard → IsBetween v
    → length taken ≤ n → EndsSo end v.limit n taken (v.gathered ++ taken) ended → IsGood (with_device k d (gathered_device end (v.gathered ++ taken) v))
header_good law k d n v taken end ended g accepted there kind between within ends =
    let w : DeviceView = gathered_device end (v.gathered ++ taken) v in
    let b : Bytes = zeros_with k.config.page d taken in
    let steps = header_steps k b d n v taken [] g there kind between within (zeros_rest k.config.page d taken ∙ sym (append_none taken)) end ended ends (λ e. refl) in
    device_good k d v w g there kind (keeps end (v.gathered ++ taken) v) (alike end (v.gathered ++ taken) v) (orderly_behind law k (with_device k d w) d n (gathered_reply end (length taken)) taken [] g accepted refl steps)

-- how a step ended over a host
record Ending (end : HeaderEnd) (limit n : ℕ) (taken bytes : List ℕ) (told : Option (List ℕ)) : Type 0 where
  pub ended : Bool
  pub so : EndsSo end limit n taken bytes ended
  pub at_end : ended ≡ true → IsAtEnd told

-- the header isn't whole and valid
abbrev pub is_over : HeaderEnd → Bool
is_over More = true
is_over (Whole h) = false
is_over Bad = true
is_over Faulted = true

ending : (end : HeaderEnd) (limit n : ℕ) (taken bytes : List ℕ) (told : Option (List ℕ)) → is_over end ≡ true → EndsHeader end limit n (length taken) bytes told → Ending end limit n taken bytes told
ending More limit n taken bytes told o h = ⊎_elim
    (λ (all : length taken ≡ n). record { ended = false; so = (h.0, inl all); at_end = λ e. absurd (cc) })
    (λ (at : IsAtEnd told). record { ended = true; so = (h.0, inr refl); at_end = λ e. at })
    h.1
ending (Whole x) limit n taken bytes told o h = absurd (cc)
ending Bad limit n taken bytes told o h = record { ended = false; so = h; at_end = λ e. absurd (cc) }
ending Faulted limit n taken bytes told o h = record { ended = false; so = h; at_end = λ e. absurd (cc) }

caused : (end : HeaderEnd) (moved before now : ℕ) → is_over end ≡ true → HeaderCause end before now → DeviceCause (mark_of (gathered_reply end moved)) before now
caused More moved before now o h = subst (λ m. DeviceCause m before now) (sym (header_mark moved)) h
caused (Whole x) moved before now o h = absurd (cc)
caused Bad moved before now o h = h
caused Faulted moved before now o h = h

-- the handle of a device
pub handle_is : (k : Kernel) (d : ℕ) (v : DeviceView) → IsGood k → entry k.devices d ≡ Some v → input_of k.config d ≡ handle_of v.config.input
handle_is k d v g there = ap (λ o. handle_of (input_at o)) (configured k d v g there).0

pub header_receives : StaysOrderly → (k : Kernel) (d n : ℕ) (v : DeviceView) (taken : List ℕ) (moved : ℕ) (end : HeaderEnd) (before after : HostView) → IsGood k → refuse (outline k) (Recv d n) ≡ None → entry k.devices d ≡ Some v → v.config.kind ≡ Outboard → IsBetween v → is_over end ≡ true
    → TakesHeader (handle_of v.config.input) v.limit n before after v.gathered taken moved end → Receives d n before after k (with_device k d (gathered_device end (v.gathered ++ taken) v)) (gathered_reply end moved)
header_receives law k d n v taken moved end before after g accepted there kind between over takes =
    let handle = handle_is k d v g there in
    let within : length taken ≤ n = subst (λ m. m ≤ n) (sym takes.size) takes.within in
    let e = ending end v.limit n taken (v.gathered ++ taken) (after.handle (handle_of v.config.input)).bytes over (subst (λ m. EndsHeader end v.limit n m (v.gathered ++ taken) (after.handle (handle_of v.config.input)).bytes) (sym takes.size) takes.ends) in
    let new : Kernel = with_device k d (gathered_device end (v.gathered ++ taken) v) in
    record {
      good = header_good law k d n v taken end e.ended g accepted there kind between within e.so;
      kept = kept_alone k new g refl refl;
      config = refl;
      numbers = refl;
      memory = refl;
      taken = taken;
      ended = e.ended;
      only = subst (λ a. OnlyHandle a before after) (sym handle) takes.only;
      bytes = subst (λ a. Consumes (before.handle a).bytes (after.handle a).bytes taken) (sym handle) takes.bytes;
      at_end = subst (λ a. e.ended ≡ true → IsAtEnd (after.handle a).bytes) (sym handle) e.at_end;
      cause = subst (λ a. DeviceCause (mark_of (gathered_reply end moved)) (before.handle a).faults (after.handle a).faults) (sym handle) (caused end moved (before.handle (handle_of v.config.input)).faults (after.handle (handle_of v.config.input)).faults over takes.cause);
      steps = λ slots rests sents rest place left.
          let b : Bytes = bytes_over k.memory slots rests sents in
          subst (λ m. Steps (state_of k b) (Recv d n) (state_of new (with_rest d rest b)) (gathered_reply end m)) takes.size
          (header_steps k b d n v taken rest g there kind between within place end e.ended e.so left);
    }
