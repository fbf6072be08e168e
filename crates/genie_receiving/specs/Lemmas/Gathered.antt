-- The header part of a receive step that begins no input.
use Rattle.std.proofs.Common.{◌≡◌, ℕ, ◌<◌, ◌≤◌, Bool, true, false, cond, List, [], ◌∷◌, ◌++◌, refl, sym, ap, subst, arith, rules, ◌∙◌, ◌⊎◌, ⊎_elim, map, length, set, inl, inr, eqb-true, zero, suc}
use Rattle.std.specs.Prelude.{Option, Some, None, IfSome, find, filter, min, ◌==◌, ◌&&◌, if◌then◌else◌, is_some}
use Rattle.std.specs.Option.{option_map}
use Rattle.std.specs.Io.KnownBytes.{Consumes, IsAtEnd}
use Rattle.genie_base.specs.Configs.{most}
use Rattle.genie_base.specs.Events.{mark_of}
use Rattle.genie_base.specs.Headers.{is_whole_header, is_valid_header, port_in, flow_in}
use Rattle.genie_base.specs.Posted.{meets, first}
use Rattle.genie_base.specs.declared.config.Kind.{Kind}
use Rattle.genie_base.specs.declared.config.Kind.TheVariants.{Early, Pooled, Outboard}
use Rattle.genie_base.specs.declared.event.Event.TheVariants.{Recv}
use Rattle.genie_base.specs.declared.reply.Reply.{Reply}
use Rattle.genie_base.specs.declared.reply.Reply.TheVariants as reply
use Rattle.genie_demux.specs.declared.input.Input.{Input}
use Rattle.genie_demux.specs.Posted.{address, number_of as posted_number}
use Rattle.genie_device.specs.Device.{DeviceView, handle_of}
use Rattle.genie_device.specs.Gathering.{judged, EndsHeader, HeaderCause, TakesHeader}
use Rattle.genie_device.specs.declared.present.Present.{Present}
use Rattle.genie_device.specs.declared.steps.HeaderEnd.{HeaderEnd}
use Rattle.genie_device.specs.declared.steps.HeaderEnd.TheVariants.{More, Whole, Bad, Faulted}
use Rattle.genie_host.specs.Host.{HostView, OnlyHandle}
use Rattle.genie_input.specs.Pools.{PoolState}
use Rattle.genie_wire.specs.Headers.{IsWhole, header_in}
use Rattle.genie_wire.specs.declared.header.Header.{Header}
use Rattle.genie_model.specs.Pending.{is_early, is_posted, awaits, first_posted}
use Rattle.genie_model.specs.Receiving.{skipped, datagram, header_reply, set_device, is_busy}
use Rattle.genie_model.specs.Refusing.{refuse}
use Rattle.genie_model.specs.Space.{Outcome, tidy}
use Rattle.genie_model.specs.State as flat
use Rattle.genie_model.specs.Tables.{entry}
use Rattle.genie_model.specs.declared.fate.Fate.TheVariants.{Skipped}
use Rattle.genie_kernel.specs.declared.kernel.Kernel.{Kernel}
use Rattle.genie_kernel.specs.declared.transfer.Transfer.{Transfer}
use Rattle.genie_kernel.specs.Calls.{receiver, first_waiting, number_of}
use Rattle.genie_kernel.specs.Devices.{device_view, datagram_view, fate_of, gathered_in, filling}
use Rattle.genie_kernel.specs.Good.{IsGood}
use Rattle.genie_kernel.specs.Matching.{posted_as, is_filling_pool}
use Rattle.genie_kernel.specs.Steps.{Steps, StaysOrderly, DeviceCause, bytes_over}
use Rattle.genie_kernel.specs.Told.{input_at}
use Rattle.genie_kernel.specs.Transfers.{transfer_view}
use Rattle.genie_kernel.specs.View.{Bytes, state_of, outline}
use Rattle.genie_kernel.specs.Lemmas.DeviceViews.{entry_view}
use Rattle.genie_kernel.specs.Lemmas.Processes.{find_map}
use Rattle.genie_kernel.specs.Lemmas.Tidying.{tidy_view}
use Rattle.genie_receiving.specs.Devices.{with_device, with_rest, KeepsPayload}
use Rattle.genie_receiving.specs.Gathering.{IsBetween}
use Rattle.genie_receiving.specs.Receiving.{Receives, MayBeLeft, input_of}
use Rattle.genie_receiving.specs.Lemmas.Bytes.{short_taken, append_none, none_taken}
use Rattle.genie_receiving.specs.Lemmas.Flat.{Gathers, device_changed, recv_more, recv_bad, recv_skipped, may_fail_short}
use Rattle.genie_receiving.specs.Lemmas.Good.{early_unpooled, none_received, configured, device_good}
use Rattle.genie_receiving.specs.Lemmas.Kept.{kept_alone}
use Rattle.genie_receiving.specs.Lemmas.Marking.{plain_steps, failed_steps, header_mark, zeros_with, zeros_rest, orderly_behind}
use Rattle.genie_receiving.specs.Lemmas.Views.{device_state}

-- the device behind a step that gathered these bytes, and began no datagram that goes to an input
abbrev pub gathered_device : HeaderEnd → List ℕ → DeviceView → DeviceView
gathered_device More bytes v = record v { gathered = bytes }
gathered_device Faulted bytes v = record v { gathered = bytes }
gathered_device Bad bytes v = record v { gathered = []; is_bad = true }
gathered_device (Whole h) bytes v = record v { gathered = []; present = if h.len == 0 then None else Some (record { header = h; moved = 0; buffer = None }) }

abbrev pub gathered_reply : HeaderEnd → ℕ → Reply
gathered_reply More moved = header_reply moved
gathered_reply (Whole h) moved = reply.Dropped h.port h.flow h.len
gathered_reply Bad moved = reply.Bad
gathered_reply Faulted moved = reply.Fault moved

-- the step keeps the payload
keeps : (end : HeaderEnd) (bytes : List ℕ) (v : DeviceView) → KeepsPayload v (gathered_device end bytes v)
keeps More bytes v = record { config = refl; limit = refl; buffers = refl; staged = refl; sent = refl }
keeps (Whole h) bytes v = record { config = refl; limit = refl; buffers = refl; staged = refl; sent = refl }
keeps Bad bytes v = record { config = refl; limit = refl; buffers = refl; staged = refl; sent = refl }
keeps Faulted bytes v = record { config = refl; limit = refl; buffers = refl; staged = refl; sent = refl }

-- the first posted input that a record meets is that of the flat machine
pub found_posted : (q : Input → Bool) (ts : List Transfer) → posted_number (find q (map posted_as (filter (λ (t : Transfer). is_posted t.phase) ts))) ≡ option_map number_of (find (λ (t : Transfer). is_posted t.phase && q (posted_as t)) ts)
found_posted q [] = refl
found_posted q (t ∷ ts) = elim (is_posted t.phase) as (λ b. posted_number (find q (map posted_as (cond b (t ∷ filter (λ (u : Transfer). is_posted u.phase) ts) (filter (λ (u : Transfer). is_posted u.phase) ts)))) ≡ option_map number_of (cond (b && q (posted_as t)) (Some t) (find (λ (u : Transfer). is_posted u.phase && q (posted_as u)) ts))) [
  | true ↦ elim (q (posted_as t)) as (λ c. posted_number (cond c (Some (posted_as t)) (find q (map posted_as (filter (λ (u : Transfer). is_posted u.phase) ts)))) ≡ option_map number_of (cond c (Some t) (find (λ (u : Transfer). is_posted u.phase && q (posted_as u)) ts))) [ true ↦ refl | false ↦ found_posted q ts ]
  | false ↦ found_posted q ts
]

number_view : (f : Transfer → flat.Transfer) → ((t : Transfer) → (f t).number ≡ number_of t) → (o : Option Transfer) → option_map (λ (t : flat.Transfer). t.number) (option_map f o) ≡ option_map number_of o
number_view f same None = refl
number_view f same (Some t) = ap Some (same t)

pub first_met : (k : Kernel) (b : Bytes) (d port : ℕ) (flow : Option ℕ) → IsGood k → first_posted (state_of k b) d port flow ≡ posted_number (first address d port flow k.posted)
first_met k b d port flow g =
    let view : Transfer → flat.Transfer = transfer_view b.seen.kept_bytes k.devices k.pools (first_waiting k.transfers) in
    ap (option_map (λ (t : flat.Transfer). t.number)) (find_map (awaits d port flow) view k.transfers)
    ∙ number_view view (λ t. refl) (find (λ t. awaits d port flow (view t)) k.transfers)
    ∙ sym (ap (λ ps. posted_number (first address d port flow ps)) g.posted.listed ∙ found_posted (λ (x : Input). meets d port flow (address x)) k.transfers)

pub early_kind : (kind : Kind) → is_early kind ≡ true → kind ≡ Early
early_kind Early e = refl
early_kind Pooled e = absurd (cc)
early_kind Outboard e = absurd (cc)

-- a datagram that is skipped
skips : (s : ℕ → List ℕ) (w : DeviceView) (pool : Option PoolState) (r : Option Transfer) (h : Header) → w.config.kind ≡ Early → pool ≡ None → r ≡ None
    → datagram_view s w pool r (record { header = h; moved = 0; buffer = None }) ≡ record { port = h.port; flow = h.flow; len = h.len; moved = 0; fate = Skipped; bytes = [] }
skips s w pool r h kind unpooled none = λ i. record {
  port = h.port;
  flow = h.flow;
  len = h.len;
  moved = 0;
  fate = fate_of (kind i) (none i);
  bytes = gathered_in s w (unpooled i) 0 (filling (unpooled i) (record { header = h; moved = 0; buffer = None }));
}

skipped_present : (c : Bool) (f : Present → flat.Datagram) (g : Present) (x : flat.Datagram) → f g ≡ x → option_map f (if c then None else Some g) ≡ (if c then None else Some x)
skipped_present true f g x e = refl
skipped_present false f g x e = ap Some e

pub judged_whole : (b : Bool) (h : Header) (bytes : List ℕ) → Whole h ≡ (if b then Whole (header_in bytes) else Bad) → (b ≡ true) × (h ≡ header_in bytes)
judged_whole true h bytes e = (refl, cc)
judged_whole false h bytes e = absurd (cc)

judged_bad : (b : Bool) (bytes : List ℕ) → Bad ≡ (if b then Whole (header_in bytes) else Bad) → b ≡ false
judged_bad true bytes e = absurd (cc)
judged_bad false bytes e = refl

pub set_same : {X : Type 0} (xs : List (Option X)) (d : ℕ) (x : X) → entry xs d ≡ Some x → set xs d (Some x) ≡ xs
set_same [] d x e = refl
set_same (y ∷ xs) zero x e = ap (λ z. z ∷ xs) (sym e)
set_same (y ∷ xs) (suc d) x e = ap (λ zs. y ∷ zs) (set_same xs d x e)

-- how a step ends, of what is needed here: whether it ended because the input had
abbrev pub EndsSo : HeaderEnd → (limit n : ℕ) (taken bytes : List ℕ) (ended : Bool) → Type 0
EndsSo More limit n taken bytes ended = (is_whole_header bytes ≡ false) × ((length taken ≡ n) ⊎ (ended ≡ true))
EndsSo (Whole h) limit n taken bytes ended = IsWhole bytes × (Whole h ≡ judged limit bytes)
EndsSo Bad limit n taken bytes ended = IsWhole bytes × (Bad ≡ judged limit bytes)
EndsSo Faulted limit n taken bytes ended = (is_whole_header bytes ≡ false) × (length taken < n)

-- an early device skips the record that a whole header begins
abbrev pub IsSkipped : HeaderEnd → Kernel → ℕ → DeviceView → Type 0
IsSkipped More k d v = Unit {0}
IsSkipped Bad k d v = Unit {0}
IsSkipped Faulted k d v = Unit {0}
IsSkipped (Whole h) k d v = (is_early v.config.kind ≡ true) × (first address d h.port h.flow k.posted ≡ None)

module _ (k : Kernel) (b : Bytes) (d n : ℕ) (v : DeviceView) (taken rest : List ℕ) (g : IsGood k) (there : entry k.devices d ≡ Some v) (between : IsBetween v) (within : length taken ≤ n) (is : b.rests d ≡ taken ++ rest) where
  abbrev s : flat.State
  s = state_of k b

  abbrev bytes : List ℕ
  bytes = v.gathered ++ taken

  abbrev pub seen_before : flat.Device
  seen_before = device_view b.seen.kept_bytes (taken ++ rest) (b.sents d) (entry k.pools d) (receiver k.transfers d) v

  unreceived : receiver k.transfers d ≡ None
  unreceived = none_received k d v g there between.absent

  limit : v.limit ≡ most v.config.kind k.config.page
  limit = (configured k d v g there).1

  pub gathers : is_busy s d seen_before ≡ false → Gathers s d seen_before
  gathers free = record {
    there = entry_view b.seen.kept_bytes b.rests b.sents k.pools (receiver k.transfers) k.devices d ∙ (λ i. option_map (device_view b.seen.kept_bytes (is i) (b.sents d) (entry k.pools d) (receiver k.transfers d)) (there i));
    good = between.good;
    free = free;
    absent = ap (option_map (datagram_view b.seen.kept_bytes v (entry k.pools d) (receiver k.transfers d))) between.absent;
  }

  abbrev after : DeviceView → flat.State
  after w = state_of (with_device k d w) (with_rest d rest b)

  absent_before : seen_before.present ≡ None
  absent_before = ap (option_map (datagram_view b.seen.kept_bytes v (entry k.pools d) (receiver k.transfers d))) between.absent

  -- the new state, where the device is seen as x
  changed : (w : DeviceView) (x : flat.Device) → KeepsPayload v w → device_view b.seen.kept_bytes rest (b.sents d) (entry k.pools d) (receiver k.transfers d) w ≡ x → x.sent ≡ b.sents d → after w ≡ set_device s d x
  changed w x kept e sent =
      let entry_is : entry s.devices d ≡ Some seen_before = entry_view b.seen.kept_bytes b.rests b.sents k.pools (receiver k.transfers) k.devices d ∙ (λ i. option_map (device_view b.seen.kept_bytes (is i) (b.sents d) (entry k.pools d) (receiver k.transfers d)) (there i)) in
      device_state k b d v w rest x there kept e ∙ (λ i. record s { devices = set s.devices d (Some (record x { sent = sent i })) }) ∙ sym (device_changed s d seen_before x entry_is)

  -- no datagram is present before and afterwards
  absent_still : (w : DeviceView) → w.present ≡ None → option_map (datagram_view b.seen.kept_bytes w (entry k.pools d) (receiver k.transfers d)) w.present ≡ seen_before.present
  absent_still w e = ap (option_map (datagram_view b.seen.kept_bytes w (entry k.pools d) (receiver k.transfers d))) e ∙ sym absent_before

  more_state : after (gathered_device More bytes v) ≡ set_device s d (record seen_before { rest = rest; header = bytes })
  more_state = changed (gathered_device More bytes v) (record seen_before { rest = rest; header = bytes }) (keeps More bytes v) (λ i. record seen_before { rest = rest; header = bytes; present = absent_still (gathered_device More bytes v) between.absent i }) refl

  bad_state : after (gathered_device Bad bytes v) ≡ set_device s d (record seen_before { rest = rest; header = []; is_bad = true })
  bad_state = changed (gathered_device Bad bytes v) (record seen_before { rest = rest; header = []; is_bad = true }) (keeps Bad bytes v) (λ i. record seen_before { rest = rest; header = []; is_bad = true; present = absent_still (gathered_device Bad bytes v) between.absent i }) refl

  abbrev skipper : DeviceView
  skipper = gathered_device (Whole (header_in bytes)) bytes v

  skipped_is : is_early v.config.kind ≡ true → option_map (datagram_view b.seen.kept_bytes skipper (entry k.pools d) (receiver k.transfers d)) skipper.present ≡ skipped bytes
  skipped_is early = skipped_present ((header_in bytes).len == 0) (datagram_view b.seen.kept_bytes skipper (entry k.pools d) (receiver k.transfers d)) (record { header = header_in bytes; moved = 0; buffer = None }) (datagram bytes Skipped) (skips b.seen.kept_bytes skipper (entry k.pools d) (receiver k.transfers d) (header_in bytes) (early_kind v.config.kind early) (early_unpooled k d v g there early) unreceived)

  skipped_state : is_early v.config.kind ≡ true → after skipper ≡ set_device s d (record seen_before { rest = rest; header = []; present = skipped bytes })
  skipped_state early = changed skipper (record seen_before { rest = rest; header = []; present = skipped bytes }) (keeps (Whole (header_in bytes)) bytes v) (λ i. record seen_before { rest = rest; header = []; present = skipped_is early i }) refl

  -- no byte came, and nothing changed
  none_state : (length taken == 0) ≡ true → after (gathered_device Faulted bytes v) ≡ s
  none_state e =
      let empty : taken ≡ [] = none_taken taken (eqb-true (length taken) 0 e) in
      let header : bytes ≡ v.gathered = ap (λ l. v.gathered ++ l) empty ∙ append_none v.gathered in
      let entry_is : entry s.devices d ≡ Some seen_before = entry_view b.seen.kept_bytes b.rests b.sents k.pools (receiver k.transfers) k.devices d ∙ (λ i. option_map (device_view b.seen.kept_bytes (is i) (b.sents d) (entry k.pools d) (receiver k.transfers d)) (there i)) in
      more_state ∙ device_changed s d seen_before (record seen_before { rest = rest; header = bytes }) entry_is
      ∙ (λ i. record s { devices = set s.devices d (Some (record seen_before { rest = sym (ap (λ l. l ++ rest) empty) i; header = header i })) })
      ∙ ap (λ ds. record s { devices = ds }) (set_same s.devices d seen_before entry_is)

  tidied : (w : DeviceView) → tidy (after w) ≡ after w
  tidied w = tidy_view (with_device k d w) (with_rest d rest b)

  ends_all : (ended : Bool) → (length taken ≡ n) ⊎ (ended ≡ true) → MayBeLeft ended rest → (length taken ≡ n) ⊎ (length rest ≡ 0)
  ends_all ended (inl e) left = inl e
  ends_all ended (inr e) left = inr (ap length (left e))

  pub gathered_steps : (end : HeaderEnd) (ended : Bool) → is_busy s d seen_before ≡ false → IsSkipped end k d v → EndsSo end v.limit n taken bytes ended → MayBeLeft ended rest → Steps s (Recv d n) (after (gathered_device end bytes v)) (gathered_reply end (length taken))
  gathered_steps More ended free skip ends left =
      let step = recv_more s d n seen_before taken rest (gathers free) refl ends.0 (short_taken n v.gathered taken rest ends.0 within (ends_all ended ends.1 left)) in
      plain_steps s (after (gathered_device More bytes v)) (Recv d n) (header_reply (length taken)) (header_mark (length taken)) (tidied (gathered_device More bytes v)) ((λ i. (more_state i, header_reply (length taken))) ∙ sym step)
  gathered_steps Bad ended free skip ends left =
      let bad : is_valid_header (most v.config.kind k.config.page) bytes ≡ false = subst (λ m. is_valid_header m bytes ≡ false) limit (judged_bad (is_valid_header v.limit bytes) bytes ends.1) in
      let step = recv_bad s d n seen_before taken rest (gathers free) refl ends.0 within bad in
      plain_steps s (after (gathered_device Bad bytes v)) (Recv d n) reply.Bad refl (tidied (gathered_device Bad bytes v)) ((λ i. (bad_state i, reply.Bad)) ∙ sym step)
  gathered_steps (Whole h) ended free skip ends left =
      let judge = judged_whole (is_valid_header v.limit bytes) h bytes ends.1 in
      let good : is_valid_header (most v.config.kind k.config.page) bytes ≡ true = subst (λ m. is_valid_header m bytes ≡ true) limit judge.0 in
      let none : first_posted s d (port_in bytes) (flow_in bytes) ≡ None = subst (λ (x : Header). first_posted s d x.port x.flow ≡ None) judge.1 (first_met k b d h.port h.flow g ∙ ap posted_number skip.1) in
      let step = recv_skipped s d n seen_before taken rest (gathers free) refl ends.0 within good skip.0 none in
      subst (λ (x : Header). Steps s (Recv d n) (after (gathered_device (Whole x) bytes v)) (gathered_reply (Whole x) (length taken))) (sym judge.1)
      (plain_steps s (after skipper) (Recv d n) (gathered_reply (Whole (header_in bytes)) (length taken)) refl (tidied skipper) ((λ i. (skipped_state skip.0 i, gathered_reply (Whole (header_in bytes)) (length taken))) ∙ sym step))
  gathered_steps Faulted ended free skip ends left =
      let may = may_fail_short s d seen_before taken rest (gathers free) refl ends.0 in
      let fewer : length taken < n = ends.1 in
      let step = recv_more s d (length taken) seen_before taken rest (gathers free) refl ends.0 (short_taken (length taken) v.gathered taken rest ends.0 (omega arith) (inl refl)) in
      failed_steps s (after (gathered_device Faulted bytes v)) (Recv d n) (length taken) (grind (arith, rules, may, fewer)) (tidied (gathered_device Faulted bytes v)) none_state (λ no. more_state ∙ sym (ap (λ (o : Outcome). o.0) step))

-- what a step of a header of device d may not be: busy
abbrev pub IsFree : Kernel → ℕ → DeviceView → Type 0
IsFree k d v = (b : Bytes) (rest : List ℕ) → is_busy (state_of k b) d (device_view b.seen.kept_bytes rest (b.sents d) (entry k.pools d) (receiver k.transfers d) v) ≡ false

both_false : (a c : Bool) (o : Option PoolState) → o ≡ None → (a && is_some o) ≡ (c && is_some o)
both_false a c o e = ap (λ (x : Option PoolState). a && is_some x) e ∙ none_and a ∙ sym (ap (λ (x : Option PoolState). c && is_some x) e ∙ none_and c)
  where
    none_and : (x : Bool) → (x && false) ≡ false
    none_and true = refl
    none_and false = refl

filling_same : (k : Kernel) (d : ℕ) (v : DeviceView) (end : HeaderEnd) (all : List ℕ) → IsGood k → entry k.devices d ≡ Some v → IsSkipped end k d v → is_filling_pool (Some (gathered_device end all v)) (entry k.pools d) ≡ is_filling_pool (Some v) (entry k.pools d)
filling_same k d v More all g there skip = refl
filling_same k d v Bad all g there skip = refl
filling_same k d v Faulted all g there skip = refl
filling_same k d v (Whole h) all g there skip = both_false (is_some (gathered_device (Whole h) all v).present) (is_some v.present) (entry k.pools d) (early_unpooled k d v g there skip.0)

-- the kernel is good behind it
pub gathered_good : StaysOrderly → (k : Kernel) (d n : ℕ) (v : DeviceView) (taken : List ℕ) (end : HeaderEnd) (ended : Bool) → IsGood k → refuse (outline k) (Recv d n) ≡ None → entry k.devices d ≡ Some v → IsBetween v → IsFree k d v → IsSkipped end k d v
    → length taken ≤ n → EndsSo end v.limit n taken (v.gathered ++ taken) ended → IsGood (with_device k d (gathered_device end (v.gathered ++ taken) v))
gathered_good law k d n v taken end ended g accepted there between free skip within ends =
    let w : DeviceView = gathered_device end (v.gathered ++ taken) v in
    let b : Bytes = zeros_with k.config.page d taken in
    let steps = gathered_steps k b d n v taken [] g there between within (zeros_rest k.config.page d taken ∙ sym (append_none taken)) end ended (free b (taken ++ [])) skip ends (λ e. refl) in
    let none = none_received k d v g there between.absent in
    device_good k d v w g there (keeps end (v.gathered ++ taken) v) (filling_same k d v end (v.gathered ++ taken) g there skip)
    (unstored w.present (receiver k.transfers d) none)
    (orderly_behind law k (with_device k d w) d n (gathered_reply end (length taken)) taken [] g accepted refl steps)
  where
    use_none : (p : Present) (o : Option Transfer) → o ≡ None → IfSome o (λ (t : Transfer). t.stored ≡ min p.moved t.len)
    use_none p o e = subst (λ (x : Option Transfer). IfSome x (λ (t : Transfer). t.stored ≡ min p.moved t.len)) (sym e) tt

    unstored : (p : Option Present) (o : Option Transfer) → o ≡ None → IfSome p (λ (q : Present). IfSome o (λ (t : Transfer). t.stored ≡ min q.moved t.len))
    unstored None o e = tt
    unstored (Some q) o e = use_none q o e

-- how a step ended over a host
record Ending (end : HeaderEnd) (limit n : ℕ) (taken bytes : List ℕ) (told : Option (List ℕ)) : Type 0 where
  pub ended : Bool
  pub so : EndsSo end limit n taken bytes ended
  pub at_end : ended ≡ true → IsAtEnd told

ending : (end : HeaderEnd) (limit n : ℕ) (taken bytes : List ℕ) (told : Option (List ℕ)) → EndsHeader end limit n (length taken) bytes told → Ending end limit n taken bytes told
ending More limit n taken bytes told h = ⊎_elim
    (λ (all : length taken ≡ n). record { ended = false; so = (h.0, inl all); at_end = λ e. absurd (cc) })
    (λ (at : IsAtEnd told). record { ended = true; so = (h.0, inr refl); at_end = λ e. at })
    h.1
ending (Whole x) limit n taken bytes told h = record { ended = false; so = h; at_end = λ e. absurd (cc) }
ending Bad limit n taken bytes told h = record { ended = false; so = h; at_end = λ e. absurd (cc) }
ending Faulted limit n taken bytes told h = record { ended = false; so = h; at_end = λ e. absurd (cc) }

caused : (end : HeaderEnd) (moved before now : ℕ) → HeaderCause end before now → DeviceCause (mark_of (gathered_reply end moved)) before now
caused More moved before now h = subst (λ m. DeviceCause m before now) (sym (header_mark moved)) h
caused (Whole x) moved before now h = h
caused Bad moved before now h = h
caused Faulted moved before now h = h

-- the handle of a device
pub handle_is : (k : Kernel) (d : ℕ) (v : DeviceView) → IsGood k → entry k.devices d ≡ Some v → input_of k.config d ≡ handle_of v.config.input
handle_is k d v g there = ap (λ o. handle_of (input_at o)) (configured k d v g there).0

pub gathered_receives : StaysOrderly → (k : Kernel) (d n : ℕ) (v : DeviceView) (taken : List ℕ) (moved : ℕ) (end : HeaderEnd) (before after : HostView) → IsGood k → refuse (outline k) (Recv d n) ≡ None → entry k.devices d ≡ Some v → IsBetween v → IsFree k d v → IsSkipped end k d v
    → TakesHeader (handle_of v.config.input) v.limit n before after v.gathered taken moved end → Receives d n before after k (with_device k d (gathered_device end (v.gathered ++ taken) v)) (gathered_reply end moved)
gathered_receives law k d n v taken moved end before after g accepted there between free skip takes =
    let handle = handle_is k d v g there in
    let within : length taken ≤ n = subst (λ m. m ≤ n) (sym takes.size) takes.within in
    let e = ending end v.limit n taken (v.gathered ++ taken) (after.handle (handle_of v.config.input)).bytes (subst (λ m. EndsHeader end v.limit n m (v.gathered ++ taken) (after.handle (handle_of v.config.input)).bytes) (sym takes.size) takes.ends) in
    let new : Kernel = with_device k d (gathered_device end (v.gathered ++ taken) v) in
    record {
      good = gathered_good law k d n v taken end e.ended g accepted there between free skip within e.so;
      kept = kept_alone k new g refl refl;
      config = refl;
      numbers = refl;
      memory = refl;
      landed = omega arith;
      taken = taken;
      ended = e.ended;
      only = subst (λ a. OnlyHandle a before after) (sym handle) takes.only;
      bytes = subst (λ a. Consumes (before.handle a).bytes (after.handle a).bytes taken) (sym handle) takes.bytes;
      at_end = subst (λ a. e.ended ≡ true → IsAtEnd (after.handle a).bytes) (sym handle) e.at_end;
      cause = subst (λ a. DeviceCause (mark_of (gathered_reply end moved)) (before.handle a).faults (after.handle a).faults) (sym handle) (caused end moved (before.handle (handle_of v.config.input)).faults (after.handle (handle_of v.config.input)).faults takes.cause);
      steps = λ slots rests sents rest paged is left.
          let b : Bytes = bytes_over k.memory slots rests sents in
          subst (λ m. Steps (state_of k b) (Recv d n) (state_of new (with_rest d rest b)) (gathered_reply end m)) takes.size
          (gathered_steps k b d n v taken rest g there between within is end e.ended (free b (taken ++ rest)) skip e.so left);
    }
