-- A receive step that gathers payload bytes in a buffer of a pool.
use Rattle.std.proofs.Common.{◌≡◌, ℕ, ◌+◌, ◌-◌, ◌<◌, ◌≤◌, ◌⊎◌, zero, suc, Bool, true, false, List, [], ◌++◌, refl, sym, ap, subst, arith, rules, ◌∙◌, length, take, set, inl, inr, eqb-true}
use Rattle.std.specs.Prelude.{Option, Some, None, nat_lt, position, ◌==◌, ◌&&◌, if◌then◌else◌}
use Rattle.std.specs.Option.{option_map}
use Rattle.genie_base.specs.Configs.{most}
use Rattle.genie_base.specs.Events.{mark_of}
use Rattle.genie_base.specs.Headers.{is_valid_header, payload_taken}
use Rattle.genie_base.specs.declared.event.Event.TheVariants.{Recv}
use Rattle.genie_base.specs.declared.reply.Mark.TheVariants as mark
use Rattle.genie_base.specs.declared.reply.Reply.{Reply}
use Rattle.genie_base.specs.declared.reply.Reply.TheVariants as reply
use Rattle.genie_device.specs.Device.{DeviceView}
use Rattle.genie_device.specs.declared.present.Present.{Present}
use Rattle.genie_device.specs.declared.steps.BodyEnd.{BodyEnd}
use Rattle.genie_device.specs.declared.steps.BodyEnd.TheVariants.{More, Whole, Truncated, Faulted}
use Rattle.genie_input.specs.Pools.{PoolState, is_filling}
use Rattle.genie_wire.specs.Headers.{IsWhole, header_in}
use Rattle.genie_wire.specs.declared.header.Header.{Header}
use Rattle.genie_model.specs.Pending.{is_early}
use Rattle.genie_model.specs.Receiving.{datagram, go_on, may_fail_receiving, recv}
use Rattle.genie_model.specs.Space.{Outcome, tidy}
use Rattle.genie_model.specs.State as flat
use Rattle.genie_model.specs.Tables.{entry}
use Rattle.genie_kernel.specs.declared.kernel.Kernel.{Kernel}
use Rattle.genie_kernel.specs.declared.transfer.Transfer.{Transfer}
use Rattle.genie_kernel.specs.Calls.{receiver}
use Rattle.genie_kernel.specs.Devices.{datagram_view, device_view, fate_of, gathered_in}
use Rattle.genie_kernel.specs.Good.{IsGood}
use Rattle.genie_kernel.specs.Steps.{Steps}
use Rattle.genie_kernel.specs.Transfers.{buffer_bytes}
use Rattle.genie_kernel.specs.View.{Bytes, state_of}
use Rattle.genie_kernel.specs.Lemmas.DeviceViews.{entry_view}
use Rattle.genie_kernel.specs.Lemmas.Tidying.{tidy_view}
use Rattle.genie_model.specs.declared.fate.Fate.TheVariants.{Gathering}
use Rattle.genie_receiving.specs.Course.{course_of, is_faulted}
use Rattle.genie_receiving.specs.declared.course.Course.{Course}
use Rattle.genie_receiving.specs.declared.course.Course.TheVariants.{GoesOn, Ends, IsTruncated}
use Rattle.genie_receiving.specs.Devices.{KeepsPayload, with_rest}
use Rattle.genie_receiving.specs.Gathering.{IsBetween}
use Rattle.genie_receiving.specs.Laws.{ReceiveLaws}
use Rattle.genie_receiving.specs.Receiving.{MayBeLeft}
use Rattle.genie_receiving.specs.Lemmas.Bytes.{append_none, none_taken, payload_is}
use Rattle.genie_receiving.specs.Lemmas.Flat.{Gathers, HasPresent, may_fail_gathered, may_fail_within, payload_moved, recv_gathers, recv_within}
use Rattle.genie_receiving.specs.Lemmas.Gathered.{IsFree, gathers, seen_before, set_same}
use Rattle.genie_receiving.specs.Lemmas.Within.{some_left}
use Rattle.genie_receiving.specs.Lemmas.Marking.{failed_steps, plain_steps}
use Rattle.genie_receiving.specs.Lemmas.Matched.{EndsPayload, flat_device, taken_all}
use Rattle.genie_receiving.specs.Lemmas.Within.{inside_payload}
use Rattle.genie_pooling.proofs.Pools.{Fills}
use Rattle.genie_pooling.proofs.Room.{IsPooled}
use Rattle.genie_pooling.proofs.Shows.{ShowsFilled, filled_state}
use Rattle.genie_pooling.proofs.Went.{Meets, all, final, final_reply, gathering, went_on}

moved_some : (n : ℕ) → (n == 0) ≡ false → 0 < n
moved_some zero e = absurd (cc)
moved_some (suc n) e = omega arith

lt_true : (a n : ℕ) → a < n → nat_lt a n ≡ true
lt_true a n l = grind (arith, rules, l)

-- what is answered
abbrev pub step_reply : BodyEnd → ℕ → Reply → Reply
step_reply end moved r = if is_faulted end then reply.Fault moved else r

over_mark : (h : Header) (moved : ℕ) (met : Option (ℕ × Transfer)) (r : Reply) → (r ≡ reply.Dropped h.port h.flow h.len) ⊎ (r ≡ reply.Got moved) → mark_of r ≡ mark.NoFault
over_mark h moved met r (inl e) = ap mark_of e
over_mark h moved met r (inr e) = ap mark_of e

-- a step whose flat counterpart is known for each budget that lets it move these bytes
module _ (laws : ReceiveLaws) (k : Kernel) (good : IsGood k) (b c : Bytes) (d h b0 budget : ℕ) (v v1 : DeviceView) (p q : PoolState) (g : Present) (bytes rest : List ℕ) (is : IsPooled k d v p) (kept : KeepsPayload v v1) (f : Fills p q b0) (shows : ShowsFilled k d p b0 v g.moved bytes b c) (sent : List ℕ) (before : Option flat.Datagram) (met : Option (ℕ × Transfer))
    (meets : Meets laws k good b c d h b0 v v1 p q g bytes rest is kept f shows met)
    (moves : (m : ℕ) → h ≤ m → length bytes ≡ payload_taken (m - h) (g.header.len - g.moved) (bytes ++ rest) → recv (state_of k b) d m ≡ go_on (state_of k b) d (flat_device v1 rest sent before) (gathering g.header (g.moved + length bytes) (all laws k good b c d h b0 v v1 p q g bytes rest is kept f shows)) (h + length bytes))
    (may : length bytes < g.header.len - g.moved → may_fail_receiving (state_of k b) d (h + length bytes) ≡ true) (none : h + length bytes ≡ 0 → state_of (final laws k good b c d h b0 v v1 p q g bytes rest is kept f shows GoesOn met) (with_rest d rest c) ≡ state_of k b) where
  abbrev pub s : flat.State
  s = state_of k b

  abbrev pub over : BodyEnd → Kernel
  over end = final laws k good b c d h b0 v v1 p q g bytes rest is kept f shows (course_of end h) met

  abbrev pub plain : BodyEnd → Reply
  plain end = final_reply laws k good b c d h b0 v v1 p q g bytes rest is kept f shows (course_of end h) (h + length bytes) met

  tidied : (end : BodyEnd) → tidy (state_of (over end) (with_rest d rest c)) ≡ state_of (over end) (with_rest d rest c)
  tidied end = tidy_view (over end) (with_rest d rest c)

  reply_mark : (course : Course) (moved : ℕ) (o : Option (ℕ × Transfer)) → mark_of (final_reply laws k good b c d h b0 v v1 p q g bytes rest is kept f shows course moved o) ≡ mark.NoFault
  reply_mark GoesOn moved o = refl
  reply_mark Ends moved None = refl
  reply_mark Ends moved (Some m) = refl
  reply_mark IsTruncated moved None = refl
  reply_mark IsTruncated moved (Some m) = refl

  went : (end : BodyEnd) (ended : Bool) → EndsPayload end (g.header.len - g.moved) (budget - h) (length bytes) ended → g.moved ≤ g.header.len → 0 < h + (budget - h) → 0 < h + (g.header.len - g.moved) → (is_faulted end ≡ true → 0 < h + length bytes)
      → go_on s d (flat_device v1 rest sent before) (gathering g.header (g.moved + length bytes) (all laws k good b c d h b0 v v1 p q g bytes rest is kept f shows)) (h + length bytes) ≡ (state_of (over end) (with_rest d rest c), plain end)
  went end ended ends fits some more faulted = went_on laws k good b c d h b0 v v1 p q g bytes rest is kept f shows end ended (budget - h) sent before met meets ends fits some more faulted

  plainly : (end : BodyEnd) (ended : Bool) → is_faulted end ≡ false → EndsPayload end (g.header.len - g.moved) (budget - h) (length bytes) ended → g.moved ≤ g.header.len → h ≤ budget → 0 < budget → 0 < h + (g.header.len - g.moved) → length bytes ≤ budget - h → length bytes ≤ g.header.len - g.moved → MayBeLeft ended rest → Steps s (Recv d budget) (state_of (over end) (with_rest d rest c)) (plain end)
  plainly end ended fine ends fits within some more room len left = plain_steps s (state_of (over end) (with_rest d rest c)) (Recv d budget) (plain end) (reply_mark (course_of end h) (h + length bytes) met) (tidied end)
      (sym (moves budget within (taken_all end (g.header.len - g.moved) (budget - h) bytes rest ended ends fine room len left) ∙ went end ended ends fits (omega (arith, within, some)) more (λ e. let clash : false ≡ true = sym fine ∙ e in absurd (cc))))

  pub filled_steps : (end : BodyEnd) (ended : Bool) → EndsPayload end (g.header.len - g.moved) (budget - h) (length bytes) ended → g.moved ≤ g.header.len → h ≤ budget → 0 < budget → 0 < h + (g.header.len - g.moved) → length bytes ≤ budget - h → length bytes ≤ g.header.len - g.moved → MayBeLeft ended rest → Steps s (Recv d budget) (state_of (over end) (with_rest d rest c)) (step_reply end (h + length bytes) (plain end))
  filled_steps More ended ends fits within some more room len left = plainly More ended refl ends fits within some more room len left
  filled_steps Whole ended ends fits within some more room len left = plainly Whole ended refl ends fits within some more room len left
  filled_steps Truncated ended ends fits within some more room len left = plainly Truncated ended refl ends fits within some more room len left
  filled_steps Faulted ended ends fits within some more room len left =
      let short : length bytes < g.header.len - g.moved = ends.1 in
      let fewer : length bytes < budget - h = ends.0 in
      let can : may_fail_receiving (state_of k b) d (h + length bytes) ≡ true = may short in
      let less : h + length bytes < budget = omega (arith, fewer, within) in
      let left_is : (h + length bytes) - h ≡ length bytes = omega arith in
      failed_steps s (state_of (over Faulted) (with_rest d rest c)) (Recv d budget) (h + length bytes) (λ i. lt_true (h + length bytes) budget less i && can i) (tidied Faulted)
      (λ z. none (eqb-true (h + length bytes) 0 z))
      (λ z. sym (ap (λ (o : Outcome). o.0) (moves (h + length bytes) (omega arith) (payload_is ((h + length bytes) - h) (g.header.len - g.moved) bytes rest (omega (arith, left_is)) len (inl (sym left_is))) ∙ went Faulted ended ends fits (omega (arith, within, some)) more (λ e. moved_some (h + length bytes) z))))

gathering_view : (s : ℕ → List ℕ) (v : DeviceView) (p : PoolState) (r : Option Transfer) (g : Present) (b0 : ℕ) → fate_of v.config.kind r ≡ Gathering → position is_filling p.buffers ≡ Some b0 → datagram_view s v (Some p) r g ≡ gathering g.header g.moved (take g.moved (buffer_bytes s (Some v) (Some p) b0))
gathering_view s v p r g b0 fate at = λ i. record {
  port = g.header.port;
  flow = g.header.flow;
  len = g.header.len;
  moved = g.moved;
  fate = fate i;
  bytes = ap (gathered_in s v (Some p) g.moved) at i;
}

-- the datagram is present
module _ (laws : ReceiveLaws) (k : Kernel) (good : IsGood k) (b c : Bytes) (d b0 budget : ℕ) (v : DeviceView) (p : PoolState) (g : Present) (bytes rest : List ℕ) (is : IsPooled k d v p) (f : Fills p p b0) (shows : ShowsFilled k d p b0 v g.moved bytes b c) (fine : v.is_bad ≡ false) (present : v.present ≡ Some g) (met : Option (ℕ × Transfer)) (input : b.rests d ≡ bytes ++ rest) where
  abbrev pub itself : KeepsPayload v v
  itself = record { config = refl; limit = refl; buffers = refl; staged = refl; sent = refl }

  abbrev x : flat.Device
  x = device_view b.seen.kept_bytes (bytes ++ rest) (b.sents d) (entry k.pools d) (receiver k.transfers d) v

  there : entry (state_of k b).devices d ≡ Some x
  there = entry_view b.seen.kept_bytes b.rests b.sents k.pools (receiver k.transfers) k.devices d ∙ (λ i. option_map (device_view b.seen.kept_bytes (input i) (b.sents d) (entry k.pools d) (receiver k.transfers d)) (is.there i))

  gathers_fate : fate_of v.config.kind (receiver k.transfers d) ≡ Gathering
  gathers_fate = ap (λ z. fate_of z (receiver k.transfers d)) is.kind

  abbrev had_bytes : List ℕ
  had_bytes = take g.moved (buffer_bytes b.seen.kept_bytes (Some v) (Some p) b0)

  has : HasPresent (state_of k b) d x (gathering g.header g.moved had_bytes)
  has = record {
    there = there;
    good = fine;
    present = ap (option_map (datagram_view b.seen.kept_bytes v (entry k.pools d) (receiver k.transfers d))) present ∙ (λ i. Some (datagram_view b.seen.kept_bytes v (is.pooled i) (receiver k.transfers d) g)) ∙ ap Some (gathering_view b.seen.kept_bytes v p (receiver k.transfers d) g b0 gathers_fate f.filling);
  }

  moved_on : (m : ℕ) → 0 ≤ m → length bytes ≡ payload_taken (m - 0) (g.header.len - g.moved) (bytes ++ rest) → recv (state_of k b) d m ≡ go_on (state_of k b) d (flat_device v rest (b.sents d) x.present) (gathering g.header (g.moved + length bytes) (had_bytes ++ bytes)) (0 + length bytes)
  moved_on m low many =
      let same : m - 0 ≡ m = omega arith in
      recv_within (state_of k b) d m x (gathering g.header g.moved had_bytes) has
      ∙ payload_moved (state_of k b) d m 0 x (gathering g.header g.moved had_bytes) bytes rest refl (many ∙ ap (λ n. payload_taken n (g.header.len - g.moved) (bytes ++ rest)) same)

  -- no byte came, and nothing changed
  none_changed : 0 + length bytes ≡ 0 → state_of (record k { devices = set k.devices d (Some (record v { present = Some (record g { moved = g.moved + length bytes }) })); pools = set k.pools d (Some p) }) (with_rest d rest c) ≡ state_of k b
  none_changed e =
      let zero_bytes : length bytes ≡ 0 = omega (arith, e) in
      let empty : bytes ≡ [] = none_taken bytes zero_bytes in
      let same : g.moved + length bytes ≡ g.moved = omega (arith, zero_bytes) in
      let w : DeviceView = record v { present = Some (record g { moved = g.moved + length bytes }) } in
      let keeps : KeepsPayload v w = record { config = refl; limit = refl; buffers = refl; staged = refl; sent = refl } in
      let rests : rest ≡ bytes ++ rest = sym (ap (λ l. l ++ rest) empty) in
      let bytes_same : take (g.moved + length bytes) (buffer_bytes c.seen.kept_bytes (Some v) (Some p) b0) ≡ had_bytes = shows.filled ∙ ap (λ l. had_bytes ++ l) empty ∙ append_none had_bytes in
      let was : datagram_view b.seen.kept_bytes v (Some p) (receiver k.transfers d) g ≡ gathering g.header g.moved had_bytes = gathering_view b.seen.kept_bytes v p (receiver k.transfers d) g b0 gathers_fate f.filling in
      let now : datagram_view c.seen.kept_bytes w (Some p) (receiver k.transfers d) (record g { moved = g.moved + length bytes }) ≡ gathering g.header g.moved had_bytes =
      gathering_view c.seen.kept_bytes w p (receiver k.transfers d) (record g { moved = g.moved + length bytes }) b0 gathers_fate f.filling ∙ (λ i. gathering g.header (same i) (bytes_same i)) in
      let seen : device_view c.seen.kept_bytes rest (b.sents d) (Some p) (receiver k.transfers d) w ≡ x = λ i. record (device_view b.seen.kept_bytes (rests i) (b.sents d) (Some p) (receiver k.transfers d) v) {
        present = (ap Some (now ∙ sym was) ∙ sym (ap (option_map (datagram_view b.seen.kept_bytes v (Some p) (receiver k.transfers d))) present) ∙ (λ a. option_map (datagram_view b.seen.kept_bytes v (sym is.pooled a) (receiver k.transfers d)) v.present)) i;
      } in
      filled_state k good d b0 g.moved v w p p p bytes b c is.there is.pooled keeps f refl shows rest x seen
      ∙ ap (λ ds. record (state_of k b) { devices = ds }) (set_same (state_of k b).devices d x there)

  pub within_steps : (end : BodyEnd) (ended : Bool) → Meets laws k good b c d 0 b0 v v p p g bytes rest is itself f shows met → EndsPayload end (g.header.len - g.moved) (budget - 0) (length bytes) ended → 0 < budget → length bytes ≤ budget - 0 → length bytes ≤ g.header.len - g.moved → MayBeLeft ended rest
      → Steps (state_of k b) (Recv d budget) (state_of (final laws k good b c d 0 b0 v v p p g bytes rest is itself f shows (course_of end 0) met) (with_rest d rest c)) (step_reply end (0 + length bytes) (final_reply laws k good b c d 0 b0 v v p p g bytes rest is itself f shows (course_of end 0) (0 + length bytes) met))
  within_steps end ended meets ends some room len left =
      let more = some_left k d v g good is.there present in
      filled_steps laws k good b c d 0 b0 budget v v p p g bytes rest is itself f shows (b.sents d) x.present met meets moved_on
      (λ short. may_fail_now short) none_changed end ended ends (omega (arith, more)) (omega arith) some (omega (arith, more)) room len left
    where
      may_fail_now : length bytes < g.header.len - g.moved → may_fail_receiving (state_of k b) d (0 + length bytes) ≡ true
      may_fail_now short = let count : length bytes ≡ 0 + length bytes = omega arith in subst (λ n. may_fail_receiving (state_of k b) d n ≡ true) count (may_fail_within (state_of k b) d x (gathering g.header g.moved had_bytes) bytes rest has refl (inside_payload bytes rest (g.header.len - g.moved) short))

-- the device with the datagram that this header begins
abbrev pub begun : Header → Present
begun h = record { header = h; moved = 0; buffer = None }

abbrev pub beginning : Header → DeviceView → DeviceView
beginning h v = record v { gathered = []; present = Some (begun h) }

-- the header is whole now
module _ (laws : ReceiveLaws) (k : Kernel) (good : IsGood k) (b c : Bytes) (d b0 budget : ℕ) (v : DeviceView) (p q : PoolState) (header bytes rest : List ℕ) (is : IsPooled k d v p) (f : Fills p q b0) (between : IsBetween v) (free : IsFree k d v) (within : length header ≤ budget) (some : 0 < length header) (whole : IsWhole (v.gathered ++ header)) (valid : is_valid_header (most v.config.kind k.config.page) (v.gathered ++ header) ≡ true)
    (shows : ShowsFilled k d p b0 v 0 bytes b c) (met : Option (ℕ × Transfer)) (input : b.rests d ≡ header ++ (bytes ++ rest)) where
  abbrev h : Header
  h = header_in (v.gathered ++ header)

  abbrev pub starts : KeepsPayload v (beginning h v)
  starts = record { config = refl; limit = refl; buffers = refl; staged = refl; sent = refl }

  abbrev y : flat.Device
  y = seen_before k b d budget v header (bytes ++ rest) good is.there between within input

  has_header : Gathers (state_of k b) d y
  has_header = gathers k b d budget v header (bytes ++ rest) good is.there between within input (free b (header ++ (bytes ++ rest)))

  late : is_early v.config.kind ≡ false
  late = ap is_early is.kind

  begun_on : (m : ℕ) → length header ≤ m → length bytes ≡ payload_taken (m - length header) (h.len - 0) (bytes ++ rest) → recv (state_of k b) d m ≡ go_on (state_of k b) d (flat_device (beginning h v) rest (b.sents d) y.present) (gathering h (0 + length bytes) (take 0 (buffer_bytes b.seen.kept_bytes (Some v) (Some p) b0) ++ bytes)) (length header + length bytes)
  begun_on m fits many =
      recv_gathers (state_of k b) d m y header (bytes ++ rest) has_header refl whole fits valid late
      ∙ payload_moved (state_of k b) d (m - length header) (length header) (record y { rest = bytes ++ rest; header = [] }) (datagram (v.gathered ++ header) Gathering) bytes rest refl many

  pub begun_steps : (end : BodyEnd) (ended : Bool) → Meets laws k good b c d (length header) b0 v (beginning h v) p q (begun h) bytes rest is starts f shows met → EndsPayload end (h.len - 0) (budget - length header) (length bytes) ended → length bytes ≤ budget - length header → length bytes ≤ h.len - 0 → MayBeLeft ended rest
      → Steps (state_of k b) (Recv d budget) (state_of (final laws k good b c d (length header) b0 v (beginning h v) p q (begun h) bytes rest is starts f shows (course_of end (length header)) met) (with_rest d rest c)) (step_reply end (length header + length bytes) (final_reply laws k good b c d (length header) b0 v (beginning h v) p q (begun h) bytes rest is starts f shows (course_of end (length header)) (length header + length bytes) met))
  begun_steps end ended meets ends room len left =
      filled_steps laws k good b c d (length header) b0 budget v (beginning h v) p q (begun h) bytes rest is starts f shows (b.sents d) y.present met meets begun_on
      (λ short. may_fail_gathered (state_of k b) d y header bytes rest has_header refl whole valid late (inside_payload bytes rest h.len (omega (arith, short))))
      (λ z. absurd (omega (arith, some, z))) end ended ends (omega arith) within (omega (arith, within, some)) (omega (arith, some)) room len left
