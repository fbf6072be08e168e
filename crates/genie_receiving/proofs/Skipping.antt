-- A step that throws payload bytes away.
use Rattle.std.proofs.Common.{◌≡◌, ℕ, ◌+◌, ◌-◌, ◌<◌, ◌≤◌, Bool, true, false, List, [], ◌++◌, refl, sym, ap, arith, rules, ◌∙◌, ⊎_elim, length, set, inl, eqb-true, eq-eqb}
use Rattle.std.specs.Prelude.{Some, None, nat_lt, ◌==◌, ◌&&◌}
use Rattle.std.specs.Option.{option_map}
use Rattle.std.proofs.lemmas.Bool.{ne_eqb, eqb-false}
use Rattle.genie_base.specs.Headers.{payload_taken}
use Rattle.genie_base.specs.declared.config.Kind.TheVariants.{Early}
use Rattle.genie_base.specs.declared.event.Event.TheVariants.{Recv}
use Rattle.genie_base.specs.declared.reply.Reply.TheVariants as reply
use Rattle.genie_device.specs.Device.{DeviceView}
use Rattle.genie_device.specs.declared.present.Present.{Present}
use Rattle.genie_device.specs.declared.steps.BodyEnd.{BodyEnd}
use Rattle.genie_device.specs.declared.steps.BodyEnd.TheVariants.{More, Whole, Truncated, Faulted}
use Rattle.genie_model.specs.Pending.{is_early}
use Rattle.genie_model.specs.Receiving.{recv, set_device, go_on, may_fail_receiving}
use Rattle.genie_model.specs.Space.{Outcome, tidy}
use Rattle.genie_model.specs.State as flat
use Rattle.genie_model.specs.Step.{may_fail}
use Rattle.genie_model.specs.Tables.{entry}
use Rattle.genie_kernel.specs.declared.kernel.Kernel.{Kernel}
use Rattle.genie_kernel.specs.Calls.{receiver}
use Rattle.genie_kernel.specs.Devices.{device_view, datagram_view}
use Rattle.genie_kernel.specs.Good.{IsGood}
use Rattle.genie_kernel.specs.Steps.{Steps}
use Rattle.genie_kernel.specs.View.{Bytes, state_of}
use Rattle.genie_kernel.specs.Lemmas.DeviceViews.{entry_view}
use Rattle.genie_kernel.specs.Lemmas.Tidying.{tidy_view}
use Rattle.genie_receiving.specs.Course.{course_of, is_faulted}
use Rattle.genie_receiving.specs.declared.course.Course.TheVariants.{GoesOn, Ends}
use Rattle.genie_receiving.specs.Devices.{with_device, with_rest, KeepsPayload}
use Rattle.genie_receiving.specs.Receiving.{MayBeLeft}
use Rattle.genie_receiving.specs.Lemmas.Bytes.{none_taken, payload_is}
use Rattle.genie_receiving.specs.Lemmas.Flat.{HasPresent, recv_within, payload_moved, may_fail_within, goes_on, is_over, is_cut_off}
use Rattle.genie_receiving.specs.Lemmas.Gathered.{set_same}
use Rattle.genie_receiving.specs.Lemmas.Good.{early_unpooled}
use Rattle.genie_receiving.specs.Lemmas.Marking.{plain_steps, failed_steps, rest_same}
use Rattle.genie_receiving.specs.Lemmas.Matched.{EndsPayload, taken_all, after_moving, moving_keeps, flat_device}
use Rattle.genie_receiving.specs.Lemmas.Payloads.{skipped_datagram, skipped_view, set_state}
use Rattle.genie_receiving.specs.Lemmas.Within.{some_left, body_reply, inside_payload}

module _ (k : Kernel) (b : Bytes) (d budget : ℕ) (v : DeviceView) (g : Present) (bytes rest : List ℕ) (good : IsGood k) (there : entry k.devices d ≡ Some v) (fine : v.is_bad ≡ false) (kind : v.config.kind ≡ Early) (early : is_early v.config.kind ≡ true) (present : v.present ≡ Some g) (unbuffered : g.buffer ≡ None)
    (receives : receiver k.transfers d ≡ None) (is : b.rests d ≡ bytes ++ rest) where
  abbrev s : flat.State
  s = state_of k b

  abbrev so_far : ℕ
  so_far = g.moved + length bytes

  unpooled : entry k.pools d ≡ None
  unpooled = early_unpooled k d v good there early

  abbrev x : flat.Device
  x = device_view b.seen.kept_bytes (bytes ++ rest) (b.sents d) (entry k.pools d) (receiver k.transfers d) v

  has : HasPresent s d x (skipped_datagram g.header g.moved)
  has = record {
    there = entry_view b.seen.kept_bytes b.rests b.sents k.pools (receiver k.transfers) k.devices d ∙ (λ i. option_map (device_view b.seen.kept_bytes (is i) (b.sents d) (entry k.pools d) (receiver k.transfers d)) (there i));
    good = fine;
    present = ap (option_map (datagram_view b.seen.kept_bytes v (entry k.pools d) (receiver k.transfers d))) present ∙ ap Some (skipped_view b.seen.kept_bytes v (entry k.pools d) (receiver k.transfers d) g kind unpooled receives unbuffered);
  }

  moved_on : (m : ℕ) → length bytes ≡ payload_taken m (g.header.len - g.moved) (bytes ++ rest) → recv s d m ≡ go_on s d (flat_device v rest (b.sents d) x.present) (skipped_datagram g.header so_far) (0 + length bytes)
  moved_on m all = recv_within s d m x (skipped_datagram g.header g.moved) has ∙ payload_moved s d m 0 x (skipped_datagram g.header g.moved) bytes rest refl all

  keeps : (w : DeviceView) → KeepsPayload v v
  keeps w = record { config = refl; limit = refl; buffers = refl; staged = refl; sent = refl }

  abbrev pub final_skipping : BodyEnd → Kernel
  final_skipping end = with_device k d (after_moving (course_of end 0) g (length bytes) v)

  goes_on_state : set_device s d (flat_device v rest (b.sents d) (Some (skipped_datagram g.header so_far))) ≡ state_of (with_device k d (after_moving GoesOn g (length bytes) v)) (with_rest d rest b)
  goes_on_state =
      let w : DeviceView = after_moving GoesOn g (length bytes) v in
      let y : flat.Device = flat_device v rest (b.sents d) (Some (skipped_datagram g.header so_far)) in
      let seen = skipped_view b.seen.kept_bytes w (entry k.pools d) (receiver k.transfers d) (record g { moved = so_far }) kind unpooled receives unbuffered in
      set_state k b d v w rest y there (moving_keeps GoesOn g (length bytes) v v (keeps v)) (λ i. record y { present = Some (seen i) })

  over_states : set_device s d (flat_device v rest (b.sents d) None) ≡ state_of (with_device k d (record v { present = None })) (with_rest d rest b)
  over_states = set_state k b d v (record v { present = None }) rest (flat_device v rest (b.sents d) None) there (moving_keeps Ends g (length bytes) v v (keeps v)) refl

  went : (end : BodyEnd) (ended : Bool) → EndsPayload end (g.header.len - g.moved) budget (length bytes) ended → 0 < budget → (is_faulted end ≡ true → 0 < 0 + length bytes)
      → go_on s d (flat_device v rest (b.sents d) x.present) (skipped_datagram g.header so_far) (0 + length bytes) ≡ (state_of (final_skipping end) (with_rest d rest b), reply.Got (0 + length bytes))
  went More ended ends some faulted =
      let moved : (0 + length bytes == 0) ≡ false = ne_eqb (0 + length bytes) 0 (λ e. ⊎_elim (λ (z : length bytes ≡ budget). absurd (omega (arith, some, z, e))) (λ (z : (0 < length bytes) × (ended ≡ true)). let l : 0 < length bytes = z.0 in absurd (omega (arith, l, e))) ends.1) in
      let l : length bytes < g.header.len - g.moved = ends.0 in
      goes_on s d (flat_device v rest (b.sents d) x.present) (skipped_datagram g.header so_far) (0 + length bytes) moved (ne_eqb so_far g.header.len (λ e. absurd (omega (arith, l, e)))) ∙ (λ i. (goes_on_state i, reply.Got (0 + length bytes)))
  went Faulted ended ends some faulted =
      let z : 0 < 0 + length bytes = faulted refl in
      let l : length bytes < g.header.len - g.moved = ends.1 in
      goes_on s d (flat_device v rest (b.sents d) x.present) (skipped_datagram g.header so_far) (0 + length bytes) (ne_eqb (0 + length bytes) 0 (λ e. absurd (omega (arith, z, e)))) (ne_eqb so_far g.header.len (λ e. absurd (omega (arith, l, e)))) ∙ (λ i. (goes_on_state i, reply.Got (0 + length bytes)))
  went Whole ended ends some faulted =
      let left = some_left k d v g good there present in
      let all : length bytes ≡ g.header.len - g.moved = ends in
      is_over s d (flat_device v rest (b.sents d) x.present) (skipped_datagram g.header so_far) (0 + length bytes) (ne_eqb (0 + length bytes) 0 (λ e. absurd (omega (arith, left, all, e)))) (eq-eqb so_far g.header.len (omega (arith, all, left))) ∙ (λ i. (over_states i, reply.Got (0 + length bytes)))
  went Truncated ended ends some faulted =
      let none : length bytes ≡ 0 = ends.0 in
      let zero_moved : 0 + length bytes ≡ 0 = omega (arith, none) in
      is_cut_off s d (flat_device v rest (b.sents d) x.present) (skipped_datagram g.header so_far) (0 + length bytes) (eq-eqb (0 + length bytes) 0 zero_moved) ∙ (λ i. (over_states i, reply.Got (sym zero_moved i)))

  tidied : (end : BodyEnd) → tidy (state_of (final_skipping end) (with_rest d rest b)) ≡ state_of (final_skipping end) (with_rest d rest b)
  tidied end = tidy_view (final_skipping end) (with_rest d rest b)

  none_changed : length bytes ≡ 0 → state_of (final_skipping Faulted) (with_rest d rest b) ≡ s
  none_changed e =
      let empty : bytes ≡ [] = none_taken bytes e in
      let same : g.moved + length bytes ≡ g.moved = omega (arith, e) in
      let device : after_moving GoesOn g (length bytes) v ≡ v = λ i. record v { present = (ap (λ m. Some (record g { moved = m })) same ∙ sym present) i } in
      let devices : set k.devices d (Some (after_moving GoesOn g (length bytes) v)) ≡ k.devices = ap (λ w. set k.devices d (Some w)) device ∙ set_same k.devices d v there in
      (λ i. state_of (record k { devices = devices i }) (with_rest d rest b)) ∙ ap (state_of k) (rest_same d rest b (is ∙ ap (λ l. l ++ rest) empty))

  pub skipping_steps : (end : BodyEnd) (ended : Bool) → EndsPayload end (g.header.len - g.moved) budget (length bytes) ended → length bytes ≤ budget → length bytes ≤ g.header.len - g.moved → 0 < budget → MayBeLeft ended rest → Steps s (Recv d budget) (state_of (final_skipping end) (with_rest d rest b)) (body_reply end (0 + length bytes))
  skipping_steps More ended ends within fits some left = plain_steps s (state_of (final_skipping More) (with_rest d rest b)) (Recv d budget) (reply.Got (0 + length bytes)) refl (tidied More)
      (sym (moved_on budget (taken_all More (g.header.len - g.moved) budget bytes rest ended ends refl within fits left) ∙ went More ended ends some (λ e. absurd (cc))))
  skipping_steps Whole ended ends within fits some left = plain_steps s (state_of (final_skipping Whole) (with_rest d rest b)) (Recv d budget) (reply.Got (0 + length bytes)) refl (tidied Whole)
      (sym (moved_on budget (taken_all Whole (g.header.len - g.moved) budget bytes rest ended ends refl within fits left) ∙ went Whole ended ends some (λ e. absurd (cc))))
  skipping_steps Truncated ended ends within fits some left = plain_steps s (state_of (final_skipping Truncated) (with_rest d rest b)) (Recv d budget) (reply.Got (0 + length bytes)) refl (tidied Truncated)
      (sym (moved_on budget (taken_all Truncated (g.header.len - g.moved) budget bytes rest ended ends refl within fits left) ∙ went Truncated ended ends some (λ e. absurd (cc))))
  skipping_steps Faulted ended ends within fits some left =
      let fewer : length bytes < budget = ends.0 in
      let short : length bytes < g.header.len - g.moved = ends.1 in
      let count : 0 + length bytes ≡ length bytes = omega arith in
      let inside = may_fail_within s d x (skipped_datagram g.header g.moved) bytes rest has refl (inside_payload bytes rest (g.header.len - g.moved) short) in
      let may : may_fail s (Recv d budget) (0 + length bytes) ≡ true = ap (λ m. nat_lt m budget && may_fail_receiving s d m) count ∙ grind (arith, rules, inside, fewer) in
      failed_steps s (state_of (final_skipping Faulted) (with_rest d rest b)) (Recv d budget) (0 + length bytes) may (tidied Faulted)
      (λ z. none_changed (omega (arith, eqb-true (0 + length bytes) 0 z)))
      (λ z. sym (ap (λ (o : Outcome). o.0) (moved_on (0 + length bytes) (payload_is (0 + length bytes) (g.header.len - g.moved) bytes rest (omega arith) fits (inl (omega arith))) ∙ went Faulted ended ends some (λ e. positive (0 + length bytes) (eqb-false (0 + length bytes) 0 z)))))
    where
      positive : (m : ℕ) → (m ≡ 0 → ⊥) → 0 < m
      positive m apart = omega (arith, apart)
