-- A step that moves on with the datagram that is present, into its input.
use Rattle.std.proofs.Common.{◌≡◌, ℕ, ◌+◌, ◌-◌, ◌<◌, ◌≤◌, Bool, true, false, List, [], ◌++◌, refl, sym, ap, subst, arith, rules, ◌∙◌, length, set, inl, eqb-true}
use Rattle.std.specs.Prelude.{Some, None, IfSome, min, nat_lt, ◌&&◌, if◌then◌else◌}
use Rattle.std.specs.Option.{option_map}
use Rattle.std.proofs.lemmas.Bool.{eqb-false}
use Rattle.std.proofs.lemmas.List.{length-append}
use Rattle.genie_model.specs.Pending.{is_early}
use Rattle.genie_base.specs.Headers.{payload_taken}
use Rattle.genie_base.specs.declared.config.Kind.TheVariants.{Early}
use Rattle.genie_base.specs.declared.event.Event.TheVariants.{Recv}
use Rattle.genie_base.specs.declared.reply.Reply.{Reply}
use Rattle.genie_base.specs.declared.reply.Reply.TheVariants as reply
use Rattle.genie_device.specs.Device.{DeviceView}
use Rattle.genie_device.specs.declared.present.Present.{Present}
use Rattle.genie_device.specs.declared.steps.BodyEnd.{BodyEnd}
use Rattle.genie_device.specs.declared.steps.BodyEnd.TheVariants.{More, Whole, Truncated, Faulted}
use Rattle.genie_orderly.specs.Orderly.{ReceivesForInput, IsUnderWay}
use Rattle.genie_model.specs.Receiving.{recv, go_on, land, stays_in_payload, may_fail_receiving}
use Rattle.genie_model.specs.Space.{Outcome, tidy}
use Rattle.genie_model.specs.State as flat
use Rattle.genie_model.specs.Step.{may_fail}
use Rattle.genie_model.specs.Tables.{entry}
use Rattle.genie_model.specs.declared.fate.Fate.TheVariants.{Matched}
use Rattle.genie_model.specs.declared.phase.Phase.TheVariants.{Moving}
use Rattle.genie_kernel.specs.declared.kernel.Kernel.{Kernel}
use Rattle.genie_kernel.specs.declared.transfer.Transfer.{Transfer}
use Rattle.genie_kernel.specs.Calls.{receiver}
use Rattle.genie_kernel.specs.Devices.{device_view, datagram_view}
use Rattle.genie_kernel.specs.Good.{IsGood}
use Rattle.genie_kernel.specs.Steps.{Steps}
use Rattle.genie_kernel.specs.View.{Bytes, state_of, outline, no_bytes}
use Rattle.genie_kernel.specs.Lemmas.DeviceViews.{entry_view}
use Rattle.genie_kernel.specs.Lemmas.Tidying.{tidy_view}
use Rattle.genie_changes.specs.Working.{at_work}
use Rattle.genie_receiving.specs.Course.{course_of, is_faulted}
use Rattle.genie_receiving.specs.declared.course.Course.TheVariants.{GoesOn}
use Rattle.genie_receiving.specs.Devices.{with_rest, KeepsPayload}
use Rattle.genie_receiving.specs.Landing.{work_of}
use Rattle.genie_receiving.specs.Laws.{ReceiveLaws}
use Rattle.genie_receiving.specs.Receiving.{MayBeLeft}
use Rattle.genie_receiving.specs.Lemmas.Bytes.{none_taken, payload_is}
use Rattle.genie_receiving.specs.Lemmas.Flat.{HasPresent, recv_within, payload_moved, may_fail_within}
use Rattle.genie_receiving.specs.Lemmas.Gathered.{set_same}
use Rattle.genie_receiving.specs.Lemmas.Marking.{plain_steps, failed_steps, rest_same}
use Rattle.genie_receiving.specs.Lemmas.Matched.{EndsPayload, taken_all, after_moving, received_kernel, flat_device, went_on}
use Rattle.genie_receiving.specs.Lemmas.Payloads.{ShowsLanded, IsInputOf, matched_datagram, matched_view, numbered, work_on}
use Rattle.genie_receiving.specs.Lemmas.Views.{worked_same}
use Rattle.genie_receiving.specs.Lemmas.Good.{early_unpooled}

under_way : (k : Kernel) (d : ℕ) (v : DeviceView) (g : Present) → (x : flat.Device) → (y : flat.Datagram) → x.present ≡ Some y → ReceivesForInput (outline k) d (Some x) → y.moved < y.len
under_way k d v g x y is h =
    let u : IsUnderWay (outline k) d y = subst (λ o. IfSome o (IsUnderWay (outline k) d)) is h in u.left

-- some of a present datagram's payload is still to come
pub some_left : (k : Kernel) (d : ℕ) (v : DeviceView) (g : Present) → IsGood k → entry k.devices d ≡ Some v → v.present ≡ Some g → g.moved < g.header.len
some_left k d v g good there present =
    let s = (no_bytes k.config.page).seen.kept_bytes in
    let x : flat.Device = device_view (no_bytes k.config.page).seen.kept_bytes [] [] (entry k.pools d) (receiver k.transfers d) v in
    let at : entry (outline k).devices d ≡ Some x = entry_view (no_bytes k.config.page).seen.kept_bytes (λ j. []) (λ j. []) k.pools (receiver k.transfers) k.devices d ∙ ap (option_map (device_view (no_bytes k.config.page).seen.kept_bytes [] [] (entry k.pools d) (receiver k.transfers d))) there in
    under_way k d v g x (datagram_view (no_bytes k.config.page).seen.kept_bytes v (entry k.pools d) (receiver k.transfers d) g) (ap (option_map (datagram_view (no_bytes k.config.page).seen.kept_bytes v (entry k.pools d) (receiver k.transfers d))) present) (subst (ReceivesForInput (outline k) d) at (good.orderly.matched d))

-- what is answered that has moved so many bytes
abbrev pub body_reply : BodyEnd → ℕ → Reply
body_reply end k = if is_faulted end then reply.Fault k else reply.Got k

pub inside_payload : (bytes rest : List ℕ) (left : ℕ) → length bytes < left → stays_in_payload (bytes ++ rest) left (length bytes) ≡ true
inside_payload bytes rest left l = let a = length-append bytes rest in let some : length bytes ≤ length (bytes ++ rest) = omega (arith, a) in grind (arith, rules, some, l)

module _ (laws : ReceiveLaws) (k : Kernel) (b c : Bytes) (d n budget : ℕ) (t : Transfer) (v : DeviceView) (g : Present) (bytes rest : List ℕ) (good : IsGood k) (there : entry k.devices d ≡ Some v) (fine : v.is_bad ≡ false) (kind : v.config.kind ≡ Early) (early : is_early v.config.kind ≡ true) (present : v.present ≡ Some g) (unbuffered : g.buffer ≡ None)
    (input : IsInputOf k d n t) (moving : t.phase ≡ Moving) (stored : t.stored ≡ min g.moved t.len) (receives : receiver k.transfers d ≡ Some t) (shows : ShowsLanded k t g.moved bytes b c) (is : b.rests d ≡ bytes ++ rest) where
  abbrev s : flat.State
  s = state_of k b

  keeps_itself : KeepsPayload v v
  keeps_itself = record { config = refl; limit = refl; buffers = refl; staged = refl; sent = refl }

  unpooled : entry k.pools d ≡ None
  unpooled = early_unpooled k d v good there early

  abbrev x : flat.Device
  x = device_view b.seen.kept_bytes (bytes ++ rest) (b.sents d) (entry k.pools d) (receiver k.transfers d) v

  has : HasPresent s d x (matched_datagram g.header g.moved n)
  has = record {
    there = entry_view b.seen.kept_bytes b.rests b.sents k.pools (receiver k.transfers) k.devices d ∙ (λ i. option_map (device_view b.seen.kept_bytes (is i) (b.sents d) (entry k.pools d) (receiver k.transfers d)) (there i));
    good = fine;
    present = ap (option_map (datagram_view b.seen.kept_bytes v (entry k.pools d) (receiver k.transfers d))) present ∙ ap Some (matched_view b.seen.kept_bytes v (entry k.pools d) (receiver k.transfers d) g t n kind unpooled receives (numbered k d n t input) unbuffered);
  }

  -- the step of the flat machine, with any budget that lets it move these bytes
  moved_on : (m : ℕ) → length bytes ≡ payload_taken m (g.header.len - g.moved) (bytes ++ rest) → recv s d m ≡ go_on (land s g.moved bytes (Matched n)) d (flat_device v rest (b.sents d) x.present) (matched_datagram g.header (g.moved + length bytes) n) (0 + length bytes)
  moved_on m all = recv_within s d m x (matched_datagram g.header g.moved n) has ∙ payload_moved s d m 0 x (matched_datagram g.header g.moved n) bytes rest refl all

  abbrev pub final_within : BodyEnd → Kernel
  final_within end = received_kernel k d n (after_moving (course_of end 0) g (length bytes) v) (work_of (course_of end 0) (g.moved + length bytes) g.header.len t)

  went : (end : BodyEnd) (ended : Bool) → EndsPayload end (g.header.len - g.moved) budget (length bytes) ended → 0 < budget → (is_faulted end ≡ true → 0 < 0 + length bytes)
      → go_on (land s g.moved bytes (Matched n)) d (flat_device v rest (b.sents d) x.present) (matched_datagram g.header (g.moved + length bytes) n) (0 + length bytes) ≡ (state_of (final_within end) (with_rest d rest c), reply.Got (0 + length bytes))
  went end ended ends some faulted =
      let left = some_left k d v g good there present in
      went_on laws k b c d n 0 t v v g bytes rest there keeps_itself kind unpooled unbuffered input moving stored receives shows end ended budget (b.sents d) x.present ends (omega (arith, left)) (omega (arith, some)) (omega (arith, left)) faulted

  tidied : (end : BodyEnd) → tidy (state_of (final_within end) (with_rest d rest c)) ≡ state_of (final_within end) (with_rest d rest c)
  tidied end = tidy_view (final_within end) (with_rest d rest c)

  -- no byte came, and nothing changed
  none_changed : length bytes ≡ 0 → state_of (final_within Faulted) (with_rest d rest c) ≡ s
  none_changed e =
      let empty : bytes ≡ [] = none_taken bytes e in
      let same : g.moved + length bytes ≡ g.moved = omega (arith, e) in
      let device : after_moving GoesOn g (length bytes) v ≡ v = λ i. record v { present = (ap (λ m. Some (record g { moved = m })) same ∙ sym present) i } in
      let work : at_work (work_on (g.moved + length bytes) t) t ≡ t = λ i. record t { phase = sym moving i; buffer = sym input.unbuffered i; stored = (ap (λ m. min m t.len) same ∙ sym stored) i } in
      let devices : set k.devices d (Some (after_moving GoesOn g (length bytes) v)) ≡ k.devices = ap (λ w. set k.devices d (Some w)) device ∙ set_same k.devices d v there in
      let transfers = worked_same n (work_on (g.moved + length bytes) t) t k.transfers input.found work in
      let rests : c.rests d ≡ rest = ap (λ (r : ℕ → List ℕ). r d) shows.rests ∙ is ∙ ap (λ l. l ++ rest) empty in
      (λ i. state_of (record k { devices = devices i; transfers = transfers i }) (with_rest d rest c))
      ∙ ap (state_of k) (rest_same d rest c rests) ∙ shows.none empty

  pub within_steps : (end : BodyEnd) (ended : Bool) → EndsPayload end (g.header.len - g.moved) budget (length bytes) ended → length bytes ≤ budget → length bytes ≤ g.header.len - g.moved → 0 < budget → MayBeLeft ended rest → Steps s (Recv d budget) (state_of (final_within end) (with_rest d rest c)) (body_reply end (0 + length bytes))
  within_steps More ended ends within fits some left = plain_steps s (state_of (final_within More) (with_rest d rest c)) (Recv d budget) (reply.Got (0 + length bytes)) refl (tidied More)
      (sym (moved_on budget (taken_all More (g.header.len - g.moved) budget bytes rest ended ends refl within fits left) ∙ went More ended ends some (λ e. absurd (cc))))
  within_steps Whole ended ends within fits some left = plain_steps s (state_of (final_within Whole) (with_rest d rest c)) (Recv d budget) (reply.Got (0 + length bytes)) refl (tidied Whole)
      (sym (moved_on budget (taken_all Whole (g.header.len - g.moved) budget bytes rest ended ends refl within fits left) ∙ went Whole ended ends some (λ e. absurd (cc))))
  within_steps Truncated ended ends within fits some left = plain_steps s (state_of (final_within Truncated) (with_rest d rest c)) (Recv d budget) (reply.Got (0 + length bytes)) refl (tidied Truncated)
      (sym (moved_on budget (taken_all Truncated (g.header.len - g.moved) budget bytes rest ended ends refl within fits left) ∙ went Truncated ended ends some (λ e. absurd (cc))))
  within_steps Faulted ended ends within fits some left =
      let fewer : length bytes < budget = ends.0 in
      let short : length bytes < g.header.len - g.moved = ends.1 in
      let count : 0 + length bytes ≡ length bytes = omega arith in
      let inside = may_fail_within s d x (matched_datagram g.header g.moved n) bytes rest has refl (inside_payload bytes rest (g.header.len - g.moved) short) in
      let may : may_fail s (Recv d budget) (0 + length bytes) ≡ true = ap (λ m. nat_lt m budget && may_fail_receiving s d m) count ∙ grind (arith, rules, inside, fewer) in
      failed_steps s (state_of (final_within Faulted) (with_rest d rest c)) (Recv d budget) (0 + length bytes) may (tidied Faulted)
      (λ z. none_changed (omega (arith, eqb-true (0 + length bytes) 0 z)))
      (λ z. sym (ap (λ (o : Outcome). o.0) (moved_on (0 + length bytes) (payload_is (0 + length bytes) (g.header.len - g.moved) bytes rest (omega arith) fits (inl (omega arith))) ∙ went Faulted ended ends some (λ e. positive (0 + length bytes) (eqb-false (0 + length bytes) 0 z)))))
    where
      positive : (m : ℕ) → (m ≡ 0 → ⊥) → 0 < m
      positive m apart = omega (arith, apart)
