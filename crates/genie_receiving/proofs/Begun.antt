-- A step with whose header an input begins to receive.
use Rattle.std.proofs.Common.{◌≡◌, ℕ, ◌+◌, ◌-◌, ◌<◌, ◌≤◌, Bool, true, List, [], ◌++◌, refl, sym, ap, arith, rules, ◌∙◌, length, set, inl, eq-eqb, eqb-true}
use Rattle.std.specs.Prelude.{Some, None, min, ◌==◌}
use Rattle.genie_base.specs.Configs.{most}
use Rattle.genie_base.specs.Headers.{payload_taken, is_valid_header, port_in, flow_in}
use Rattle.genie_base.specs.declared.config.Kind.TheVariants.{Early}
use Rattle.genie_base.specs.declared.event.Event.TheVariants.{Recv}
use Rattle.genie_base.specs.declared.reply.Reply.TheVariants as reply
use Rattle.genie_device.specs.Device.{DeviceView}
use Rattle.genie_device.specs.declared.steps.BodyEnd.{BodyEnd}
use Rattle.genie_device.specs.declared.steps.BodyEnd.TheVariants.{More, Whole, Truncated, Faulted}
use Rattle.genie_wire.specs.Headers.{IsWhole, header_in}
use Rattle.genie_wire.specs.declared.header.Header.{Header}
use Rattle.genie_model.specs.Pending.{is_early, first_posted}
use Rattle.genie_model.specs.Receiving.{recv, go_on, land, datagram, change_transfer, with_phase}
use Rattle.genie_model.specs.Space.{Outcome, tidy}
use Rattle.genie_model.specs.State as flat
use Rattle.genie_model.specs.Step.{may_fail}
use Rattle.genie_model.specs.Tables.{entry}
use Rattle.genie_model.specs.Lemmas.Lists.{find_has}
use Rattle.genie_model.specs.declared.fate.Fate.TheVariants.{Matched}
use Rattle.genie_model.specs.declared.phase.Phase.TheVariants.{Posted, Moving}
use Rattle.genie_kernel.specs.declared.kernel.Kernel.{Kernel}
use Rattle.genie_kernel.specs.declared.transfer.Transfer.{Transfer}
use Rattle.genie_kernel.specs.Calls.{has_number, receiver, receives_from}
use Rattle.genie_kernel.specs.Good.{IsGood}
use Rattle.genie_kernel.specs.Steps.{Steps}
use Rattle.genie_kernel.specs.View.{Bytes, state_of}
use Rattle.genie_kernel.specs.Lemmas.Tidying.{tidy_view}
use Rattle.genie_changes.specs.Working.{Work, at_work, worked}
use Rattle.genie_receiving.specs.Course.{course_of}
use Rattle.genie_receiving.specs.declared.course.Course.{Course}
use Rattle.genie_receiving.specs.declared.course.Course.TheVariants.{GoesOn, Ends, IsTruncated}
use Rattle.genie_receiving.specs.Devices.{with_rest, KeepsPayload}
use Rattle.genie_receiving.specs.Gathering.{IsBetween}
use Rattle.genie_receiving.specs.Landing.{work_of}
use Rattle.genie_receiving.specs.Laws.{ReceiveLaws}
use Rattle.genie_receiving.specs.Receiving.{MayBeLeft}
use Rattle.genie_receiving.specs.Lemmas.Bytes.{payload_is}
use Rattle.genie_receiving.specs.Lemmas.Flat.{Gathers, recv_matched, payload_moved, may_fail_begun}
use Rattle.genie_receiving.specs.Lemmas.Gathered.{gathers, seen_before, IsFree}
use Rattle.genie_receiving.specs.Lemmas.Good.{early_unpooled, none_received}
use Rattle.genie_receiving.specs.Lemmas.Marking.{plain_steps, failed_steps}
use Rattle.genie_receiving.specs.Lemmas.Matched.{EndsPayload, taken_all, after_moving, received_kernel, flat_device, went_on}
use Rattle.genie_receiving.specs.Lemmas.Payloads.{ShowsLanded, IsInputOf, matched_datagram, moving_state}
use Rattle.genie_receiving.specs.Lemmas.Views.{found_still, found_now, worked_again}
use Rattle.genie_receiving.specs.Lemmas.Within.{body_reply, inside_payload}

-- the work of an input that begins to receive
abbrev pub work_begun : Transfer → Work
work_begun t = record { phase = Moving; buffer = None; stored = t.stored; note = t.note }

-- the kernel whose input n receives
abbrev pub begun_kernel : Kernel → ℕ → Transfer → Kernel
begun_kernel k n t = record k { transfers = worked (has_number n) (work_begun t) k.transfers }

-- the device with the datagram that this header begins
abbrev pub beginning : Header → DeviceView → DeviceView
beginning h v = record v { gathered = []; present = Some (record { header = h; moved = 0; buffer = None }) }

-- the same call at a later point
work_later : (course : Course) (so_far len : ℕ) (t : Transfer) → work_of course so_far len (at_work (work_begun t) t) ≡ work_of course so_far len t
work_later GoesOn so_far len t = refl
work_later Ends so_far len t = refl
work_later IsTruncated so_far len t = refl

module _ (laws : ReceiveLaws) (k : Kernel) (b c : Bytes) (d n budget : ℕ) (t : Transfer) (v : DeviceView) (header bytes rest : List ℕ) (good : IsGood k) (there : entry k.devices d ≡ Some v) (between : IsBetween v) (free : IsFree k d v) (kind : v.config.kind ≡ Early) (early : is_early v.config.kind ≡ true)
    (within : length header ≤ budget) (some : 0 < length header) (whole : IsWhole (v.gathered ++ header)) (valid : is_valid_header (most v.config.kind k.config.page) (v.gathered ++ header) ≡ true)
    (input : IsInputOf k d n t) (posted : t.phase ≡ Posted) (unstored : t.stored ≡ 0) (met : first_posted (state_of k b) d (port_in (v.gathered ++ header)) (flow_in (v.gathered ++ header)) ≡ Some n)
    (shows : ShowsLanded (begun_kernel k n t) (at_work (work_begun t) t) 0 bytes b c) (is : b.rests d ≡ header ++ (bytes ++ rest)) where
  abbrev s : flat.State
  s = state_of k b

  abbrev h : Header
  h = header_in (v.gathered ++ header)

  abbrev k1 : Kernel
  k1 = begun_kernel k n t

  abbrev t1 : Transfer
  t1 = at_work (work_begun t) t

  abbrev x : flat.Device
  x = seen_before k b d budget v header (bytes ++ rest) good there between within is

  has : Gathers s d x
  has = gathers k b d budget v header (bytes ++ rest) good there between within is (free b (header ++ (bytes ++ rest)))

  moves : state_of k1 b ≡ change_transfer s n (with_phase Moving)
  moves = moving_state laws k b d n t v input posted there between.absent

  begins : IsInputOf k1 d n t1
  begins = record {
    found = found_still (has_number n) (work_begun t) t (has_number n) k.transfers input.found input.found (find_has (has_number n) k.transfers t input.found).1;
    dev = input.dev;
    inward = input.inward;
    unbuffered = refl;
  }

  receives : receiver k1.transfers d ≡ Some t1
  receives = found_now (has_number n) (work_begun t) t (receives_from d) k.transfers input.found (none_received k d v good there between.absent) (eq-eqb t.dev d input.dev)

  -- the step of the flat machine, with any budget that lets it move these bytes
  began : (m : ℕ) → length header ≤ m → length bytes ≡ payload_taken (m - length header) (h.len - 0) (bytes ++ rest)
      → recv s d m ≡ go_on (land (state_of k1 b) 0 bytes (Matched n)) d (flat_device (beginning h v) rest (b.sents d) x.present) (matched_datagram h (0 + length bytes) n) (length header + length bytes)
  began m fits all =
      recv_matched s d m n x header (bytes ++ rest) has refl whole fits valid early met
      ∙ payload_moved (change_transfer s n (with_phase Moving)) d (m - length header) (length header) (record x { rest = bytes ++ rest; header = [] }) (datagram (v.gathered ++ header) (Matched n)) bytes rest refl all
      ∙ ap (λ z. go_on (land z 0 bytes (Matched n)) d (flat_device (beginning h v) rest (b.sents d) x.present) (matched_datagram h (0 + length bytes) n) (length header + length bytes)) (sym moves)

  abbrev pub final_begun : BodyEnd → Kernel
  final_begun end = received_kernel k d n (after_moving (course_of end (length header)) (record { header = h; moved = 0; buffer = None }) (length bytes) (beginning h v)) (work_of (course_of end (length header)) (0 + length bytes) h.len t)

  keeps_beginning : KeepsPayload v (beginning h v)
  keeps_beginning = record { config = refl; limit = refl; buffers = refl; staged = refl; sent = refl }

  went : (end : BodyEnd) (ended : Bool) → EndsPayload end (h.len - 0) (budget - length header) (length bytes) ended
      → go_on (land (state_of k1 b) 0 bytes (Matched n)) d (flat_device (beginning h v) rest (b.sents d) x.present) (matched_datagram h (0 + length bytes) n) (length header + length bytes) ≡ (state_of (final_begun end) (with_rest d rest c), reply.Got (length header + length bytes))
  went end ended ends =
      let course : Course = course_of end (length header) in
      let none : t1.stored ≡ min 0 t1.len = unstored ∙ (let z : 0 ≡ min 0 t.len = omega arith in z) in
      let transfers : worked (has_number n) (work_of course (0 + length bytes) h.len t1) k1.transfers ≡ worked (has_number n) (work_of course (0 + length bytes) h.len t) k.transfers =
      worked_again n (work_begun t) (work_of course (0 + length bytes) h.len t1) k.transfers ∙ ap (λ w. worked (has_number n) w k.transfers) (work_later course (0 + length bytes) h.len t) in
      went_on laws k1 b c d n (length header) t1 v (beginning h v) (record { header = h; moved = 0; buffer = None }) bytes rest there keeps_beginning kind (early_unpooled k d v good there early) refl begins refl none receives shows end ended (budget - length header) (b.sents d) x.present ends (omega arith) (omega (arith, some)) (omega (arith, some)) (λ e. omega (arith, some))
      ∙ (λ i. (state_of (record k { devices = set k.devices d (Some (after_moving course (record { header = h; moved = 0; buffer = None }) (length bytes) (beginning h v))); transfers = transfers i }) (with_rest d rest c), reply.Got (length header + length bytes)))

  tidied : (end : BodyEnd) → tidy (state_of (final_begun end) (with_rest d rest c)) ≡ state_of (final_begun end) (with_rest d rest c)
  tidied end = tidy_view (final_begun end) (with_rest d rest c)

  pub begun_steps : (end : BodyEnd) (ended : Bool) → EndsPayload end (h.len - 0) (budget - length header) (length bytes) ended → length bytes ≤ budget - length header → length bytes ≤ h.len - 0 → MayBeLeft ended rest → Steps s (Recv d budget) (state_of (final_begun end) (with_rest d rest c)) (body_reply end (length header + length bytes))
  begun_steps More ended ends may fits left = plain_steps s (state_of (final_begun More) (with_rest d rest c)) (Recv d budget) (reply.Got (length header + length bytes)) refl (tidied More)
      (sym (began budget within (taken_all More (h.len - 0) (budget - length header) bytes rest ended ends refl may fits left) ∙ went More ended ends))
  begun_steps Whole ended ends may fits left = plain_steps s (state_of (final_begun Whole) (with_rest d rest c)) (Recv d budget) (reply.Got (length header + length bytes)) refl (tidied Whole)
      (sym (began budget within (taken_all Whole (h.len - 0) (budget - length header) bytes rest ended ends refl may fits left) ∙ went Whole ended ends))
  begun_steps Truncated ended ends may fits left = plain_steps s (state_of (final_begun Truncated) (with_rest d rest c)) (Recv d budget) (reply.Got (length header + length bytes)) refl (tidied Truncated)
      (sym (began budget within (taken_all Truncated (h.len - 0) (budget - length header) bytes rest ended ends refl may fits left) ∙ went Truncated ended ends))
  begun_steps Faulted ended ends may fits left =
      let fewer : length bytes < budget - length header = ends.0 in
      let short : length bytes < h.len - 0 = ends.1 in
      let m : ℕ = length header + length bytes in
      let inside = inside_payload bytes rest h.len (omega (arith, short)) in
      let begun = may_fail_begun s d n x header bytes rest has refl whole valid met inside in
      let less : length header + length bytes < budget = omega (arith, fewer) in
      let can : may_fail s (Recv d budget) (length header + length bytes) ≡ true = grind (arith, rules, begun, less) in
      failed_steps s (state_of (final_begun Faulted) (with_rest d rest c)) (Recv d budget) (length header + length bytes) can (tidied Faulted)
      (λ z. absurd (clash (length header) (length bytes) some z))
      (λ z. sym (ap (λ (o : Outcome). o.0) (began m (omega arith) (payload_is (m - length header) (h.len - 0) bytes rest (omega arith) fits (inl (omega arith))) ∙ went Faulted ended ends)))
    where
      clash : (a e : ℕ) → 0 < a → (a + e == 0) ≡ true → ⊥
      clash a e l z = let none : a + e ≡ 0 = eqb-true (a + e) 0 z in absurd (omega (arith, l, none))
