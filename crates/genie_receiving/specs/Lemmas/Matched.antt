-- A datagram whose payload a device moves into an input.
use Rattle.std.proofs.Common.{◌≡◌, ℕ, ◌+◌, ◌-◌, ◌<◌, ◌≤◌, ◌⊎◌, Bool, true, false, List, ◌++◌, refl, sym, ap, arith, ◌∙◌, ⊎_elim, length, set, inl, inr, eqb-true, eq-eqb}
use Rattle.std.specs.Prelude.{Option, Some, None, find, min, ◌==◌, if◌then◌else◌}
use Rattle.std.proofs.lemmas.Bool.{ne_eqb, eqb-false}
use Rattle.genie_base.specs.Headers.{payload_taken}
use Rattle.genie_base.specs.declared.config.Kind.TheVariants.{Early}
use Rattle.genie_base.specs.declared.reply.Reply.TheVariants as reply
use Rattle.genie_device.specs.Buffers.{filled, arrived}
use Rattle.genie_device.specs.Device.{DeviceView, after_body, more_moved, buffer_of}
use Rattle.genie_device.specs.declared.present.Present.{Present}
use Rattle.genie_device.specs.declared.steps.BodyEnd.{BodyEnd}
use Rattle.genie_device.specs.declared.steps.BodyEnd.TheVariants.{More, Whole, Truncated, Faulted}
use Rattle.genie_model.specs.Receiving.{set_device, change_transfer, with_datagram, land, go_on}
use Rattle.genie_model.specs.State as flat
use Rattle.genie_model.specs.Tables.{entry}
use Rattle.genie_model.specs.Lemmas.Lists.{entry_same, find_has}
use Rattle.genie_model.specs.declared.fate.Fate.TheVariants.{Matched}
use Rattle.genie_model.specs.declared.phase.Phase.TheVariants.{Moving}
use Rattle.genie_kernel.specs.declared.kernel.Kernel.{Kernel}
use Rattle.genie_kernel.specs.declared.transfer.Transfer.{Transfer}
use Rattle.genie_kernel.specs.Calls.{has_number, receiver}
use Rattle.genie_kernel.specs.View.{Bytes, state_of}
use Rattle.genie_changes.specs.Working.{Work, at_work, worked}
use Rattle.genie_receiving.specs.Course.{course_of, ended, is_faulted}
use Rattle.genie_receiving.specs.declared.course.Course.{Course}
use Rattle.genie_receiving.specs.declared.course.Course.TheVariants.{GoesOn, Ends, IsTruncated}
use Rattle.genie_receiving.specs.Devices.{with_device, with_rest, KeepsPayload}
use Rattle.genie_receiving.specs.Landing.{work_of}
use Rattle.genie_receiving.specs.Laws.{ReceiveLaws}
use Rattle.genie_receiving.specs.Receiving.{MayBeLeft}
use Rattle.genie_receiving.specs.Lemmas.Bytes.{payload_is}
use Rattle.genie_receiving.specs.Lemmas.Flat.{goes_on, is_over, is_cut_off}
use Rattle.genie_receiving.specs.Lemmas.Payloads.{ShowsLanded, IsInputOf, matched_datagram, matched_view, set_state, numbered, work_on, work_over, receives_still, landed_state, over_state}
use Rattle.genie_receiving.specs.Lemmas.Views.{found_still, worked_again}

-- how a step of a payload ended that moved so many of the bytes left: whether it ended because the input had
abbrev pub EndsPayload : BodyEnd → (left n moved : ℕ) (ended : Bool) → Type 0
EndsPayload More left n moved ended = (moved < left) × ((moved ≡ n) ⊎ ((0 < moved) × (ended ≡ true)))
EndsPayload Whole left n moved ended = moved ≡ left
EndsPayload Truncated left n moved ended = (moved ≡ 0) × (0 < n) × (0 < left) × (ended ≡ true)
EndsPayload Faulted left n moved ended = (moved < n) × (moved < left)

-- it moved all that it could
pub taken_all : (end : BodyEnd) (left n : ℕ) (bytes rest : List ℕ) (ended : Bool) → EndsPayload end left n (length bytes) ended → is_faulted end ≡ false → length bytes ≤ n → length bytes ≤ left → MayBeLeft ended rest → length bytes ≡ payload_taken n left (bytes ++ rest)
taken_all More left n bytes rest ended h plain within fits may = payload_is n left bytes rest within fits (⊎_elim (λ e. inl e) (λ (x : (0 < length bytes) × (ended ≡ true)). inr (inr (ap length (may x.1)))) h.1)
taken_all Whole left n bytes rest ended h plain within fits may = payload_is n left bytes rest within fits (inr (inl h))
taken_all Truncated left n bytes rest ended h plain within fits may = payload_is n left bytes rest within fits (inr (inr (ap length (may h.3))))
taken_all Faulted left n bytes rest ended h plain within fits may = absurd (cc)

-- the device behind it, with so many bytes moved of its datagram g
abbrev pub after_moving : Course → Present → ℕ → DeviceView → DeviceView
after_moving GoesOn g moved v = record v { present = Some (record g { moved = g.moved + moved }) }
after_moving Ends g moved v = record v { present = None }
after_moving IsTruncated g moved v = record v { present = None }

pub moving_keeps : (course : Course) (g : Present) (moved : ℕ) (v w : DeviceView) → KeepsPayload v w → KeepsPayload v (after_moving course g moved w)
moving_keeps GoesOn g moved v w k = record { config = k.config; limit = k.limit; buffers = k.buffers; staged = k.staged; sent = k.sent }
moving_keeps Ends g moved v w k = record { config = k.config; limit = k.limit; buffers = k.buffers; staged = k.staged; sent = k.sent }
moving_keeps IsTruncated g moved v w k = record { config = k.config; limit = k.limit; buffers = k.buffers; staged = k.staged; sent = k.sent }

-- a datagram that fills no buffer of the device
pub moved_device : (course : Course) (g : Present) (bytes : List ℕ) (v : DeviceView) → v.present ≡ Some g → g.buffer ≡ None → ended course (after_body bytes v) ≡ after_moving course g (length bytes) v
moved_device course g bytes v is none =
    let one : after_body bytes v ≡ record v { present = Some (record g { moved = g.moved + length bytes }) } =
    (λ i. record v { present = more_moved (length bytes) (is i); buffers = filled (buffer_of (is i)) bytes v.buffers })
    ∙ (λ i. record v { present = Some (record g { moved = g.moved + length bytes }); buffers = filled (none i) bytes v.buffers }) in
    ap (ended course) one ∙ by course
  where
    by : (c : Course) → ended c (record v { present = Some (record g { moved = g.moved + length bytes }) }) ≡ after_moving c g (length bytes) v
    by GoesOn = refl
    by Ends = λ i. record v { present = None; buffers = arrived (none i) v.buffers }
    by IsTruncated = λ i. record v { present = None; buffers = arrived (none i) v.buffers }

-- the kernel behind it: the device, and the input n at its work
abbrev pub received_kernel : Kernel → ℕ → ℕ → DeviceView → Work → Kernel
received_kernel k d n w work = record k { devices = set k.devices d (Some w); transfers = worked (has_number n) work k.transfers }

-- a device of the flat machine, with such a datagram
abbrev pub flat_device : DeviceView → List ℕ → List ℕ → Option flat.Datagram → flat.Device
flat_device v rest sent present = record { kind = v.config.kind; depth = v.config.depth; rest = rest; header = v.gathered; present = present; is_bad = v.is_bad; sent = sent }

-- device v of the kernel is v1 once its header is gathered, and has the datagram g, which it moves into input t, number n
module _ (laws : ReceiveLaws) (k : Kernel) (b c : Bytes) (d n h : ℕ) (t : Transfer) (v v1 : DeviceView) (g : Present) (bytes rest : List ℕ) (there : entry k.devices d ≡ Some v) (kept : KeepsPayload v v1) (kind : v1.config.kind ≡ Early) (unpooled : entry k.pools d ≡ None) (unbuffered : g.buffer ≡ None)
    (input : IsInputOf k d n t) (moving : t.phase ≡ Moving) (stored : t.stored ≡ min g.moved t.len) (receives : receiver k.transfers d ≡ Some t) (shows : ShowsLanded k t g.moved bytes b c) where
  abbrev so_far : ℕ
  so_far = g.moved + length bytes

  abbrev k2 : Kernel
  k2 = record k { transfers = worked (has_number n) (work_on so_far t) k.transfers }

  lands : land (state_of k b) g.moved bytes (Matched n) ≡ state_of k2 c
  lands = landed_state laws k d n g.moved t bytes input moving stored receives b c shows

  -- the datagram goes on
  goes_on_state : (sent : List ℕ) → set_device (land (state_of k b) g.moved bytes (Matched n)) d (flat_device v1 rest sent (Some (matched_datagram g.header so_far n))) ≡ state_of (received_kernel k d n (after_moving GoesOn g (length bytes) v1) (work_on so_far t)) (with_rest d rest c)
  goes_on_state sent =
      let w : DeviceView = after_moving GoesOn g (length bytes) v1 in
      let x : flat.Device = flat_device v1 rest sent (Some (matched_datagram g.header so_far n)) in
      let still = receives_still laws k d n g.moved t bytes input moving stored receives in
      let seen = matched_view c.seen.kept_bytes w (entry k.pools d) (receiver k2.transfers d) (record g { moved = so_far }) (at_work (work_on so_far t) t) n kind unpooled still (numbered k d n t input) unbuffered in
      ap (λ s. set_device s d x) lands
      ∙ set_state k2 c d v w rest x there (moving_keeps GoesOn g (length bytes) v v1 kept) (λ i. record x { present = Some (seen i); sent = c.sents d })

  -- it is over, and its input ready
  over_states : (truncated : Bool) (sent : List ℕ) → change_transfer (set_device (land (state_of k b) g.moved bytes (Matched n)) d (flat_device v1 rest sent None)) n (with_datagram truncated g.header.len) ≡ state_of (received_kernel k d n (record v1 { present = None }) (work_over truncated so_far g.header.len t)) (with_rest d rest c)
  over_states truncated sent =
      let w : DeviceView = record v1 { present = None } in
      let x : flat.Device = flat_device v1 rest sent None in
      let f : flat.Transfer → flat.Transfer = with_datagram truncated g.header.len in
      let k3 : Kernel = with_device k2 d w in
      let t2 : Transfer = at_work (work_on so_far t) t in
      let keeps : KeepsPayload v w = record { config = kept.config; limit = kept.limit; buffers = kept.buffers; staged = kept.staged; sent = kept.sent } in
      let found : find (has_number n) k2.transfers ≡ Some t2 = found_still (has_number n) (work_on so_far t) t (has_number n) k.transfers input.found input.found (find_has (has_number n) k.transfers t input.found).1 in
      let ready : IsInputOf k3 d n t2 = record { found = found; dev = input.dev; inward = input.inward; unbuffered = refl } in
      ap (λ s. change_transfer (set_device s d x) n f) lands
      ∙ ap (λ s. change_transfer s n f) (set_state k2 c d v w rest x there keeps refl)
      ∙ sym (over_state laws k3 (with_rest d rest c) d n so_far g.header.len truncated t2 w ready refl refl (entry_same k.devices d v (Some w) there) refl)
      ∙ ap (λ ts. state_of (record k { devices = set k.devices d (Some w); transfers = ts }) (with_rest d rest c)) (worked_again n (work_on so_far t) (work_over truncated so_far g.header.len t) k.transfers)

  abbrev final : Course → Kernel
  final course = received_kernel k d n (after_moving course g (length bytes) v1) (work_of course so_far g.header.len t)

  -- so it goes on in the flat machine
  pub went_on : (end : BodyEnd) (ended : Bool) (budget : ℕ) (sent : List ℕ) (before : Option flat.Datagram) → EndsPayload end (g.header.len - g.moved) budget (length bytes) ended → g.moved ≤ g.header.len → 0 < h + budget → 0 < h + (g.header.len - g.moved) → (is_faulted end ≡ true → 0 < h + length bytes)
      → go_on (land (state_of k b) g.moved bytes (Matched n)) d (flat_device v1 rest sent before) (matched_datagram g.header so_far n) (h + length bytes) ≡ (state_of (final (course_of end h)) (with_rest d rest c), reply.Got (h + length bytes))
  went_on More ended budget sent before ends fits some more faulted =
      let s : flat.State = land (state_of k b) g.moved bytes (Matched n) in
      let y : flat.Device = flat_device v1 rest sent before in
      let moved : (h + length bytes == 0) ≡ false = ne_eqb (h + length bytes) 0 (λ e. ⊎_elim (λ (z : length bytes ≡ budget). absurd (omega (arith, some, z, e))) (λ (z : (0 < length bytes) × (ended ≡ true)). let l : 0 < length bytes = z.0 in absurd (omega (arith, l, e))) ends.1) in
      let l : length bytes < g.header.len - g.moved = ends.0 in
      goes_on s d y (matched_datagram g.header so_far n) (h + length bytes) moved (ne_eqb so_far g.header.len (λ e. absurd (omega (arith, l, e)))) ∙ (λ i. (goes_on_state sent i, reply.Got (h + length bytes)))
  went_on Faulted ended budget sent before ends fits some more faulted =
      let s : flat.State = land (state_of k b) g.moved bytes (Matched n) in
      let y : flat.Device = flat_device v1 rest sent before in
      let z : 0 < h + length bytes = faulted refl in
      let l : length bytes < g.header.len - g.moved = ends.1 in
      goes_on s d y (matched_datagram g.header so_far n) (h + length bytes) (ne_eqb (h + length bytes) 0 (λ e. absurd (omega (arith, z, e)))) (ne_eqb so_far g.header.len (λ e. absurd (omega (arith, l, e)))) ∙ (λ i. (goes_on_state sent i, reply.Got (h + length bytes)))
  went_on Whole ended budget sent before ends fits some more faulted =
      let s : flat.State = land (state_of k b) g.moved bytes (Matched n) in
      let y : flat.Device = flat_device v1 rest sent before in
      let all : length bytes ≡ g.header.len - g.moved = ends in
      is_over s d y (matched_datagram g.header so_far n) (h + length bytes) (ne_eqb (h + length bytes) 0 (λ e. absurd (omega (arith, more, all, e)))) (eq-eqb so_far g.header.len (omega (arith, all, fits))) ∙ (λ i. (over_states false sent i, reply.Got (h + length bytes)))
  went_on Truncated ended budget sent before ends fits some more faulted = by (h == 0) refl
    where
      by : (z : Bool) → (h == 0) ≡ z → go_on (land (state_of k b) g.moved bytes (Matched n)) d (flat_device v1 rest sent before) (matched_datagram g.header so_far n) (h + length bytes) ≡ (state_of (final (if z then IsTruncated else GoesOn)) (with_rest d rest c), reply.Got (h + length bytes))
      by true e =
          let s : flat.State = land (state_of k b) g.moved bytes (Matched n) in
          let y : flat.Device = flat_device v1 rest sent before in
          let first : h ≡ 0 = eqb-true h 0 e in
          let none : length bytes ≡ 0 = ends.0 in
          let zero_moved : h + length bytes ≡ 0 = omega (arith, first, none) in
          is_cut_off s d y (matched_datagram g.header so_far n) (h + length bytes) (eq-eqb (h + length bytes) 0 zero_moved) ∙ (λ i. (over_states true sent i, reply.Got (sym zero_moved i)))
      by false e =
          let s : flat.State = land (state_of k b) g.moved bytes (Matched n) in
          let y : flat.Device = flat_device v1 rest sent before in
          let none : length bytes ≡ 0 = ends.0 in
          let left : 0 < g.header.len - g.moved = ends.2 in
          goes_on s d y (matched_datagram g.header so_far n) (h + length bytes) (ne_eqb (h + length bytes) 0 (λ z. eqb-false h 0 e (omega (arith, z)))) (ne_eqb so_far g.header.len (λ z. absurd (omega (arith, left, none, z)))) ∙ (λ i. (goes_on_state sent i, reply.Got (h + length bytes)))
