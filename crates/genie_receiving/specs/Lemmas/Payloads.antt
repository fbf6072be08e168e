-- The state while payload bytes land in an input, change by change.
use Rattle.std.proofs.Common.{◌≡◌, ◌≢◌, ℕ, ◌+◌, ◌-◌, zero, suc, Bool, true, false, List, [], ◌∷◌, ◌++◌, refl, sym, ap, subst, arith, ◌∙◌, ⊎_elim, length, take, eqb-true, eq-eqb}
use Rattle.std.specs.Prelude.{Option, Some, None, find, min, if◌then◌else◌}
use Rattle.std.specs.Option.{option_map}
use Rattle.genie_base.specs.Bytes.{overlaid}
use Rattle.genie_base.specs.Lemmas.Places.{same_or}
use Rattle.genie_base.specs.declared.config.Kind.TheVariants.{Early}
use Rattle.genie_base.specs.declared.semantics.Direction.TheVariants.{Inward}
use Rattle.genie_device.specs.Device.{DeviceView}
use Rattle.genie_device.specs.declared.present.Present.{Present}
use Rattle.genie_input.specs.Pools.{PoolState}
use Rattle.genie_wire.specs.declared.header.Header.{Header}
use Rattle.genie_model.specs.Pending.{is_queued, is_numbered, pending}
use Rattle.genie_model.specs.Receiving.{set_device, change_transfer, with_phase, with_datagram, land, land_in, landed, landing, after_receiving, note_of}
use Rattle.genie_model.specs.State as flat
use Rattle.genie_model.specs.Tables.{entry}
use Rattle.genie_model.specs.Lemmas.Lists.{find_has}
use Rattle.genie_model.specs.declared.fate.Fate.TheVariants.{Matched, Skipped}
use Rattle.genie_model.specs.declared.phase.Phase.TheVariants.{Posted, Moving, Ready}
use Rattle.genie_kernel.specs.declared.kernel.Kernel.{Kernel}
use Rattle.genie_kernel.specs.declared.transfer.Transfer.{Transfer}
use Rattle.genie_kernel.specs.Calls.{has_number, number_of, first_waiting, receiver, receives_from, is_strong_call}
use Rattle.genie_kernel.specs.Devices.{device_view, datagram_view, fate_of, gathered_in, filling, matched_or_skipped}
use Rattle.genie_kernel.specs.Orphans.{lent_bytes}
use Rattle.genie_kernel.specs.Transfers.{transfer_view}
use Rattle.genie_kernel.specs.View.{Bytes, state_of}
use Rattle.genie_kernel.specs.Lemmas.DeviceViews.{entry_view}
use Rattle.genie_kernel.specs.Lemmas.Processes.{find_map}
use Rattle.genie_changes.specs.Working.{Work, at_work, worked}
use Rattle.genie_receiving.specs.Devices.{with_device, with_rest, KeepsPayload}
use Rattle.genie_receiving.specs.Laws.{ReceiveLaws}
use Rattle.genie_receiving.specs.Lemmas.Flat.{device_changed}
use Rattle.genie_receiving.specs.Lemmas.Views.{device_state, worked_state, seen_device, receiver_same, absent_same, found_still, receiver_elsewhere}

-- a transfer of a kernel, as it is seen
abbrev pub seen_transfer : Kernel → Bytes → Transfer → flat.Transfer
seen_transfer k b t = transfer_view b.seen.kept_bytes k.devices k.pools (first_waiting k.transfers) t

-- bytes have landed in the frames of an input from its place x on: those of a weak one show in its region or orphan
pub record ShowsLanded (k : Kernel) (t : Transfer) (x : ℕ) (bytes : List ℕ) (b c : Bytes) : Type 0 where
  pub rests : c.rests ≡ b.rests
  pub sents : c.sents ≡ b.sents
  pub state : state_of k c ≡ landed (state_of k b) (seen_transfer k b t) x bytes (landing (seen_transfer k b t))
  pub none : bytes ≡ [] → state_of k c ≡ state_of k b
  pub size : is_strong_call t ≡ true → length (lent_bytes b.seen.kept_bytes t) ≡ t.len
  pub payload : is_strong_call t ≡ true → lent_bytes c.seen.kept_bytes t ≡ overlaid x bytes (lent_bytes b.seen.kept_bytes t)

-- what was stored before the new bytes, and these
pub take_none : (n : ℕ) → take {A = ℕ} n [] ≡ []
take_none zero = refl
take_none (suc n) = refl

pub stored_more : (x : ℕ) (bytes l : List ℕ) → take (min (x + length bytes) (length l)) (overlaid x bytes l) ≡ take (min x (length l)) (overlaid x bytes l) ++ take (length l - x) bytes
stored_more x bytes [] =
    let c : 0 - x ≡ 0 = omega arith in
    take_none (min (x + length bytes) 0) ∙ sym (λ i. take_none (min x 0) i ++ take (c i) bytes)
stored_more zero [] (y ∷ l) =
    let a : min (0 + 0) (suc (length l)) ≡ 0 = omega arith in
    let b : min 0 (suc (length l)) ≡ 0 = omega arith in
    (λ i. take (a i) (y ∷ l)) ∙ sym (λ i. take (b i) (y ∷ l) ++ take_none (suc (length l) - 0) i)
stored_more zero (c ∷ bytes) (y ∷ l) =
    let a : min (0 + suc (length bytes)) (suc (length l)) ≡ suc (min (0 + length bytes) (length l)) = omega arith in
    let b : min 0 (suc (length l)) ≡ 0 = omega arith in
    let d : suc (length l) - 0 ≡ suc (length l - 0) = omega arith in
    let e : min 0 (length l) ≡ 0 = omega arith in
    let rest : take (min (0 + length bytes) (length l)) (overlaid 0 bytes l) ≡ take (length l - 0) bytes = stored_more zero bytes l ∙ (λ i. take (e i) (overlaid 0 bytes l) ++ take (length l - 0) bytes) in
    (λ i. take (a i) (c ∷ overlaid 0 bytes l)) ∙ ap (λ z. c ∷ z) rest ∙ sym (λ i. take (b i) (c ∷ overlaid 0 bytes l) ++ take (d i) (c ∷ bytes))
stored_more (suc x) bytes (y ∷ l) =
    let a : min (suc x + length bytes) (suc (length l)) ≡ suc (min (x + length bytes) (length l)) = omega arith in
    let b : min (suc x) (suc (length l)) ≡ suc (min x (length l)) = omega arith in
    let d : suc (length l) - suc x ≡ length l - x = omega arith in
    (λ i. take (a i) (y ∷ overlaid x bytes l)) ∙ ap (λ z. y ∷ z) (stored_more x bytes l) ∙ sym (λ i. take (b i) (y ∷ overlaid x bytes l) ++ take (d i) bytes)

-- a strong input gains the bytes that fit it, and a weak one shows none
gains : (c : Bool) (old new more : List ℕ) → (c ≡ true → new ≡ old ++ more) → (if c then new else []) ≡ (if c then (if c then old else []) ++ more else (if c then old else []))
gains true old new more h = h refl
gains false old new more h = refl

-- a receiving input, of which so many bytes are stored
abbrev receiving_with : ℕ → Transfer → Transfer
receiving_with stored t = record t { dir = Inward; phase = Moving; buffer = None; stored = stored }

-- what the input is seen as, once more bytes have come
seen_received : (s : ℕ → List ℕ) (k : Kernel) (x : ℕ) (bytes : List ℕ) (t : Transfer) → (is_strong_call t ≡ true → take (min (x + length bytes) t.len) (lent_bytes s t) ≡ take (min x t.len) (lent_bytes s t) ++ take (t.len - x) bytes)
    → transfer_view s k.devices k.pools (first_waiting k.transfers) (receiving_with (min (x + length bytes) t.len) t) ≡ after_receiving x bytes (transfer_view s k.devices k.pools (first_waiting k.transfers) (receiving_with (min x t.len) t))
seen_received s k x bytes t h = λ i. record (transfer_view s k.devices k.pools (first_waiting k.transfers) (receiving_with (min (x + length bytes) t.len) t)) {
  payload = gains (is_strong_call t) (take (min x t.len) (lent_bytes s t)) (take (min (x + length bytes) t.len) (lent_bytes s t)) (take (t.len - x) bytes) h i;
}

-- what it is seen as once its datagram is over
seen_over : (s : ℕ → List ℕ) (k : Kernel) (stored len : ℕ) (truncated : Bool) (t : Transfer)
    → transfer_view s k.devices k.pools (first_waiting k.transfers) (at_work (record { phase = Ready; buffer = None; stored = stored; note = note_of truncated len t.len }) (record t { dir = Inward })) ≡ with_datagram truncated len (transfer_view s k.devices k.pools (first_waiting k.transfers) (receiving_with stored t))
seen_over s k stored len truncated t = refl

-- what it is seen as once it receives
seen_moving : (s : ℕ → List ℕ) (k : Kernel) (t : Transfer)
    → transfer_view s k.devices k.pools (first_waiting k.transfers) (at_work (record { phase = Moving; buffer = None; stored = t.stored; note = t.note }) (record t { dir = Inward })) ≡ with_phase Moving (transfer_view s k.devices k.pools (first_waiting k.transfers) (record t { dir = Inward; phase = Posted; buffer = None }))
seen_moving s k t = refl

-- a datagram that is received for input n
abbrev pub matched_datagram : Header → ℕ → ℕ → flat.Datagram
matched_datagram h moved n = record { port = h.port; flow = h.flow; len = h.len; moved = moved; fate = Matched n; bytes = [] }

pub matched_view : (s : ℕ → List ℕ) (v : DeviceView) (pool : Option PoolState) (r : Option Transfer) (g : Present) (u : Transfer) (n : ℕ) → v.config.kind ≡ Early → pool ≡ None → r ≡ Some u → number_of u ≡ n → g.buffer ≡ None → datagram_view s v pool r g ≡ matched_datagram g.header g.moved n
matched_view s v pool r g u n kind unpooled is number none = λ i. record {
  port = g.header.port;
  flow = g.header.flow;
  len = g.header.len;
  moved = g.moved;
  fate = (ap (λ c. fate_of c r) kind ∙ ap matched_or_skipped is ∙ ap Matched number) i;
  bytes = (ap (λ p. gathered_in s v p g.moved (filling p g)) unpooled ∙ ap (gathered_in s v None g.moved) none) i;
}

-- one that is skipped
abbrev pub skipped_datagram : Header → ℕ → flat.Datagram
skipped_datagram h moved = record { port = h.port; flow = h.flow; len = h.len; moved = moved; fate = Skipped; bytes = [] }

pub skipped_view : (s : ℕ → List ℕ) (v : DeviceView) (pool : Option PoolState) (r : Option Transfer) (g : Present) → v.config.kind ≡ Early → pool ≡ None → r ≡ None → g.buffer ≡ None → datagram_view s v pool r g ≡ skipped_datagram g.header g.moved
skipped_view s v pool r g kind unpooled is none = λ i. record {
  port = g.header.port;
  flow = g.header.flow;
  len = g.header.len;
  moved = g.moved;
  fate = (ap (λ c. fate_of c r) kind ∙ ap matched_or_skipped is) i;
  bytes = (ap (λ p. gathered_in s v p g.moved (filling p g)) unpooled ∙ ap (gathered_in s v None g.moved) none) i;
}

-- the device changed, and so much left of its input
pub set_state : (k : Kernel) (c : Bytes) (d : ℕ) (v w : DeviceView) (rest : List ℕ) (x : flat.Device) → entry k.devices d ≡ Some v → KeepsPayload v w → device_view c.seen.kept_bytes rest (c.sents d) (entry k.pools d) (receiver k.transfers d) w ≡ record x { sent = c.sents d }
    → set_device (state_of k c) d x ≡ state_of (with_device k d w) (with_rest d rest c)
set_state k c d v w rest x there kept is =
    let was : entry (state_of k c).devices d ≡ Some (device_view c.seen.kept_bytes (c.rests d) (c.sents d) (entry k.pools d) (receiver k.transfers d) v) = entry_view c.seen.kept_bytes c.rests c.sents k.pools (receiver k.transfers) k.devices d ∙ ap (seen_device c.seen.kept_bytes c.rests c.sents k.pools (receiver k.transfers) d) there in
    device_changed (state_of k c) d _ x was ∙ sym (device_state k c d v w rest (record x { sent = c.sents d }) there kept is)

-- an input of a device
pub record IsInputOf (k : Kernel) (d n : ℕ) (t : Transfer) : Type 0 where
  pub found : find (has_number n) k.transfers ≡ Some t
  pub dev : t.dev ≡ d
  pub inward : t.dir ≡ Inward
  pub unbuffered : t.buffer ≡ None

pub numbered : (k : Kernel) (d n : ℕ) (t : Transfer) → IsInputOf k d n t → number_of t ≡ n
numbered k d n t h = eqb-true (number_of t) n (find_has (has_number n) k.transfers t h.found).1

-- the receiver of each device is the same input as before, but for its own
receivers_elsewhere : (k : Kernel) (b : Bytes) (d n : ℕ) (w : Work) (t : Transfer) → IsInputOf k d n t → seen_device b.seen.kept_bytes b.rests b.sents k.pools (receiver (worked (has_number n) w k.transfers)) d (entry k.devices d) ≡ seen_device b.seen.kept_bytes b.rests b.sents k.pools (receiver k.transfers) d (entry k.devices d)
    → (j : ℕ) → seen_device b.seen.kept_bytes b.rests b.sents k.pools (receiver (worked (has_number n) w k.transfers)) j (entry k.devices j) ≡ seen_device b.seen.kept_bytes b.rests b.sents k.pools (receiver k.transfers) j (entry k.devices j)
receivers_elsewhere k b d n w t h here j = ⊎_elim
    (λ (e : j ≡ d). subst (λ i. seen_device b.seen.kept_bytes b.rests b.sents k.pools (receiver (worked (has_number n) w k.transfers)) i (entry k.devices i) ≡ seen_device b.seen.kept_bytes b.rests b.sents k.pools (receiver k.transfers) i (entry k.devices i)) (sym e) here)
    (λ (apart : j ≢ d). receiver_same b.seen.kept_bytes b.rests b.sents k.pools (receiver k.transfers) (receiver (worked (has_number n) w k.transfers)) j (entry k.devices j) (ap matched_or_skipped (receiver_elsewhere (has_number n) w t k.transfers j h.found (λ e. apart (sym e ∙ h.dev)))))
    (same_or j d)

-- a posted input receives, while its device has no datagram yet
pub moving_state : ReceiveLaws → (k : Kernel) (b : Bytes) (d n : ℕ) (t : Transfer) (v : DeviceView) → IsInputOf k d n t → t.phase ≡ Posted → entry k.devices d ≡ Some v → v.present ≡ None
    → state_of (record k { transfers = worked (has_number n) (record { phase = Moving; buffer = None; stored = t.stored; note = t.note }) k.transfers }) b ≡ change_transfer (state_of k b) n (with_phase Moving)
moving_state laws k b d n t v h posted there absent =
    let w : Work = record { phase = Moving; buffer = None; stored = t.stored; note = t.note } in
    let is : record t { dir = Inward; phase = Posted; buffer = None } ≡ t = λ i. record t { dir = sym h.inward i; phase = sym posted i; buffer = sym h.unbuffered i } in
    worked_state laws.orphans laws.transfers k b n w t (with_phase Moving) h.found (ap is_queued posted) refl
    ((λ i. seen_transfer k b (at_work w (record t { dir = h.inward i }))) ∙ seen_moving b.seen.kept_bytes k t ∙ ap (λ (u : Transfer). with_phase Moving (seen_transfer k b u)) is)
    (receivers_elsewhere k b d n w t h (absent_same b.seen.kept_bytes b.rests b.sents k.pools (receiver k.transfers) (receiver (worked (has_number n) w k.transfers)) d (entry k.devices d) v there absent))

-- the work of a receiving input of which so many bytes are stored
abbrev pub work_on : ℕ → Transfer → Work
work_on so_far t = record { phase = Moving; buffer = None; stored = min so_far t.len; note = t.note }

abbrev pub work_over : Bool → ℕ → ℕ → Transfer → Work
work_over truncated so_far len t = record { phase = Ready; buffer = None; stored = min so_far t.len; note = note_of truncated len t.len }

module _ (laws : ReceiveLaws) (k : Kernel) (d n x : ℕ) (t : Transfer) (bytes : List ℕ) (h : IsInputOf k d n t) (moving : t.phase ≡ Moving) (stored : t.stored ≡ min x t.len) (receives : receiver k.transfers d ≡ Some t) where
  abbrev w : Work
  w = work_on (x + length bytes) t

  is_receiving : receiving_with (min x t.len) t ≡ t
  is_receiving = λ i. record t { dir = sym h.inward i; phase = sym moving i; buffer = sym h.unbuffered i; stored = sym stored i }

  -- it is the receiver still
  pub receives_still : receiver (worked (has_number n) w k.transfers) d ≡ Some (at_work w t)
  receives_still = found_still (has_number n) w t (receives_from d) k.transfers h.found receives (eq-eqb t.dev d h.dev)

  pub landed_state : (b c : Bytes) → ShowsLanded k t x bytes b c → land (state_of k b) x bytes (Matched n) ≡ state_of (record k { transfers = worked (has_number n) w k.transfers }) c
  landed_state b c shows =
      let pend : pending (state_of k b) n ≡ Some (seen_transfer k b t) = find_map (is_numbered n) (seen_transfer k b) k.transfers ∙ ap (option_map (seen_transfer k b)) h.found in
      let more : is_strong_call t ≡ true → take (min (x + length bytes) t.len) (lent_bytes c.seen.kept_bytes t) ≡ take (min x t.len) (lent_bytes c.seen.kept_bytes t) ++ take (t.len - x) bytes = λ strong.
      let l : List ℕ = lent_bytes b.seen.kept_bytes t in
      subst (λ z. take (min (x + length bytes) t.len) z ≡ take (min x t.len) z ++ take (t.len - x) bytes) (sym (shows.payload strong))
      (subst (λ m. take (min (x + length bytes) m) (overlaid x bytes l) ≡ take (min x m) (overlaid x bytes l) ++ take (m - x) bytes) (shows.size strong) (stored_more x bytes l)) in
      let here : seen_transfer k c (at_work w t) ≡ after_receiving x bytes (seen_transfer k c t) = (λ i. seen_transfer k c (at_work w (record t { dir = h.inward i }))) ∙ seen_received c.seen.kept_bytes k x bytes t more ∙ ap (λ (u : Transfer). after_receiving x bytes (seen_transfer k c u)) is_receiving in
      let same : matched_or_skipped (receiver (worked (has_number n) w k.transfers) d) ≡ matched_or_skipped (receiver k.transfers d) = ap matched_or_skipped receives_still ∙ sym (ap matched_or_skipped receives) in
      let is = worked_state laws.orphans laws.transfers k c n w t (after_receiving x bytes) h.found (ap is_queued moving) refl here
      (receivers_elsewhere k c d n w t h (receiver_same c.seen.kept_bytes c.rests c.sents k.pools (receiver k.transfers) (receiver (worked (has_number n) w k.transfers)) d (entry k.devices d) same)) in
      ap (land_in (state_of k b) x bytes) pend
      ∙ ap (λ m. change_transfer (landed (state_of k b) (seen_transfer k b t) x bytes (landing (seen_transfer k b t))) m (after_receiving x bytes)) (numbered k d n t h)
      ∙ sym (ap (λ s. change_transfer s n (after_receiving x bytes)) shows.state)
      ∙ sym is

-- its datagram is over, and gone from its device
pub over_state : ReceiveLaws → (k : Kernel) (c : Bytes) (d n so_far len : ℕ) (truncated : Bool) (t : Transfer) (v : DeviceView) → IsInputOf k d n t → t.phase ≡ Moving → t.stored ≡ min so_far t.len → entry k.devices d ≡ Some v → v.present ≡ None
    → state_of (record k { transfers = worked (has_number n) (work_over truncated so_far len t) k.transfers }) c ≡ change_transfer (state_of k c) n (with_datagram truncated len)
over_state laws k c d n so_far len truncated t v h moving stored there absent =
    let w : Work = work_over truncated so_far len t in
    let is : receiving_with (min so_far t.len) t ≡ t = λ i. record t { dir = sym h.inward i; phase = sym moving i; buffer = sym h.unbuffered i; stored = sym stored i } in
    worked_state laws.orphans laws.transfers k c n w t (with_datagram truncated len) h.found (ap is_queued moving) refl
    ((λ i. seen_transfer k c (at_work w (record t { dir = h.inward i }))) ∙ seen_over c.seen.kept_bytes k (min so_far t.len) len truncated t ∙ ap (λ (u : Transfer). with_datagram truncated len (seen_transfer k c u)) is)
    (receivers_elsewhere k c d n w t h (absent_same c.seen.kept_bytes c.rests c.sents k.pools (receiver k.transfers) (receiver (worked (has_number n) w k.transfers)) d (entry k.devices d) v there absent))
