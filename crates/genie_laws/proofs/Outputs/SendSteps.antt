-- A send step stages or sends bytes of the first transfer that waits for its device.
use Rattle.std.proofs.Common.{◌≡◌, ℕ, ◌+◌, ◌-◌, ◌<◌, ◌≤◌, true, false, ◌==◌, ◌⊎◌, inl, inr, ⊎_elim, List, [], ◌∷◌, ◌++◌, length, refl, sym, ap, subst, ◌∙◌, eqb-true, true≢false, arith}
use Rattle.std.specs.Prelude.{Option, Some, None, slice_set, nat_lt, All, if◌then◌else◌}
use Rattle.std.proofs.lemmas.Bool.{cases_Bool, cond_both, cond-false, and_parts, and_cases, ltb-false, eqb-false, cases_lt}
use Rattle.std.proofs.lemmas.List.Elements.{All-head}
use Rattle.genie_base.specs.Bytes.{part}
use Rattle.genie_base.specs.Transfers.{is_strong}
use Rattle.genie_base.specs.declared.semantics.Class.{Class}
use Rattle.genie_base.specs.declared.semantics.Class.TheVariants.{Copy, Share, Move, WeakMove}
use Rattle.genie_model.specs.Sending.{sent_by, sent_of}
use Rattle.genie_model.specs.State.{State, Transfer, Device}
use Rattle.genie_model.specs.Tables.{entry}
use Rattle.genie_model.specs.Pending.{is_queued, is_outboard_at, waits_for, first_queued}
use Rattle.genie_model.specs.Sending.{named_bytes, payload_of, record_of, unsent, after_sending, change_device, next_part, with_sent, must_stage, staged_now, after_staging, stage_count, send_count, send_next}
use Rattle.genie_model.specs.Space.{Outcome}
use Rattle.genie_orderly.specs.Orderly.{Lies, IsOrderly}
use Rattle.genie_laws.specs.Integrity.{Accepted}
use Rattle.genie_model.specs.Lemmas.Lists.{find_has, entry_same}
use Rattle.genie_laws.proofs.Outputs.Ranges.{IsNamed, stands}
use Rattle.genie_model.specs.Lemmas.SendQueues.{plain, queue, begins, queue_all}
use Rattle.genie_laws.proofs.Outputs.Records.{HasBytes, Waits, AreWaiting, IsStaged, IsSentFrom, Sends}
use Rattle.genie_laws.proofs.Outputs.Turns.{Turn, still, stages, sends, ends}

plain_lies : (s : State) (t : Transfer) → Lies s t t.region → Lies s (plain t) (plain t).region
plain_lies s t h = cond_both (is_strong t.class) None t.region (Lies s (plain t)) (λ _. tt) (λ _. h)

-- the ranges of those that wait lie where they should
pub queue_lies : (d : ℕ) (s : State) → IsOrderly s → All (λ (t : Transfer). Lies s t t.region) (queue d s.transfers)
queue_lies d s o = queue_all d (λ (t : Transfer). Lies s t t.region) (plain_lies s) s.transfers o.ranges

module _ (s : State) (t : Transfer) (o : IsOrderly s) (w : Waits (plain t)) (lies : Lies s (plain t) (plain t).region) where
  weak_staged : (k : ℕ) → k ≤ t.len - t.staged → (class : Class) → t.class ≡ class → HasBytes (plain t) class → IsStaged s (plain t) k (staged_now s k t) class
  weak_staged k most Copy e has = rw e refl
  weak_staged k most Share e has =
      let within = w.staged in
      let same : staged_now s k t ≡ named_bytes s (plain t).region (t.offset + t.staged) k = rw e refl in
      rw same (stands s (plain t) (plain t).region o lies has.1 (t.offset + t.staged) k (omega arith) (omega (arith, most, within)))
  weak_staged k most Move e has = rw e refl
  weak_staged k most WeakMove e has =
      let within = w.staged in
      let same : staged_now s k t ≡ named_bytes s (plain t).region (t.offset + t.staged) k = rw e refl in
      rw same (stands s (plain t) (plain t).region o lies has.1 (t.offset + t.staged) k (omega arith) (omega (arith, most, within)))

  -- staged bytes of a device that stages, or those of now
  weak_sends : t.len ≤ t.staged ⊎ (is_outboard_at s t.device ≡ false) → length t.payload ≡ t.staged → IsNamed (plain t).region → IsSentFrom s (plain t) (if is_outboard_at s t.device then t.payload else named_bytes s (plain t).region t.offset t.len)
  weak_sends all whole named = cond_both (is_outboard_at s t.device) t.payload (named_bytes s (plain t).region t.offset t.len) (IsSentFrom s (plain t))
      (λ yes. let within = w.staged in let done : t.len ≤ t.staged = ⊎_elim (λ h. h) (λ f. absurd (true≢false (sym yes ∙ f))) all in record { whole = omega (arith, whole, done, within); each = λ j lt. inl (omega (arith, done), refl) })
      (λ _. let now = stands s (plain t) (plain t).region o lies named t.offset t.len (omega arith) (omega arith) in record { whole = now.whole; each = λ j lt. inr (now.each j lt) })

  payload_sends : t.len ≤ t.staged ⊎ (is_outboard_at s t.device ≡ false) → (class : Class) → t.class ≡ class → HasBytes (plain t) class → Sends s (plain t) (payload_of s t) class
  payload_sends all Copy e has = rw e refl
  payload_sends all Share e has =
      let same : payload_of s t ≡ (if is_outboard_at s t.device then t.payload else named_bytes s (plain t).region t.offset t.len) = rw e refl in
      rw same (weak_sends all has.0 has.1)
  payload_sends all Move e has = rw e refl
  payload_sends all WeakMove e has =
      let same : payload_of s t ≡ (if is_outboard_at s t.device then t.payload else named_bytes s (plain t).region t.offset t.len) = rw e refl in
      rw same (weak_sends all has.0 has.1)

sent_more : (bytes : List ℕ) (devices : List (Option Device)) (d : ℕ) (v : Device) → entry devices d ≡ Some v → sent_by (entry (slice_set devices d (change_device (with_sent bytes) (entry devices d))) d) ≡ sent_by (entry devices d) ++ bytes
sent_more bytes devices d v e = ap sent_by (entry_same devices d v (change_device (with_sent bytes) (entry devices d)) e) ∙ ap (λ (x : Option Device). sent_by (change_device (with_sent bytes) x)) e ∙ ap (λ (x : Option Device). sent_by x ++ bytes) (sym e)

-- nothing is accepted
abbrev pub none : List State → List Accepted
none later = []

abbrev pub TurnTo : ℕ → State → State → Type 0
TurnTo d s t = Turn d s (queue d t.transfers) (sent_of t d) none

-- the device's own step
pub send_here : (d : ℕ) (s : State) (n : ℕ) (v : Device) → IsOrderly s → AreWaiting (queue d s.transfers) → entry s.devices d ≡ Some v → (first : Option Transfer) → first_queued s d ≡ first → TurnTo d s (send_next s d n first).0
send_here d s n v o w there None e = still refl refl (λ later. refl)
send_here d s n v o w there (Some t) e =
    let here = begins d s.transfers t e in
    let waits = (subst AreWaiting here.first w).0 in
    let lies = All-head (λ (t : Transfer). Lies s t t.region) (plain t) here.rest (subst (All (λ (t : Transfer). Lies s t t.region)) here.first (queue_lies d s o)) in
    let found = (find_has (waits_for d) s.transfers t e).1 in
    let both = and_parts (is_queued t.phase) (t.device == d) found in
    cond_both (must_stage s d t) _ _ (λ (o : Outcome). TurnTo d s o.0)
    (λ _.
    let k : ℕ = stage_count n t in
    stages (plain t) here.rest k (staged_now s k t) here.first (omega arith) (weak_staged s t o waits lies k (omega arith) t.class refl waits.bytes)
    (here.stays (after_staging k (staged_now s k t)) found) refl (λ later. refl))
    (λ staged.
    let k : ℕ = send_count n t in
    let bytes = payload_of s t in
    let all : t.len ≤ t.staged ⊎ (is_outboard_at s t.device ≡ false) = ⊎_elim (λ f. inr (ap (is_outboard_at s) (eqb-true t.device d both.1) ∙ f)) (λ f. inl (ltb-false t.staged t.len f)) (and_cases (is_outboard_at s d) (nat_lt t.staged t.len) staged) in
    let is = payload_sends s t o waits lies all t.class refl waits.bytes in
    let more = sent_more (next_part s k t) s.devices d v there in
    ⊎_elim
    (λ (last : (k == unsent t) ≡ true).
    let gone : waits_for d (after_sending k t) ≡ false = rw last refl in
    let whole : k ≡ unsent t = eqb-true k (unsent t) last in
    ends (plain t) here.rest bytes here.first is (here.goes (after_sending k) gone) (more ∙ ap (λ m. sent_of s d ++ part t.moved m (record_of t bytes)) whole) (λ later. refl))
    (λ (some : (k == unsent t) ≡ false).
    let same : after_sending k t ≡ record t { moved = t.moved + k } = cond-false (k == unsent t) _ _ some in
    let on : waits_for d (after_sending k t) ≡ true = rw same found in
    let less : k < unsent t = let other = eqb-false k (unsent t) some in ⊎_elim (λ l. l) (λ l. absurd (other (omega arith))) (cases_lt k (unsent t)) in
    sends (plain t) here.rest k bytes here.first less is (here.stays (after_sending k) on ∙ ap (λ u. plain u ∷ here.rest) same) more (λ later. refl))
    (cases_Bool (k == unsent t)))
