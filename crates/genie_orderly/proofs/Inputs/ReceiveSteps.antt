-- What a receive step leaves of the transfers and of what the devices receive.
use Rattle.std.proofs.Common.{◌≡◌, ℕ, ◌+◌, ◌<◌, ◌≤◌, Bool, true, false, List, [], ◌++◌, length, get_or, find, All, AllPairs, refl, sym, ap, subst, ◌∙◌, true≢false, eqb-true, eq-eqb, leb-true, arith}
use Rattle.std.specs.Prelude.{Option, Some, None, IfSome, IsTrue, take, drop, option_and_then, ⊤, ◌==◌, ◌&&◌, nat_le, slice_index, if◌then◌else◌}
use Rattle.std.specs.Option.{option_map}
use Rattle.std.proofs.lemmas.Bool.{cond_both, and_parts, and_from, not_from_false}
use Rattle.std.proofs.lemmas.Bool.Decides.{nat_tests}
use Rattle.std.proofs.Math.Nat.{min-le_right}
use Rattle.std.proofs.lemmas.List.{length-take}
use Rattle.genie_base.specs.declared.semantics.Direction.{Direction}
use Rattle.genie_base.specs.declared.semantics.Direction.TheVariants.{Outward, Inward}
use Rattle.genie_base.specs.Configs.{most}
use Rattle.genie_base.specs.Headers.{header_taken, is_whole_header, is_valid_header, is_format, port_in, len_in, flow_in}
use Rattle.genie_base.specs.Posted.{meets, meets_flow}
use Rattle.genie_model.specs.declared.fate.Fate.{Fate}
use Rattle.genie_model.specs.declared.fate.Fate.TheVariants.{Matched, Skipped, Gathering}
use Rattle.genie_model.specs.declared.phase.Phase.TheVariants.{Moving, Ready}
use Rattle.genie_orderly.specs.Orderly.{IsInput, GoesToInput, IsUnderWay, ReceivesForInput, has_phase, IsTransfer, WaitsBehind, matched_to, receives_for, MovingAreReceived, ReceivedAreMoving, SuitsDevice, on_its_way, KeepsDepth, IsOrderly}
use Rattle.genie_model.specs.State.{State, Transfer, Device, Datagram}
use Rattle.genie_model.specs.Tables.{entry}
use Rattle.genie_model.specs.Pending.{is_early, is_inward, is_posted, is_queued, is_moving, is_ready, is_numbered, posted_for, awaits, pending, first_posted, has_arrived, arrived}
use Rattle.genie_model.specs.Space.{Outcome}
use Rattle.genie_model.specs.Sending.{change_device}
use Rattle.genie_model.specs.Receiving.{receiving, set_device, is_between_records, is_busy, with_phase, with_datagram, gathered, after_receiving, change_transfer, deliver, complete, landing, landed, land_in, land, after_bytes, go_on, take_payload, datagram, skipped, match_header, begin_datagram, read_header, take_header, receive_record, receive, recv}
use Rattle.genie_model.specs.Lemmas.ReceiveSteps.{choice}
use Rattle.genie_model.specs.Lemmas.Lists.{entry_set, has_at, all_has, find_has, entry_same}
use Rattle.genie_model.specs.Lemmas.SendQueues.{same_number}
use Rattle.genie_model.specs.Lemmas.PendingCalls.{KeepsCall, change_remain, remain_order}
use Rattle.genie_orderly.specs.Lemmas.ChangedTransfers.{all_numbered}
use Rattle.genie_orderly.proofs.Transfers.Changes.{pairs_change}
use Rattle.genie_orderly.proofs.Transfers.Counts.{count_changed, count_less}
use Rattle.genie_base.specs.declared.reply.Reply.TheVariants as reply

-- what is known of a transfer later in the step that began in state s
pub record IsKnown (s : State) (t : Transfer) : Type 0 where
  pub posted : is_posted t.phase ≡ true → IsInput s t.device t.number
  pub input : (d : ℕ) → IsInput s d t.number → (is_inward t.direction ≡ true) × (t.device ≡ d)
  pub call : IsTransfer t

-- the number of the input for which device e receives, where device d is said to receive for `aim`
abbrev aimed : State → ℕ → Option ℕ → ℕ → Option ℕ
aimed s d aim e = if e == d then aim else receives_for (entry s.devices e)

-- it is receiving just where its device receives for it
record Aims (s : State) (d : ℕ) (aim : Option ℕ) (u : Transfer) : Type 0 where
  received : is_moving u.phase ≡ true → aimed s d aim u.device ≡ Some u.number
  moving : aimed s d aim u.device ≡ Some u.number → is_moving u.phase ≡ true

-- what a device has under way goes to an input of state s, and suits it
record Fits (s : State) (e : ℕ) (v : Option Device) : Type 0 where
  goes : ReceivesForInput s e v
  suits : IfSome v (λ (w : Device). IfSome w.present (SuitsDevice s.config.page w))
  depth : KeepsDepth (arrived s e) v

-- what a step of device d has made of state s so far: it receives for `aim`, and `more` inputs have become ready
record Received (s : State) (d : ℕ) (aim : Option ℕ) (more : ℕ) (t : State) : Type 0 where
  config : t.config ≡ s.config
  next : t.next ≡ s.next
  transfers : All (IsKnown s) t.transfers
  order : AllPairs (λ (u w : Transfer). u.number < w.number) t.transfers
  queues : AllPairs WaitsBehind t.transfers
  moving : All (Aims s d aim) t.transfers
  arrived : (e : ℕ) → arrived t e ≤ arrived s e + (if e == d then more else 0)
  devices : (e : ℕ) → Fits s e (entry t.devices e)
  others : (e : ℕ) → (e == d) ≡ false → receives_for (entry t.devices e) ≡ receives_for (entry s.devices e)
  there : (v : Device) × (entry t.devices d ≡ Some v)

-- what the whole step leaves
pub record Ends (s t : State) : Type 0 where
  pub config : t.config ≡ s.config
  pub next : t.next ≡ s.next
  pub transfers : All (IsKnown s) t.transfers
  pub queues : AllPairs WaitsBehind t.transfers
  pub moving : MovingAreReceived t
  pub received : ReceivedAreMoving t
  pub goes : (e : ℕ) → ReceivesForInput s e (entry t.devices e)
  pub suits : (e : ℕ) → IfSome (entry t.devices e) (λ (w : Device). IfSome w.present (SuitsDevice s.config.page w))
  pub depths : (e : ℕ) → KeepsDepth (arrived t e) (entry t.devices e)

known : (s : State) → IsOrderly s → All (IsKnown s) s.transfers
known s o = λ i e lt.
    let t = get_or s.transfers i e in
    let there = has_at s.transfers i e lt in
    record {
      posted = λ p. (o.transfers.below i e lt, λ j c within same. subst (λ (u : Transfer). (is_inward u.direction ≡ true) × (u.device ≡ t.device)) (same_number s.transfers o.transfers.order t (get_or s.transfers j c) there (has_at s.transfers j c within) (sym same)) (o.posted i e lt p, refl));
      input = λ d is. is.1 i e lt refl;
      call = o.calls i e lt;
    }

-- a change of what has become of an input: it isn't posted anew
record IsMild (f : Transfer → Transfer) : Type 0 where
  like : (t : Transfer) → f t ≡ record t { phase = (f t).phase; payload = (f t).payload; stored = (f t).stored; note = (f t).note }
  call : KeepsCall f
  posted : (t : Transfer) → is_posted (f t).phase ≡ true → is_posted t.phase ≡ true
  queued : (t : Transfer) → is_queued (f t).phase ≡ true → is_queued t.phase ≡ true
  fits : (t : Transfer) → is_inward t.direction ≡ true → IsTransfer t → IsTransfer (f t)

known_mild : (s : State) (f : Transfer → Transfer) → IsMild f → (t : Transfer) → is_inward t.direction ≡ true → IsKnown s t → IsKnown s (f t)
known_mild s f m t inward h = record {
  posted = λ e. subst (λ (u : Transfer). IsInput s u.device u.number) (sym (m.like t)) (h.posted (m.posted t e));
  input = λ e is. subst (λ (u : Transfer). (is_inward u.direction ≡ true) × (u.device ≡ e)) (sym (m.like t)) (h.input e (subst (λ (u : Transfer). IsInput s e u.number) (m.like t) is));
  call = m.fits t inward h.call;
}

-- the first transfer that passes a test, where only posted ones of device d do
first_is_input : (s : State) (d : ℕ) (test : Transfer → Bool) (ts : List Transfer) (k : ℕ) → ((t : Transfer) → test t ≡ true → (is_posted t.phase ≡ true) × (t.device ≡ d)) → All (IsKnown s) ts → (found : Option Transfer) → find test ts ≡ found → option_map (λ (t : Transfer). t.number) found ≡ Some k → IsInput s d k
first_is_input s d test ts k posted known None is e = absurd (cc)
first_is_input s d test ts k posted known (Some t) is e =
    let has = find_has test ts t is in
    let number : t.number ≡ k = cc in
    let p = posted t has.1 in
    subst (IsInput s d) number (subst (λ n. IsInput s n t.number) p.1 ((all_has (IsKnown s) ts known t has.0).posted p.0))

awaits_here : (d port : ℕ) (flow : Option ℕ) (u : Transfer) → awaits d port flow u ≡ true → (is_posted u.phase ≡ true) × (u.device ≡ d)
awaits_here d port flow u e =
    let parts = and_parts (is_posted u.phase) (meets d port flow (posted_for u)) e in
    (parts.0, eqb-true u.device d (and_parts (u.device == d) (u.port == port) (and_parts ((u.device == d) && (u.port == port)) (meets_flow u.flow flow) parts.1).0).0)

posted_is_input : (s : State) (d port : ℕ) (flow : Option ℕ) (t : State) (k : ℕ) → All (IsKnown s) t.transfers → first_posted t d port flow ≡ Some k → IsInput s d k
posted_is_input s d port flow t k h e = first_is_input s d (awaits d port flow) t.transfers k (awaits_here d port flow) h (find (awaits d port flow) t.transfers) refl e

few_on_way : (v : Device) → on_its_way v ≤ 1
few_on_way v = cond_both (is_between_records v) 0 1 (λ n. n ≤ 1) (λ _. omega arith) (λ _. omega arith)

none_on_way : (v : Device) → v.header ≡ [] → v.present ≡ None → on_its_way v ≡ 0
none_on_way v header present = rw (header, present) refl

adds_up : (b : Bool) (x y z more less : ℕ) → y ≤ x + (if b then more else 0) → z ≤ y + (if b then less else 0) → z ≤ x + (if b then more + less else 0)
adds_up true x y z more less a b = omega (arith, a, b)
adds_up false x y z more less a b = omega (arith, a, b)

adds_none : (b : Bool) (x y : ℕ) → y ≤ x → y ≤ x + (if b then 0 else 0)
adds_none true x y a = omega (arith, a)
adds_none false x y a = omega (arith, a)

adds_some : (b : Bool) (x y more : ℕ) → y ≤ x + (if b then more else 0) → y ≤ x + more
adds_some true x y more a = a
adds_some false x y more a = omega (arith, a)

pub less_depth : (m n : ℕ) (v : Option Device) → m ≤ n → KeepsDepth n v → KeepsDepth m v
less_depth m n None less h = tt
less_depth m n (Some v) less h = λ early. let fits = h early in omega (arith, less, fits)

-- where a device is said to receive for an input, or for none
module _ (s : State) (d k : ℕ) where
  no_aim : (e n : ℕ) (b : Bool) → (e == d) ≡ b → (n == k) ≡ false → aimed s d (Some k) e ≡ Some n → aimed s d None e ≡ Some n
  no_aim e n true y other h =
      let same : Some k ≡ Some n = sym (rw y refl) ∙ h in
      absurd (true≢false (sym (eq-eqb n k (cc)) ∙ other))
  no_aim e n false beside other h = rw beside (rw beside at h)

  an_aim : (e n : ℕ) (b : Bool) → (e == d) ≡ b → aimed s d None e ≡ Some n → aimed s d (Some k) e ≡ Some n
  an_aim e n true y h = let none : None ≡ Some n = sym (rw y refl) ∙ h in absurd (cc)
  an_aim e n false beside h = rw beside (rw beside at h)

-- an input is changed, and those that are ready are as many or one more
module _ (s : State) (d : ℕ) where
  none_aimed : (e n : ℕ) → e ≡ d → aimed s d None e ≡ Some n → ⊥
  none_aimed e n at h = let here = eq-eqb e d at in let none : None ≡ Some n = sym (rw here refl) ∙ h in cc

  inward : (k : ℕ) → IsInput s d k → (u : Transfer) → (u.number == k) ≡ true → IsKnown s u → (is_inward u.direction ≡ true) × (u.device ≡ d)
  inward k is u e h = h.input d (subst (IsInput s d) (sym (eqb-true u.number k e)) is)

  changed_so : (t : State) (k : ℕ) (f : Transfer → Transfer) (aim new : Option ℕ) (more less : ℕ) → IsMild f → IsInput s d k
      → ((u : Transfer) → (u.number == k) ≡ true → u.device ≡ d → Aims s d aim u → Aims s d new (f u)) → ((u : Transfer) → (u.number == k) ≡ false → Aims s d aim u → Aims s d new u)
      → ((e : ℕ) → arrived (change_transfer t k f) e ≤ arrived t e + (if e == d then less else 0)) → Received s d aim more t → Received s d new (more + less) (change_transfer t k f)
  changed_so t k f aim new more less m is here beside count r = record {
    config = r.config;
    next = r.next;
    transfers = all_numbered k f (IsKnown s) (IsKnown s) (λ u e h. known_mild s f m u (inward k is u e h).0 h) (λ u e h. h) t.transfers r.order r.transfers;
    order = remain_order (change_remain (is_numbered k) f m.call t.transfers) r.order;
    queues = pairs_change WaitsBehind (is_numbered k) f
        (λ u w h p q same. h (m.queued u p) q (ap (λ (x : Transfer). x.device) (sym (m.like u)) ∙ same))
        (λ u w h p q same. let both = h p (m.queued w q) (same ∙ ap (λ (x : Transfer). x.device) (m.like w)) in (ap (λ (x : Transfer). x.staged) (m.like w) ∙ both.0, ap (λ (x : Transfer). x.moved) (m.like w) ∙ both.1))
        t.transfers r.queues;
    moving = all_numbered k f (λ u. IsKnown s u × Aims s d aim u) (Aims s d new) (λ u e h. here u e (inward k is u e h.0).1 h.1) (λ u e h. beside u e h.1) t.transfers r.order (λ i c lt. (r.transfers i c lt, r.moving i c lt));
    arrived = λ e. adds_up (e == d) (arrived s e) (arrived t e) (arrived (change_transfer t k f) e) more less (r.arrived e) (count e);
    devices = r.devices;
    others = r.others;
    there = r.there;
  }

  -- the input isn't ready by it
  turned_so : (t : State) (k : ℕ) (f : Transfer → Transfer) (aim new : Option ℕ) (more : ℕ) → IsMild f → IsInput s d k → ((u : Transfer) → is_ready (f u).phase ≡ true → is_ready u.phase ≡ true)
      → ((u : Transfer) → (u.number == k) ≡ true → u.device ≡ d → Aims s d aim u → Aims s d new (f u)) → ((u : Transfer) → (u.number == k) ≡ false → Aims s d aim u → Aims s d new u)
      → Received s d aim more t → Received s d new (more + 0) (change_transfer t k f)
  turned_so t k f aim new more m is same here beside r = changed_so t k f aim new more 0 m is here beside
      (λ e. adds_none (e == d) (arrived t e) (arrived (change_transfer t k f) e) (count_less (λ (u : Transfer). ⊤) (has_arrived e) (is_numbered k) f (λ u any _ now. still e u now) t.transfers (λ i c lt. tt))) r
    where
      still : (e : ℕ) (u : Transfer) → has_arrived e (f u) ≡ true → has_arrived e u ≡ true
      still e u now =
          let moved : has_arrived e (record u { phase = (f u).phase }) ≡ true = ap (has_arrived e) (sym (m.like u)) ∙ now in
          let first = and_parts (is_inward u.direction && is_ready (f u).phase) (u.device == e) moved in
          let both = and_parts (is_inward u.direction) (is_ready (f u).phase) first.0 in
          and_from (is_inward u.direction && is_ready u.phase) (u.device == e) (and_from (is_inward u.direction) (is_ready u.phase) both.0 (same u both.1)) first.1

  -- it is
  ended_so : (t : State) (k : ℕ) (f : Transfer → Transfer) (aim : Option ℕ) (more : ℕ) → IsMild f → IsInput s d k → ((u : Transfer) → is_moving (f u).phase ≡ false)
      → ((u : Transfer) → (u.number == k) ≡ false → Aims s d aim u → Aims s d None u) → Received s d aim more t → Received s d None (more + 1) (change_transfer t k f)
  ended_so t k f aim more m is still beside r = changed_so t k f aim None more 1 m is (λ u e at h. record { received = λ moving. absurd (true≢false (sym moving ∙ still u)); moving = λ same. absurd (none_aimed (f u).device (f u).number (ap (λ (x : Transfer). x.device) (m.like u) ∙ at) same) }) beside (λ e. count e (e == d) refl) r
    where
      count : (e : ℕ) (b : Bool) → (e == d) ≡ b → arrived (change_transfer t k f) e ≤ arrived t e + (if b then 1 else 0)
      count e true y = count_changed (has_arrived e) (is_numbered k) f t.transfers
      count e false n =
          let less = count_less (IsKnown s) (has_arrived e) (is_numbered k) f (λ u h now arrives.
          let place = eqb-true (f u).device e (and_parts (is_inward (f u).direction && is_ready (f u).phase) ((f u).device == e) arrives).1 in
          let at : e ≡ d = sym place ∙ ap (λ (x : Transfer). x.device) (m.like u) ∙ (inward k is u now h).1 in
          absurd (true≢false (sym (eq-eqb e d at) ∙ n))) t.transfers r.transfers in
          omega (arith, less)

  -- the device has received on
  set_at : (t : State) (v old : Device) → entry t.devices d ≡ Some old → entry (set_device t d v).devices d ≡ Some (receiving v old)
  set_at t v old e = entry_same t.devices d old (change_device (receiving v) (entry t.devices d)) e ∙ ap (change_device (receiving v)) e

  same_suits : (v old : Device) (o : Option Datagram) → IfSome o (SuitsDevice s.config.page v) → IfSome o (SuitsDevice s.config.page (receiving v old))
  same_suits v old None h = tt
  same_suits v old (Some g) h = record { header = h.header; short = h.short; fate = h.fate }

  device_so : (t : State) (v : Device) (aim : Option ℕ) (more : ℕ) → IfSome v.present (IsUnderWay s d) → IfSome v.present (SuitsDevice s.config.page v) → KeepsDepth (arrived s d) (Some v) → Received s d aim more t → Received s d aim more (set_device t d v)
  device_so t v aim more goes suits depth r =
      let old : Device = r.there.0 in
      let at = set_at t v old r.there.1 in
      let fits : Fits s d (Some (receiving v old)) = record { goes = goes; suits = same_suits v old v.present suits; depth = depth } in
      record {
        config = r.config;
        next = r.next;
        transfers = r.transfers;
        order = r.order;
        queues = r.queues;
        moving = r.moving;
        arrived = r.arrived;
        devices = λ e. entry_set (Fits s e) t.devices d e (change_device (receiving v) (entry t.devices d)) (r.devices e) (λ same. subst (λ i. Fits s i (change_device (receiving v) (entry t.devices d))) (sym same) (subst (λ (x : Option Device). Fits s d (change_device (receiving v) x)) (sym r.there.1) fits));
        others = λ e n. entry_set (λ x. receives_for x ≡ receives_for (entry s.devices e)) t.devices d e (change_device (receiving v) (entry t.devices d)) (r.others e n) (λ same. absurd (true≢false (sym (eq-eqb e d same) ∙ n)));
        there = (receiving v old, at);
      }

  -- what the step then leaves
  settle : (t : State) (aim : Option ℕ) (more : ℕ) → Received s d aim more t → receives_for (entry t.devices d) ≡ aim → KeepsDepth (arrived t d) (entry t.devices d) → Ends s t
  settle t aim more r at depth = record {
    config = r.config;
    next = r.next;
    transfers = r.transfers;
    queues = r.queues;
    moving = λ i c lt m. let u = get_or t.transfers i c in aims u.device (u.device == d) refl ∙ (r.moving i c lt).received m;
    received = λ i c lt e. let u = get_or t.transfers i c in (r.moving i c lt).moving (sym (aims u.device (u.device == d) refl) ∙ e);
    goes = λ e. (r.devices e).goes;
    suits = λ e. (r.devices e).suits;
    depths = λ e. keeps e (e == d) refl;
  }
    where
      aims : (e : ℕ) (b : Bool) → (e == d) ≡ b → receives_for (entry t.devices e) ≡ (if e == d then aim else receives_for (entry s.devices e))
      aims e true y = rw y (ap (λ i. receives_for (entry t.devices i)) (eqb-true e d y) ∙ at)
      aims e false n = rw n (r.others e n)

      keeps : (e : ℕ) (b : Bool) → (e == d) ≡ b → KeepsDepth (arrived t e) (entry t.devices e)
      keeps e true y = subst (λ i. KeepsDepth (arrived t i) (entry t.devices i)) (sym (eqb-true e d y)) depth
      keeps e false n = let a : arrived t e ≤ arrived s e = beside (r.arrived e) in less_depth (arrived t e) (arrived s e) (entry t.devices e) a (r.devices e).depth
        where
          beside : arrived t e ≤ arrived s e + (if e == d then more else 0) → arrived t e ≤ arrived s e
          beside a = let b : arrived t e ≤ arrived s e + 0 = rw n at a in omega (arith, b)

-- the changes that a receive step makes of an input
moves : IsMild (with_phase Moving)
moves = record { like = λ t. refl; call = λ t. refl; posted = λ t e. absurd (true≢false (sym e)); queued = λ t e. absurd (true≢false (sym e)); fits = λ t i h. record { phase = inward_moves t.direction i; placed = h.placed; stored = h.stored } }
  where
    inward_moves : (direction : Direction) → is_inward direction ≡ true → IsTrue (has_phase direction Moving)
    inward_moves Outward e = absurd (true≢false (sym e))
    inward_moves Inward e = refl

pub any_ready : (direction : Direction) → IsTrue (has_phase direction Ready)
any_ready Outward = refl
any_ready Inward = refl

receives : (x : ℕ) (new : List ℕ) → IsMild (after_receiving x new)
receives x new = record { like = λ t. refl; call = λ t. refl; posted = λ t e. e; queued = λ t e. e; fits = λ t i h. record { phase = h.phase; placed = h.placed; stored = min-le_right (x + length new) t.len } }

ends_with : (truncated : Bool) (len : ℕ) → IsMild (with_datagram truncated len)
ends_with truncated len = record { like = λ t. refl; call = λ t. refl; posted = λ t e. absurd (true≢false (sym e)); queued = λ t e. absurd (true≢false (sym e)); fits = λ t i h. record { phase = any_ready t.direction; placed = h.placed; stored = h.stored } }

gathers : (truncated : Bool) (len : ℕ) (bytes : List ℕ) → IsMild (gathered truncated len bytes)
gathers truncated len bytes = record { like = λ t. refl; call = λ t. refl; posted = λ t e. absurd (true≢false (sym e)); queued = λ t e. absurd (true≢false (sym e)); fits = λ t i h. record { phase = any_ready t.direction; placed = h.placed; stored = omega (arith, length-take t.len bytes) } }

-- room for one datagram more
abbrev Room : State → ℕ → Device → Type 0
Room s d v = is_early v.kind ≡ false → arrived s d + 1 ≤ v.depth

way_fits : (s : State) (d : ℕ) (v : Device) → Room s d v → KeepsDepth (arrived s d) (Some v)
way_fits s d v room = λ early. let fits = room early in omega (arith, fits, few_on_way v)

module _ (s : State) (d : ℕ) (o : IsOrderly s) where
  begun : (aim : Option ℕ) → (v : Device) → entry s.devices d ≡ Some v → receives_for (Some v) ≡ aim → Received s d aim 0 s
  begun aim v is at = record {
    config = refl;
    next = refl;
    transfers = known s o;
    order = o.transfers.order;
    queues = o.queues;
    moving = λ i c lt. let u = get_or s.transfers i c in let at = same u.device (u.device == d) refl in record { received = λ m. at ∙ o.moving i c lt m; moving = λ e. o.received i c lt (sym at ∙ e) };
    arrived = λ e. adds_none (e == d) (arrived s e) (arrived s e) (omega arith);
    devices = λ e. record { goes = o.matched e; suits = o.datagrams e; depth = o.depths e };
    others = λ e n. refl;
    there = (v, is);
  }
    where
      same : (e : ℕ) (b : Bool) → (e == d) ≡ b → (if e == d then aim else receives_for (entry s.devices e)) ≡ receives_for (entry s.devices e)
      same e true y = rw y (sym at ∙ ap receives_for (sym is) ∙ ap (λ i. receives_for (entry s.devices i)) (sym (eqb-true e d y)))
      same e false n = rw n refl

  -- nothing but the device changes
  device_ends : (v old : Device) → entry s.devices d ≡ Some old → receives_for (Some v) ≡ receives_for (Some old) → IfSome v.present (IsUnderWay s d) → IfSome v.present (SuitsDevice s.config.page v) → Room s d v → Ends s (set_device s d v)
  device_ends v old is same goes suits room =
      let r = begun (receives_for (Some v)) old is (sym same) in
      let after = device_so s d s v (receives_for (Some v)) 0 goes suits (way_fits s d v room) r in
      let at = set_at s d s v old is in
      settle s d (set_device s d v) (receives_for (Some v)) 0 after (ap receives_for at) (subst (KeepsDepth (arrived s d)) (sym at) (way_fits s d v room))

  same_ends : Ends s s
  same_ends = record { config = refl; next = refl; transfers = known s o; queues = o.queues; moving = o.moving; received = o.received; goes = o.matched; suits = o.datagrams; depths = o.depths }

  landed_so : (t : State) (u : Transfer) (x : ℕ) (new : List ℕ) (region aim : Option ℕ) → Received s d aim 0 t → Received s d aim 0 (landed t u x new region)
  landed_so t u x new None aim r = r
  landed_so t u x new (Some k) aim r = record { config = r.config; next = r.next; transfers = r.transfers; order = r.order; queues = r.queues; moving = r.moving; arrived = r.arrived; devices = r.devices; others = r.others; there = r.there }

  land_in_so : (t : State) (x : ℕ) (new : List ℕ) (found : Option Transfer) (aim : Option ℕ) → ((u : Transfer) → found ≡ Some u → IsInput s d u.number) → Received s d aim 0 t → Received s d aim 0 (land_in t x new found)
  land_in_so t x new None aim is r = r
  land_in_so t x new (Some u) aim is r = turned_so s d (landed t u x new (landing u)) u.number (after_receiving x new) aim aim 0 (receives x new) (is u refl) (λ w e. e) (λ w e _ h. record { received = h.received; moving = h.moving }) (λ w e h. h) (landed_so t u x new (landing u) aim r)

  land_so : (t : State) (x : ℕ) (new : List ℕ) (fate : Fate) (aim : Option ℕ) → GoesToInput s d fate → Received s d aim 0 t → Received s d aim 0 (land t x new fate)
  land_so t x new Skipped aim goes r = r
  land_so t x new Gathering aim goes r = r
  land_so t x new (Matched k) aim goes r = land_in_so t x new (pending t k) aim (λ u e. subst (IsInput s d) (sym (eqb-true u.number k (find_has (is_numbered k) t.transfers u e).1)) goes) r

  -- the datagram is over, and its input ready
  deliver_ends : (t : State) (g : Datagram) (truncated : Bool) (k : ℕ) (found : Option ℕ) → ((u : ℕ) → found ≡ Some u → IsInput s d u) → Received s d None 0 t → receives_for (entry t.devices d) ≡ None → ((n : ℕ) → n ≤ arrived s d + 1 → KeepsDepth n (entry t.devices d)) → Ends s (deliver t g truncated k found).0
  deliver_ends t g truncated k None is r at depth = settle s d t None 0 r at (depth (arrived t d) (let a = adds_some (d == d) (arrived s d) (arrived t d) 0 (r.arrived d) in omega (arith, a)))
  deliver_ends t g truncated k (Some u) is r at depth =
      let f : Transfer → Transfer = gathered truncated g.len g.bytes in
      let after = ended_so s d t u f None 0 (gathers truncated g.len g.bytes) (is u refl) (λ w. refl) (λ w e h. h) r in
      settle s d (change_transfer t u f) None 1 after at (depth _ (adds_some (d == d) (arrived s d) (arrived (change_transfer t u f) d) 1 (after.arrived d)))

  complete_ends : (t : State) (g : Datagram) (truncated : Bool) (k : ℕ) (fate : Fate) → GoesToInput s d fate → Received s d (matched_to fate) 0 t → receives_for (entry t.devices d) ≡ None → ((n : ℕ) → n ≤ arrived s d + 1 → KeepsDepth n (entry t.devices d)) → Ends s (complete t d g truncated k fate).0
  complete_ends t g truncated k Skipped goes r at depth = settle s d t None 0 r at (depth (arrived t d) (let a = adds_some (d == d) (arrived s d) (arrived t d) 0 (r.arrived d) in omega (arith, a)))
  complete_ends t g truncated k (Matched u) goes r at depth =
      let f : Transfer → Transfer = with_datagram truncated g.len in
      let after = ended_so s d t u f (Some u) 0 (ends_with truncated g.len) goes (λ w. refl) (λ w other h. record { received = λ m. no_aim s d u w.device w.number (w.device == d) refl other (h.received m); moving = λ same. h.moving (an_aim s d u w.device w.number (w.device == d) refl same) }) r in
      settle s d (change_transfer t u f) None 1 after at (depth _ (adds_some (d == d) (arrived s d) (arrived (change_transfer t u f) d) 1 (after.arrived d)))
  complete_ends t g truncated k Gathering goes r at depth = deliver_ends t g truncated k (first_posted t d g.port g.flow) (λ u e. posted_is_input s d g.port g.flow t u r.transfers e) r at depth

  go_on_ends : (t : State) (v : Device) (g : Datagram) (k : ℕ) → g.moved ≤ g.len → GoesToInput s d g.fate → SuitsDevice s.config.page v g → Room s d v → Received s d (matched_to g.fate) 0 t → Ends s (go_on t d v g k).0
  go_on_ends t v g k most goes suits room r =
      let over : Device = record v { present = None } in
      let now : Device = record v { present = Some g } in
      let aim : Option ℕ = matched_to g.fate in
      let old : Device = r.there.0 in
      let ended = device_so s d t over aim 0 tt tt (way_fits s d over room) r in
      let at_end = set_at s d t over old r.there.1 in
      let depth : (n : ℕ) → n ≤ arrived s d + 1 → KeepsDepth n (entry (set_device t d over).devices d) = λ n few. subst (KeepsDepth n) (sym at_end) (λ early. let fits = room early in omega (arith, few, fits, none_on_way over suits.header refl)) in
      let completes = λ (truncated : Bool) (m : ℕ). complete_ends (set_device t d over) g truncated m g.fate goes ended (ap receives_for at_end) depth in
      choice (Ends s) (k == 0) _ _ (completes true 0)
      (cond_both (g.moved == g.len) (complete (set_device t d over) d g false k g.fate) (set_device t d now, reply.Got k) (λ u. Ends s u.0)
      (λ _. completes false k)
      (λ less.
      let at = set_at s d t now old r.there.1 in
      let under : IsUnderWay s d g = record { left = grind (arith, nat_tests, less, most); input = goes } in
      let after = device_so s d t now aim 0 under (record { header = suits.header; short = suits.short; fate = suits.fate }) (way_fits s d now room) r in
      let few = adds_some (d == d) (arrived s d) (arrived t d) 0 (r.arrived d) in
      settle s d (set_device t d now) aim 0 after (ap receives_for at) (less_depth (arrived t d) (arrived s d) _ (omega (arith, few)) (subst (KeepsDepth (arrived s d)) (sym at) (way_fits s d now room)))))

  payload_ends : (t : State) (v : Device) (g : Datagram) (h b : ℕ) → g.moved + b ≤ g.len → GoesToInput s d g.fate → SuitsDevice s.config.page v g → Room s d v → Received s d (matched_to g.fate) 0 t → Ends s (take_payload t d v g h b).0
  payload_ends t v g h b fit goes suits room r =
      let few = length-take b v.rest in
      go_on_ends (land t g.moved (take b v.rest) g.fate) (record v { rest = drop b v.rest }) (after_bytes (take b v.rest) g) (h + b) (omega (arith, few, fit)) goes (record { header = suits.header; short = suits.short; fate = suits.fate }) room (land_so t g.moved (take b v.rest) g.fate (matched_to g.fate) goes r)

  -- a record begins
  module _ (old : Device) (is : entry s.devices d ≡ Some old) (none : old.present ≡ None) where
    aims_none : receives_for (Some old) ≡ None
    aims_none = ap (λ (x : Option Datagram). option_and_then (λ (g : Datagram). matched_to g.fate) x) none

    match_ends : (left : ℕ) (v : Device) (header : List ℕ) (h : ℕ) (k : Option ℕ) → ((i : ℕ) → k ≡ Some i → IsInput s d i) → v.header ≡ [] → len_in header ≤ most v.kind s.config.page → is_early v.kind ≡ true → Room s d v → Ends s (match_header s d left v header h k).0
    match_ends left v header h None is_input empty short early room =
        let next : Device = record v { present = skipped header } in
        let g : Datagram = datagram header Skipped in
        cond_both (len_in header == 0) None (Some g) (λ x. Ends s (set_device s d (record v { present = x })))
        (λ _. device_ends (record v { present = None }) old is (sym aims_none) tt tt room)
        (λ some. device_ends (record v { present = Some g }) old is (sym aims_none) (record { left = grind (arith, nat_tests, some); input = tt }) (record { header = empty; short = short; fate = early }) room)
    match_ends left v header h (Some k) is_input empty short early room =
        let here = is_input k refl in
        let r = turned_so s d s k (with_phase Moving) None (Some k) 0 moves here (λ u e. absurd (true≢false (sym e))) (λ u same device h. record { received = λ m. rw (eq-eqb u.device d device) (ap Some (sym (eqb-true u.number k same))); moving = λ _. refl })
        (λ u other h. record { received = λ m. an_aim s d k u.device u.number (u.device == d) refl (h.received m); moving = λ same. h.moving (no_aim s d k u.device u.number (u.device == d) refl other same) }) (begun None old is aims_none) in
        payload_ends (change_transfer s k (with_phase Moving)) v (datagram header (Matched k)) h _ (omega arith) here (record { header = empty; short = short; fate = early }) room r

    begin_ends : (left : ℕ) (v : Device) (header : List ℕ) (h : ℕ) → v.header ≡ [] → len_in header ≤ most v.kind s.config.page → Room s d v → Ends s (begin_datagram s d left v header h).0
    begin_ends left v header h empty short room = cond_both (is_early v.kind) _ _ (λ (x : Outcome). Ends s x.0)
        (λ early. match_ends left v header h (first_posted s d (port_in header) (flow_in header)) (λ k e. posted_is_input s d (port_in header) (flow_in header) s k (known s o) e) empty short early room)
        (λ late. payload_ends s v (datagram header Gathering) h _ (omega arith) tt (record { header = empty; short = short; fate = not_from_false (is_early v.kind) late }) room (begun None old is aims_none))

    read_ends : (left : ℕ) (v : Device) (header : List ℕ) (h : ℕ) → receives_for (Some v) ≡ receives_for (Some old) → v.present ≡ None → Room s d v → Ends s (read_header s d left v header h).0
    read_ends left v header h same empty room = cond_both (is_valid_header (most v.kind s.config.page) header) _ _ (λ (x : Outcome). Ends s x.0)
        (λ valid. begin_ends left (record v { header = [] }) header h refl (leb-true (len_in header) (most v.kind s.config.page) (and_parts (is_format (slice_index header 0) (slice_index header 1)) (nat_le (len_in header) (most v.kind s.config.page)) valid).1) room)
        (λ _. device_ends (record v { header = []; is_bad = true }) old is same (rw empty tt) (rw empty tt) room)

    take_ends : (n : ℕ) (v : Device) → receives_for (Some v) ≡ receives_for (Some old) → v.present ≡ None → Room s d v → Ends s (take_header s d n v (header_taken n v.header v.rest)).0
    take_ends n v same empty room =
        let h : ℕ = header_taken n v.header v.rest in
        let header : List ℕ = v.header ++ take h v.rest in
        let after : Device = record v { rest = drop h v.rest; header = header } in
        choice (Ends s) (is_whole_header header) _ _ (read_ends _ after header h same empty room) (device_ends after old is same (rw empty tt) (rw empty tt) room)

  record_ends : (n : ℕ) (v : Device) → entry s.devices d ≡ Some v → Room s d v → (present : Option Datagram) → v.present ≡ present → IfSome present (IsUnderWay s d) → IfSome present (SuitsDevice s.config.page v) → Ends s (receive_record s d n v present).0
  record_ends n v is room None e under suits = take_ends v is e n v refl e room
  record_ends n v is room (Some g) e under suits = let left = under.left in payload_ends s v g 0 _ (omega (arith, left)) under.input suits room (begun (matched_to g.fate) v is (ap (λ (x : Option Datagram). option_and_then (λ (y : Datagram). matched_to y.fate) x) e))

  -- a device that isn't busy has room
  has_room : (v : Device) → is_busy s d v ≡ false → KeepsDepth (arrived s d) (Some v) → Room s d v
  has_room v free depth early = let fits = depth early in cond_both (is_between_records v) 0 1 (λ n. arrived s d + n ≤ v.depth → arrived s d + 1 ≤ v.depth) (λ between fits. grind (arith, nat_tests, fits, rw (between, early) at free)) (λ _ fits. fits) fits

  receive_ends : (n : ℕ) (x : Option Device) → entry s.devices d ≡ x → ReceivesForInput s d x → IfSome x (λ (v : Device). IfSome v.present (SuitsDevice s.config.page v)) → KeepsDepth (arrived s d) x → Ends s (receive s d n x).0
  receive_ends n None is goes suits depth = same_ends
  receive_ends n (Some v) is goes suits depth = choice (Ends s) v.is_bad _ _ same_ends (cond_both (is_busy s d v) _ _ (λ (x : Outcome). Ends s x.0) (λ _. same_ends) (λ free. record_ends n v is (has_room v free depth) v.present refl goes suits))

pub received : (s : State) (d n : ℕ) → IsOrderly s → Ends s (recv s d n).0
received s d n o = receive_ends s d o n (entry s.devices d) refl (o.matched d) (o.datagrams d) (o.depths d)
