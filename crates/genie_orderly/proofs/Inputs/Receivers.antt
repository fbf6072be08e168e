-- What is so of the pending transfers and of what devices receive, after every step.
use Rattle.std.proofs.Common.{◌≡◌, ℕ, Bool, ◌+◌, ◌≤◌, true, false, List, [], ◌∷◌, ◌++◌, ◌∙◌, AllPairs, get_or, eqb-true, eq-eqb, map, filter, All, refl, sym, subst, true≢false, arith, ap, slice_set, count_by}
use Rattle.std.specs.Prelude.{Option, Some, None, IfSome, IsTrue, ◌&&◌, not, ◌==◌, if◌then◌else◌}
use Rattle.std.proofs.lemmas.Bool.{cond_both, and_parts, and_from, false_from_ne_true}
use Rattle.std.proofs.lemmas.List.Elements.{All-map, All-filter, All-push, All-weaker}
use Rattle.genie_base.specs.Posted.{Address}
use Rattle.genie_base.specs.Transfers.{class_of}
use Rattle.genie_base.specs.declared.event.Event.{Event}
use Rattle.genie_base.specs.declared.event.Event.TheVariants.{Spawn, Map, Alloc, Read, Pageout, Fork, Exit, Unmap, Protect, Write, Output, Input, Send, Recv, Finish, Cancel}
use Rattle.genie_base.specs.declared.semantics.Class.{Class}
use Rattle.genie_base.specs.declared.semantics.Class.TheVariants.{Copy, Share, Move, WeakMove}
use Rattle.genie_model.specs.declared.fate.Fate.{Fate}
use Rattle.genie_model.specs.declared.fate.Fate.TheVariants.{Matched, Skipped, Gathering}
use Rattle.genie_model.specs.declared.phase.Phase.TheVariants.{Queued, Posted, Moving, Ready}
use Rattle.genie_orderly.specs.Orderly.{has_phase, IsTransfer, AreTransfers, WaitsBehind, OneIsSent, receives_for, MovingAreReceived, ReceivedAreMoving, SuitsDevice, DatagramsSuit, KeepsDepth, DepthsAreKept, PostedAreInputs, IsInput, GoesToInput, IsUnderWay, ReceivesForInput, MatchedAreInputs, IsOrderly}
use Rattle.genie_orderly.specs.Lemmas.ChangedTransfers.{all_passing}
use Rattle.genie_orderly.specs.Lemmas.Receivers.{received_input}
use Rattle.genie_orderly.proofs.Transfers.Changes.{pairs_first, pairs_without}
use Rattle.genie_base.specs.Lemmas.Searches.{pairs_mapped}
use Rattle.genie_model.specs.State.{State, Region, Transfer, Device, Datagram}
use Rattle.genie_model.specs.Tables.{entry, change, without}
use Rattle.genie_model.specs.Regions.{regions_at, reach_of}
use Rattle.genie_model.specs.Pending.{is_queued, is_moving, is_ready, has_arrived, arrived, is_inward, is_just, is_numbered, is_posted, waits_for, first_queued, pending, add_transfer}
use Rattle.genie_model.specs.Space.{exit, tidy, accessible, spawned, region_from, is_move, disowned, is_posted_by}
use Rattle.genie_model.specs.Outputs.{output_of}
use Rattle.genie_model.specs.Inputs.{posted}
use Rattle.genie_model.specs.Sending.{change_device, with_sent, next_part, after_staging, after_sending, unsent, must_stage, send_count, send_next}
use Rattle.genie_model.specs.Receiving.{recv}
use Rattle.genie_model.specs.Ending.{without_transfer, region_of, finish_found, cancel_found}
use Rattle.genie_model.specs.Step.{accept, perform, step}
use Rattle.genie_model.specs.Lemmas.ReceiveSteps.{choice}
use Rattle.genie_orderly.proofs.Inputs.ReceiveSteps.{IsKnown, any_ready, less_depth, received}
use Rattle.genie_model.specs.Lemmas.Lists.{entry_set}
use Rattle.genie_orderly.specs.Lemmas.NamingTransfers.{all_change, all_without, count_kept, count_without}
use Rattle.genie_model.specs.Lemmas.Steps.{step_so}
use Rattle.genie_model.specs.Lemmas.OnlyRegions.{SameBut, copies_like, remove_like, protect_like, stored_like, given_up_like, buffer_like, finish_for_like}
use Rattle.genie_base.specs.declared.semantics.Direction.{Direction}
use Rattle.genie_base.specs.declared.semantics.Direction.TheVariants.{Outward, Inward}
use Rattle.genie_base.specs.declared.reply.Mark.{Mark}
use Rattle.genie_base.specs.Events.{is_whole}
use Rattle.genie_model.specs.declared.phase.Phase.{Phase}
use Rattle.std.proofs.lemmas.List.Quantifiers.{all_pairs_push}
use Rattle.std.proofs.lemmas.List.Kept.{AllPairs-filter}
use Rattle.genie_orderly.proofs.Transfers.Counts.{count_pushed, count_less}

-- a transfer is an input where it is posted, or where a device may receive for it
record IsOld (s : State) (t : Transfer) : Type 0 where
  posted : is_posted t.phase ≡ true → is_inward t.direction ≡ true
  input : (d : ℕ) → IsInput s d t.number → (is_inward t.direction ≡ true) × (t.device ≡ d)
  call : IsTransfer t

-- so are all transfers of state t, and its devices receive for inputs of state s alone
record Lasts (s t : State) : Type 0 where
  config : t.config ≡ s.config
  least : s.next ≤ t.next
  transfers : All (IsOld s) t.transfers
  queues : OneIsSent t
  moving : MovingAreReceived t
  received : ReceivedAreMoving t
  goes : (d : ℕ) → ReceivesForInput s d (entry t.devices d)
  suits : (d : ℕ) → IfSome (entry t.devices d) (λ (v : Device). IfSome v.present (SuitsDevice s.config.page v))
  depths : DepthsAreKept t

later_fate : (s t : State) (d : ℕ) (fate : Fate) → Lasts s t → GoesToInput s d fate → GoesToInput t d fate
later_fate s t d Skipped h goes = tt
later_fate s t d (Matched k) h goes = let least = h.least in (omega (arith, goes.0, least), λ i e lt same. (h.transfers i e lt).input d (subst (IsInput s d) (sym same) goes))
later_fate s t d Gathering h goes = tt

later_device : (s t : State) (d : ℕ) (v : Option Device) → Lasts s t → ReceivesForInput s d v → ReceivesForInput t d v
later_device s t d None h goes = tt
later_device s t d (Some v) h goes = later v.present goes
  where
    later : (o : Option Datagram) → IfSome o (IsUnderWay s d) → IfSome o (IsUnderWay t d)
    later None under = tt
    later (Some g) under = record { left = under.left; input = later_fate s t d g.fate h under.input }

begins : (s : State) → IsOrderly s → Lasts s s
begins s o = record { config = refl; least = omega arith; transfers = λ i d lt. record { posted = o.posted i d lt; input = λ e is. is.1 i d lt refl; call = o.calls i d lt }; queues = o.queues; moving = o.moving; received = o.received; goes = o.matched; suits = o.datagrams; depths = o.depths }

-- the end of its process leaves all but the owner and the region of a transfer
disowned_like : (p : ℕ) (t : Transfer) → disowned p t ≡ record t { owner = (disowned p t).owner; region = (disowned p t).region }
disowned_like p t = cond_both (is_just t.owner p) (record t { owner = None; region = if is_move t.class then None else t.region }) t (λ (u : Transfer). u ≡ record t { owner = u.owner; region = u.region }) (λ _. refl) (λ _. refl)

-- a transfer that a call adds
record IsNewCall (s : State) (t : Transfer) : Type 0 where
  old : IsOld s t
  fresh : (d : ℕ) → IsInput s d t.number → ⊥
  moving : is_moving t.phase ≡ false
  ready : is_ready t.phase ≡ false
  staged : t.staged ≡ 0
  moved : t.moved ≡ 0

not_arrived : (e : ℕ) (t : Transfer) → is_ready t.phase ≡ false → has_arrived e t ≡ false
not_arrived e t n = false_from_ne_true (has_arrived e t) (λ y. true≢false (sym (and_parts (is_inward t.direction) (is_ready t.phase) (and_parts (is_inward t.direction && is_ready t.phase) (t.device == e) y).0).1 ∙ n))

queued_outward : (direction : Direction) (phase : Phase) → IsTrue (has_phase direction phase) → is_queued phase ≡ true → is_inward direction ≡ false
queued_outward Outward phase h q = refl
queued_outward Inward Queued h q = absurd (cc)
queued_outward Inward Posted h q = absurd (cc)
queued_outward Inward Moving h q = absurd (cc)
queued_outward Inward Ready h q = absurd (cc)

queued_still : (phase : Phase) → is_queued phase ≡ true → is_moving phase ≡ true → ⊥
queued_still Queued q m = true≢false (sym m)
queued_still Posted q m = true≢false (sym q)
queued_still Moving q m = true≢false (sym q)
queued_still Ready q m = true≢false (sym q)

-- fewer inputs are ready at each device
fewer_ready : (t : State) (transfers : List Transfer) → ((e : ℕ) → count_by (has_arrived e) transfers ≤ arrived t e) → DepthsAreKept t → DepthsAreKept (record t { transfers = transfers })
fewer_ready t transfers less h = λ d. less_depth _ (arrived t d) (entry t.devices d) (less d) (h d)

module _ (s : State) where
  alike : (t u : State) → SameBut t u → Lasts s t → Lasts s u
  alike t u e h = subst (Lasts s) (sym e) (record { config = h.config; least = h.least; transfers = h.transfers; queues = h.queues; moving = h.moving; received = h.received; goes = h.goes; suits = h.suits; depths = h.depths })

  after_exit : (p : ℕ) → Lasts s s → Lasts s (exit s p).0
  after_exit p h =
      let stays : Transfer → Bool = λ t. not (is_posted_by p t) in
      let left : List Transfer = filter stays s.transfers in
      let Receives : Transfer → Type 0 = λ u. is_moving u.phase ≡ true → receives_for (entry s.devices u.device) ≡ Some u.number in
      let Moves : Transfer → Type 0 = λ u. receives_for (entry s.devices u.device) ≡ Some u.number → is_moving u.phase ≡ true in
      record {
        config = refl;
        least = omega arith;
        transfers = All-map (IsOld s) (disowned p) left (All-weaker (IsOld s) (λ t. IsOld s (disowned p t)) (λ t old. rw (disowned_like p t) (record { posted = old.posted; input = old.input; call = record { phase = old.call.phase; placed = old.call.placed; stored = old.call.stored } })) left (All-filter stays (IsOld s) s.transfers h.transfers));
        queues = pairs_mapped WaitsBehind (disowned p) (λ t u behind. rw (disowned_like p t, disowned_like p u) (λ q r same. behind q r same)) left (AllPairs-filter WaitsBehind stays s.transfers h.queues);
        moving = All-map Receives (disowned p) left (All-weaker Receives (λ t. Receives (disowned p t)) (λ t old. rw (disowned_like p t) old) left (All-filter stays Receives s.transfers h.moving));
        received = All-map Moves (disowned p) left (All-weaker Moves (λ t. Moves (disowned p t)) (λ t old. rw (disowned_like p t) old) left (All-filter stays Moves s.transfers h.received));
        goes = h.goes;
        suits = h.suits;
        depths = fewer_ready s (map (disowned p) left) (λ e. count_kept (has_arrived e) stays (disowned p) (λ t y. subst (λ b. b ≡ true) (ap (has_arrived e) (disowned_like p t)) y) s.transfers) h.depths;
      }

  after_call : (t : State) (u : Transfer) → IsNewCall s u → Lasts s t → Lasts s (add_transfer t u)
  after_call t u new h =
      let least = h.least in
      record {
        config = h.config;
        least = omega (arith, least);
        transfers = All-push (IsOld s) t.transfers u h.transfers new.old;
        queues = all_pairs_push WaitsBehind t.transfers u h.queues (λ k d lt q r same. (new.staged, new.moved));
        moving = All-push (λ (w : Transfer). is_moving w.phase ≡ true → receives_for (entry t.devices w.device) ≡ Some w.number) t.transfers u h.moving (λ m. absurd (true≢false (sym m ∙ new.moving)));
        received = All-push (λ (w : Transfer). receives_for (entry t.devices w.device) ≡ Some w.number → is_moving w.phase ≡ true) t.transfers u h.received (λ e. absurd (new.fresh u.device (received_input s u.device (entry t.devices u.device) u.number (h.goes u.device) e)));
        goes = h.goes;
        suits = h.suits;
        depths = fewer_ready t (t.transfers ++ u ∷ []) (λ e. let same = count_pushed (has_arrived e) t.transfers u (not_arrived e u new.ready) in omega (arith, same)) h.depths;
      }

  new_input : (p : ℕ) (class : Class) (to : Address) (a : Option ℕ) (n : ℕ) → IsNewCall s (posted s p class to a n)
  new_input p Copy to a n = record { old = record { posted = λ _. refl; input = λ e is. absurd (omega (arith, is.0)); call = record { phase = refl; placed = refl; stored = omega arith } }; fresh = λ e is. omega (arith, is.0); moving = refl; ready = refl; staged = refl; moved = refl }
  new_input p Share to a n = record { old = record { posted = λ _. refl; input = λ e is. absurd (omega (arith, is.0)); call = record { phase = refl; placed = refl; stored = omega arith } }; fresh = λ e is. omega (arith, is.0); moving = refl; ready = refl; staged = refl; moved = refl }
  new_input p Move to a n = record { old = record { posted = λ _. refl; input = λ e is. absurd (omega (arith, is.0)); call = record { phase = refl; placed = (refl, refl); stored = omega arith } }; fresh = λ e is. omega (arith, is.0); moving = refl; ready = refl; staged = refl; moved = refl }
  new_input p WeakMove to a n = record { old = record { posted = λ _. refl; input = λ e is. absurd (omega (arith, is.0)); call = record { phase = refl; placed = (refl, refl); stored = omega arith } }; fresh = λ e is. omega (arith, is.0); moving = refl; ready = refl; staged = refl; moved = refl }

  new_output : (p : ℕ) (class : Class) (to : Address) (a n : ℕ) (reached : Option Region) → IsNewCall s (output_of s p class to a n reached)
  new_output p class to a n reached = record { old = record { posted = λ e. absurd (true≢false (sym e)); input = λ e is. absurd (omega (arith, is.0)); call = record { phase = refl; placed = refl; stored = omega arith } }; fresh = λ e is. omega (arith, is.0); moving = refl; ready = refl; staged = refl; moved = refl }

  -- a change of the first output that waits for the device
  record IsOutward (f : Transfer → Transfer) : Type 0 where
    old : (t : Transfer) → IsOld s t → IsOld s (f t)
    queued : (t : Transfer) → is_queued (f t).phase ≡ true → is_queued t.phase ≡ true
    moving : (t : Transfer) → is_moving (f t).phase ≡ true → is_moving t.phase ≡ true
    device : (t : Transfer) → (f t).device ≡ t.device
    number : (t : Transfer) → (f t).number ≡ t.number
    direction : (t : Transfer) → (f t).direction ≡ t.direction

  waits_behind : (d : ℕ) (f : Transfer → Transfer) → IsOutward f → (ts : List Transfer) → AllPairs WaitsBehind ts → AllPairs WaitsBehind (change (waits_for d) f ts)
  waits_behind d f m ts h = pairs_first WaitsBehind (waits_for d) f (λ x y r q w same. r (m.queued x q) w (sym (m.device x) ∙ same))
      (λ x y n w r q v same.
      let both = and_parts (is_queued y.phase) (y.device == d) w in
      let at : x.device ≡ d = same ∙ m.device y ∙ eqb-true y.device d both.1 in
      absurd (true≢false (sym (and_from (is_queued x.phase) (x.device == d) q (eq-eqb x.device d at)) ∙ n))) ts h

  no_arrival : (d : ℕ) (f : Transfer → Transfer) → IsOutward f → (ts : List Transfer) → All (IsOld s) ts → (e : ℕ) → count_by (has_arrived e) (change (waits_for d) f ts) ≤ count_by (has_arrived e) ts
  no_arrival d f m ts h e = count_less (IsOld s) (has_arrived e) (waits_for d) f (λ t old w now.
      let outward = queued_outward t.direction t.phase old.call.phase (and_parts (is_queued t.phase) (t.device == d) w).0 in
      let inward = (and_parts (is_inward (f t).direction) (is_ready (f t).phase) (and_parts (is_inward (f t).direction && is_ready (f t).phase) ((f t).device == e) now).0).0 in
      absurd (true≢false (sym inward ∙ ap is_inward (m.direction t) ∙ outward))) ts h

  after_change : (t : State) (d : ℕ) (f : Transfer → Transfer) → IsOutward f → Lasts s t → Lasts s (record t { transfers = change (waits_for d) f t.transfers })
  after_change t d f m h = record {
    config = h.config;
    least = h.least;
    transfers = all_change (IsOld s) (waits_for d) f m.old t.transfers h.transfers;
    queues = waits_behind d f m t.transfers h.queues;
    moving = all_change (λ (u : Transfer). is_moving u.phase ≡ true → receives_for (entry t.devices u.device) ≡ Some u.number) (waits_for d) f (λ u old now. rw (m.device u, m.number u) (old (m.moving u now))) t.transfers h.moving;
    received = all_passing (λ (u : Transfer). receives_for (entry t.devices u.device) ≡ Some u.number → is_moving u.phase ≡ true) (waits_for d) f
        (λ u w old e. absurd (queued_still u.phase (and_parts (is_queued u.phase) (u.device == d) w).0 (old (ap (λ (e : ℕ). receives_for (entry t.devices e)) (sym (m.device u)) ∙ e ∙ ap Some (m.number u))))) t.transfers h.received;
    goes = h.goes;
    suits = h.suits;
    depths = fewer_ready t (change (waits_for d) f t.transfers) (no_arrival d f m t.transfers h.transfers) h.depths;
  }

  stages : (k : ℕ) (bytes : List ℕ) → IsOutward (after_staging k bytes)
  stages k bytes = record { old = λ t old. record { posted = old.posted; input = old.input; call = record { phase = old.call.phase; placed = old.call.placed; stored = old.call.stored } }; queued = λ t q. q; moving = λ t m. m; device = λ t. refl; number = λ t. refl; direction = λ t. refl }

  sends : (k : ℕ) → IsOutward (after_sending k)
  sends k = record {
    old = λ t old. either t (IsOld s) (λ _. record { posted = λ e. absurd (true≢false (sym e)); input = old.input; call = record { phase = any_ready t.direction; placed = old.call.placed; stored = old.call.stored } }) (λ _. record { posted = old.posted; input = old.input; call = record { phase = old.call.phase; placed = old.call.placed; stored = old.call.stored } });
    queued = λ t. either t (λ u. is_queued u.phase ≡ true → is_queued t.phase ≡ true) (λ _ q. absurd (true≢false (sym q))) (λ _ q. q);
    moving = λ t. either t (λ u. is_moving u.phase ≡ true → is_moving t.phase ≡ true) (λ _ m. absurd (true≢false (sym m))) (λ _ m. m);
    device = λ t. either t (λ u. u.device ≡ t.device) (λ _. refl) (λ _. refl);
    number = λ t. either t (λ u. u.number ≡ t.number) (λ _. refl) (λ _. refl);
    direction = λ t. either t (λ u. u.direction ≡ t.direction) (λ _. refl) (λ _. refl);
  }
    where
      either : (t : Transfer) (P : Transfer → Type 0) → ((k == unsent t) ≡ true → P (record t { moved = t.moved + k; phase = Ready; payload = [] })) → ((k == unsent t) ≡ false → P (record t { moved = t.moved + k })) → P (after_sending k t)
      either t P sent left = cond_both (k == unsent t) (record t { moved = t.moved + k; phase = Ready; payload = [] }) (record t { moved = t.moved + k }) P sent left

  -- what a device has sent changes nothing of this
  record AreAlike (d : ℕ) (old new : Option Device) : Type 0 where
    aims : receives_for new ≡ receives_for old
    goes : ReceivesForInput s d old → ReceivesForInput s d new
    suits : IfSome old (λ (v : Device). IfSome v.present (SuitsDevice s.config.page v)) → IfSome new (λ (v : Device). IfSome v.present (SuitsDevice s.config.page v))
    depth : (n : ℕ) → KeepsDepth n old → KeepsDepth n new

  sent_device : (d : ℕ) (bytes : List ℕ) (v : Option Device) → AreAlike d v (change_device (with_sent bytes) v)
  sent_device d bytes None = record { aims = refl; goes = λ h. h; suits = λ h. h; depth = λ n h. h }
  sent_device d bytes (Some v) = record { aims = refl; goes = λ h. h; suits = λ h. suits v.present h; depth = λ n h. h }
    where
      suits : (o : Option Datagram) → IfSome o (SuitsDevice s.config.page v) → IfSome o (SuitsDevice s.config.page (with_sent bytes v))
      suits None h = tt
      suits (Some g) h = record { header = h.header; short = h.short; fate = h.fate }

  after_sent : (t : State) (d : ℕ) (bytes : List ℕ) → Lasts s t → Lasts s (record t { devices = slice_set t.devices d (change_device (with_sent bytes) (entry t.devices d)) })
  after_sent t d bytes h =
      let new : Option Device = change_device (with_sent bytes) (entry t.devices d) in
      let alike = λ (e : ℕ). entry_set (AreAlike e (entry t.devices e)) t.devices d e new (record { aims = refl; goes = λ g. g; suits = λ g. g; depth = λ n g. g }) (λ same. subst (λ i. AreAlike e (entry t.devices i) new) (sym same) (sent_device e bytes (entry t.devices d))) in
      record {
        config = h.config;
        least = h.least;
        transfers = h.transfers;
        queues = h.queues;
        moving = λ i c lt m. (alike (get_or t.transfers i c).device).aims ∙ h.moving i c lt m;
        received = λ i c lt e. h.received i c lt (sym (alike (get_or t.transfers i c).device).aims ∙ e);
        goes = λ e. (alike e).goes (h.goes e);
        suits = λ e. (alike e).suits (h.suits e);
        depths = λ e. (alike e).depth (arrived t e) (h.depths e);
      }

  after_send : (t : State) (d n : ℕ) (o : Option Transfer) → Lasts s t → Lasts s (send_next t d n o).0
  after_send t d n None h = h
  after_send t d n (Some u) h = choice (Lasts s) (must_stage t d u) _ _ (after_change t d _ (stages _ _) h)
      (after_sent (record t { transfers = change (waits_for d) (after_sending (send_count n u)) t.transfers }) d (next_part t (send_count n u) u) (after_change t d (after_sending (send_count n u)) (sends (send_count n u)) h))

  after_end : (t : State) (k : ℕ) → Lasts s t → Lasts s (without_transfer t k)
  after_end t k h = record {
    config = h.config;
    least = h.least;
    transfers = all_without (IsOld s) (is_numbered k) t.transfers h.transfers;
    queues = pairs_without WaitsBehind (is_numbered k) t.transfers h.queues;
    moving = all_without (λ (u : Transfer). is_moving u.phase ≡ true → receives_for (entry t.devices u.device) ≡ Some u.number) (is_numbered k) t.transfers h.moving;
    received = all_without (λ (u : Transfer). receives_for (entry t.devices u.device) ≡ Some u.number → is_moving u.phase ≡ true) (is_numbered k) t.transfers h.received;
    goes = h.goes;
    suits = h.suits;
    depths = fewer_ready t (without (is_numbered k) t.transfers) (λ e. count_without (has_arrived e) (is_numbered k) t.transfers) h.depths;
  }

  after_finish : (t : State) (k : ℕ) (o : Option Transfer) → Lasts s t → Lasts s (finish_found t k o).0
  after_finish t k None h = h
  after_finish t k (Some u) h = alike (without_transfer t k) _ (finish_for_like (without_transfer t k) u u.owner) (after_end t k h)

  after_cancelled : (t : State) (k : ℕ) (o : Option Transfer) → Lasts s t → Lasts s (cancel_found t k o).0
  after_cancelled t k None h = h
  after_cancelled t k (Some u) h = alike (without_transfer t k) _ (given_up_like (without_transfer t k) u.class (region_of (without_transfer t k) u)) (after_end t k h)

  after_recv : (d n : ℕ) → IsOrderly s → Lasts s (recv s d n).0
  after_recv d n o =
      let r = received s d n o in
      let next = r.next in
      record {
        config = r.config;
        least = omega (arith, next);
        transfers = All-weaker (IsKnown s) (IsOld s) (λ t known. record { posted = λ e. (known.input t.device (known.posted e)).0; input = known.input; call = known.call }) (recv s d n).0.transfers r.transfers;
        queues = r.queues;
        moving = r.moving;
        received = r.received;
        goes = r.goes;
        suits = r.suits;
        depths = r.depths;
      }

  performed : (e : Event) → IsOrderly s → Lasts s s → Lasts s (perform s e).0
  performed (Fork p q) o h = alike s _ (copies_like (spawned s q) q (accessible (regions_at s p))) h
  performed (Exit p) o h = after_exit p h
  performed (Unmap p g) o h = alike s _ (remove_like s (region_from s p g)) h
  performed (Protect p g writable) o h = alike s _ (protect_like s (region_from s p g) writable) h
  performed (Write p a bytes) o h = alike s _ (stored_like s _ a bytes) h
  performed (Output p sem d port flow a n) o h =
      let u : Transfer = output_of s p (class_of sem) (record { device = d; port = port; flow = flow }) a n (reach_of s p a n) in
      alike (add_transfer s u) _ (given_up_like (add_transfer s u) (class_of sem) (reach_of s p a n)) (after_call s u (new_output p (class_of sem) (record { device = d; port = port; flow = flow }) a n (reach_of s p a n)) h)
  performed (Input p sem d port flow a n) o h =
      let to : Address = record { device = d; port = port; flow = flow } in
      let u : Transfer = posted s p (class_of sem) to a n in
      alike (add_transfer s u) _ (ap (λ (x : State). add_transfer x u) (buffer_like s p (class_of sem) n)) (after_call s u (new_input p (class_of sem) to a n) h)
  performed (Send d n) o h = after_send s d n (first_queued s d) h
  performed (Recv d n) o h = after_recv d n o
  performed (Finish k) o h = after_finish s k (pending s k) h
  performed (Cancel k) o h = after_cancelled s k (pending s k) h
  performed (Spawn p) o h = alike s _ refl h
  performed (Map p g n) o h = alike s _ refl h
  performed (Alloc p n) o h = alike s _ refl h
  performed (Read p a n) o h = h
  performed (Pageout n) o h = h

  lasting : (e : Event) → IsOrderly s → Lasts s (accept s e).0
  lasting e o = let t : State = (perform s e).0 in alike t (tidy t) refl (performed e o (begins s o))

module _ (s : State) (e : Event) (m : Mark) (whole : IsTrue (is_whole e)) (o : IsOrderly s) where
  pub posted_are_inputs : PostedAreInputs (step s e m).0
  posted_are_inputs = step_so PostedAreInputs s o.posted (λ f i d lt. ((lasting s f o).transfers i d lt).posted) e m

  pub matched_are_inputs : MatchedAreInputs (step s e m).0
  matched_are_inputs = step_so MatchedAreInputs s o.matched (λ f d. let t : State = (accept s f).0 in let h = lasting s f o in later_device s t d (entry t.devices d) h (h.goes d)) e m

  pub calls_stay : AreTransfers (step s e m).0
  calls_stay = step_so AreTransfers s o.calls (λ f i d lt. ((lasting s f o).transfers i d lt).call) e m

  pub one_is_sent : OneIsSent (step s e m).0
  one_is_sent = step_so OneIsSent s o.queues (λ f. (lasting s f o).queues) e m

  pub moving_are_received : MovingAreReceived (step s e m).0
  moving_are_received = step_so MovingAreReceived s o.moving (λ f. (lasting s f o).moving) e m

  pub received_are_moving : ReceivedAreMoving (step s e m).0
  received_are_moving = step_so ReceivedAreMoving s o.received (λ f. (lasting s f o).received) e m

  pub datagrams_suit : DatagramsSuit (step s e m).0
  datagrams_suit = step_so DatagramsSuit s o.datagrams (λ f d. let h = lasting s f o in let same = h.config in rw same (h.suits d)) e m

  pub depths_are_kept : DepthsAreKept (step s e m).0
  depths_are_kept = step_so DepthsAreKept s o.depths (λ f. (lasting s f o).depths) e m
