-- What each event does to the transfers that wait for a device, and to what it receives.
use Rattle.std.proofs.Common.{◌≡◌, ℕ, ◌+◌, ◌≤◌, Bool, true, false, not, ◌==◌, ⊎_elim, List, [], ◌∷◌, ◌++◌, length, map, filter, append-nil, ◌≢◌, refl, sym, ap, subst, ◌∙◌, eqb-true, ne_eqb, true≢false, arith}
use Rattle.std.specs.Prelude.{Option, Some, None, slice_set, drop, if◌then◌else◌, is_some}
use Rattle.std.proofs.lemmas.Bool.{cases_Bool, cases_eq, cond_both, cond-true, cond-false, and_left, and_right, and_parts, not-false}
use Rattle.std.proofs.lemmas.List.{length-take-le, length-drop}
use Rattle.genie_base.specs.Configs.{Config, DeviceConfig}
use Rattle.genie_base.specs.Posted.{Address}
use Rattle.genie_base.specs.Records.{header_bytes}
use Rattle.genie_base.specs.Transfers.{class_of, is_strong}
use Rattle.genie_base.specs.declared.event.Event.{Event}
use Rattle.genie_base.specs.declared.event.Event.TheVariants.{Fork, Exit, Unmap, Protect, Write, Output, Input, Send, Recv, Finish, Cancel}
use Rattle.genie_base.specs.declared.refusal.Refusal.{Refusal}
use Rattle.genie_base.specs.declared.reply.Mark.{Mark}
use Rattle.genie_base.specs.declared.reply.Reply.TheVariants as reply
use Rattle.genie_base.specs.declared.semantics.Class.{Class}
use Rattle.genie_base.specs.declared.semantics.Class.TheVariants.{Copy, Share, Move, WeakMove}
use Rattle.genie_model.specs.Sending.{sent_by, sent_of}
use Rattle.genie_model.specs.declared.fate.Fate.{Fate}
use Rattle.genie_model.specs.declared.fate.Fate.TheVariants.{Matched, Skipped, Gathering}
use Rattle.genie_model.specs.declared.phase.Phase.{Phase}
use Rattle.genie_model.specs.declared.phase.Phase.TheVariants.{Queued}
use Rattle.genie_model.specs.State.{State, Region, Transfer, Device, Datagram}
use Rattle.genie_model.specs.Tables.{without, entry}
use Rattle.genie_model.specs.Regions.{place_in, reach_of, regions_at}
use Rattle.genie_model.specs.Pending.{is_queued, is_posted, is_ready, is_just, is_numbered, pending, waits_for, first_queued, add_transfer}
use Rattle.genie_model.specs.Refusing.{has_output, is_finished, may_cancel}
use Rattle.genie_model.specs.Space.{Outcome, region_from, spawned, accessible, bytes_reached, is_move, disowned, is_posted_by, exit}
use Rattle.genie_model.specs.Outputs.{place_reached, number_of, output_of, give_up}
use Rattle.genie_model.specs.Inputs.{posted, with_buffer}
use Rattle.genie_model.specs.Sending.{unsent, after_sending, change_device, with_sent, must_stage, stage_bytes, send_bytes, stage_count, send_count, send_next}
use Rattle.genie_model.specs.Receiving.{recv}
use Rattle.genie_model.specs.Ending.{finish_found, cancel_found, without_transfer, region_of}
use Rattle.genie_orderly.specs.Orderly.{IsOrderly}
use Rattle.genie_laws.specs.Integrity.{Accepted, accepted, WasThere}
use Rattle.genie_model.specs.Step.{accept, perform, failed, may_fail, step}
use Rattle.genie_model.specs.Lemmas.Lists.{entry_set}
use Rattle.genie_orderly.specs.Lemmas.KeptSent.{recv_quiet}
use Rattle.genie_orderly.specs.Lemmas.BufferRegions.{reached}
use Rattle.genie_model.specs.Lemmas.SendQueues.{plain, queue, queue-append, queue_map, queue_filter, queue_without, queue_change}
use Rattle.genie_laws.proofs.Outputs.ReceiveSteps.{IsFree, MeetsOther, HasMet, OnDevice, MeetOthers, Meets, posted_idle, recv_keeps}
use Rattle.genie_laws.proofs.Outputs.Records.{HasBytes, AreWaiting, IsThere, IsCall}
use Rattle.genie_laws.proofs.Outputs.Turns.{Turn, still, called, turn_free}
use Rattle.genie_laws.proofs.Outputs.SendSteps.{TurnTo, none, send_here}
use Rattle.genie_model.specs.Lemmas.OnlyRegions.{SameBut, copies_like, remove_like, protect_like, stored_like, given_up_like, buffer_like, finish_for_like}
use Rattle.genie_model.specs.Lemmas.Steps.{outcome_so}
use Rattle.genie_orderly.specs.Lemmas.AcceptedEvents.{Allowed, allowed}

-- the transfers that wait take a turn, and datagrams still meet others
abbrev pub Goes : ℕ → State → State → (List State → List Accepted) → Type 0
Goes d s t accepted = Turn d s (queue d t.transfers) (sent_of t d) accepted × Meets d t

abbrev Serves : List (Option Device) → List (Option Device) → Type 0
Serves old new = (q : List Transfer) (n : ℕ) (configs : List (Option DeviceConfig)) → MeetOthers q n configs old → MeetOthers q n configs new

fate_later : (q r : List Transfer) (m n : ℕ) → ((k : ℕ) → IsFree q m k → IsFree r n k) → (fate : Fate) → MeetsOther q m fate → MeetsOther r n fate
fate_later q r m n h Skipped met = tt
fate_later q r m n h Gathering met = tt
fate_later q r m n h (Matched k) met = h k met

met_later : (q r : List Transfer) (m n : ℕ) → ((k : ℕ) → IsFree q m k → IsFree r n k) → (o : Option Datagram) → HasMet q m o → HasMet r n o
met_later q r m n h None met = tt
met_later q r m n h (Some g) met = fate_later q r m n h g.fate met

device_later : (q r : List Transfer) (m n : ℕ) → ((k : ℕ) → IsFree q m k → IsFree r n k) → (sends : Bool) (v : Option Device) → OnDevice q m sends v → OnDevice r n sends v
device_later q r m n h sends None met = met
device_later q r m n h sends (Some v) met = met_later q r m n h v.present met

module _ (d : ℕ) (s : State) (meets : Meets d s) where
  goes : (t : State) (accepted : List State → List Accepted) → s.next ≤ t.next → t.config.devices ≡ s.config.devices → Serves s.devices t.devices → Turn d s (queue d t.transfers) (sent_of t d) accepted → Goes d s t accepted
  goes t accepted more config serves turn = (
    turn,
    rw config (serves (queue d t.transfers) t.next s.config.devices (λ dev.
        device_later (queue d s.transfers) (queue d t.transfers) s.next t.next (λ k free. (turn_free d s (queue d t.transfers) (sent_of t d) accepted turn k free.1 free.0, omega (arith, free.1, more))) (has_output (entry s.config.devices dev)) (entry s.devices dev) (meets dev))),
  )

  like : (u t : State) (accepted : List State → List Accepted) → SameBut u t → Goes d s u accepted → Goes d s t accepted
  like u t accepted e g = subst (λ (x : State). Goes d s x accepted) (sym e) g

  left : (transfers : List Transfer) (n : ℕ) → s.next ≤ n → queue d transfers ≡ queue d s.transfers → Goes d s (record s { transfers = transfers; next = n }) none
  left transfers n more same = goes (record s { transfers = transfers; next = n }) none more refl (λ q m configs h. h) (still same refl (λ later. refl))

  quiet : (t : State) → SameBut s t → Goes d s t none
  quiet t e = like s t none e (left s.transfers s.next (omega arith) refl)

ready_idle : (phase : Phase) → is_ready phase ≡ true → is_queued phase ≡ false
ready_idle Queued e = sym e
ready_idle phase e = refl

gone_region : (class : Class) (r : Option ℕ) → (if is_strong class then None else (if is_move class then None else r)) ≡ (if is_strong class then None else r)
gone_region Copy r = refl
gone_region Share r = refl
gone_region Move r = refl
gone_region WeakMove r = refl

disowned_plain : (p : ℕ) (t : Transfer) → plain (disowned p t) ≡ plain t
disowned_plain p t = cond_both (is_just t.owner p) (record t { owner = None; region = if is_move t.class then None else t.region }) t (λ u. plain u ≡ plain t) (λ _. ap (λ r. record t { owner = None; region = r }) (gone_region t.class t.region)) (λ _. refl)

exit_goes : (d : ℕ) (s : State) (p : ℕ) → Meets d s → Goes d s (exit s p).0 none
exit_goes d s p meets =
    let rest : List Transfer = filter (λ t. not (is_posted_by p t)) s.transfers in
    let idle : (t : Transfer) → not (is_posted_by p t) ≡ false → waits_for d t ≡ false = λ t e. and_left (is_queued t.phase) (t.device == d) (posted_idle t.phase (and_parts (is_just t.owner p) (is_posted t.phase) (not-false (is_posted_by p t) e)).1) in
    like d s meets (record s { transfers = map (disowned p) rest }) (exit s p).0 none refl (left d s meets (map (disowned p) rest) s.next (omega arith) (queue_map d (disowned p) (disowned_plain p) rest ∙ queue_filter d (λ t. not (is_posted_by p t)) idle s.transfers))

-- a transfer that ends
ended_goes : (d : ℕ) (s : State) (k : ℕ) (t : Transfer) → Meets d s → pending s k ≡ Some t → is_queued t.phase ≡ false → Goes d s (without_transfer s k) none
ended_goes d s k t meets e idle = left d s meets (without (is_numbered k) s.transfers) s.next (omega arith) (queue_without d (is_numbered k) t (and_left (is_queued t.phase) (t.device == d) idle) s.transfers e)

finish_goes : (d : ℕ) (s : State) (k : ℕ) (o : Option Transfer) → Meets d s → pending s k ≡ o → is_finished o ≡ true → Goes d s (finish_found s k o).0 none
finish_goes d s k None meets e may = absurd (true≢false (sym may))
finish_goes d s k (Some t) meets e may = like d s meets (without_transfer s k) (finish_found s k (Some t)).0 none (finish_for_like (without_transfer s k) t t.owner) (ended_goes d s k t meets e (ready_idle t.phase may))

cancel_goes : (d : ℕ) (s : State) (k : ℕ) (o : Option Transfer) → Meets d s → pending s k ≡ o → may_cancel o ≡ true → Goes d s (cancel_found s k o).0 none
cancel_goes d s k None meets e may = absurd (true≢false (sym may))
cancel_goes d s k (Some t) meets e may = like d s meets (without_transfer s k) (cancel_found s k (Some t)).0 none (given_up_like (without_transfer s k) t.class (region_of (without_transfer s k) t)) (ended_goes d s k t meets e (posted_idle t.phase may))

-- an input
input_idle : (d : ℕ) (s : State) (p : ℕ) (class : Class) (to : Address) (addr : Option ℕ) (n : ℕ) → waits_for d (posted s p class to addr n) ≡ false
input_idle d s p Copy to addr n = refl
input_idle d s p Share to addr n = refl
input_idle d s p Move to addr n = refl
input_idle d s p WeakMove to addr n = refl

input_goes : (d : ℕ) (s : State) (p : ℕ) (class : Class) (to : Address) (addr : Option ℕ) (n : ℕ) → Meets d s → Goes d s (add_transfer (with_buffer s p class n) (posted s p class to addr n)) none
input_goes d s p class to addr n meets =
    let t : Transfer = posted s p class to addr n in
    let idle = input_idle d s p class to addr n in
    like d s meets (add_transfer s t) (add_transfer (with_buffer s p class n) t) none (ap (λ (x : State). add_transfer x t) (buffer_like s p class n))
    (left d s meets (s.transfers ++ t ∷ []) (s.next + 1) (omega arith) (queue-append d s.transfers (t ∷ []) ∙ ap (λ l. queue d s.transfers ++ l) (cond-false (waits_for d t) (plain t ∷ []) [] idle) ∙ append-nil (queue d s.transfers)))

-- an output, as it is accepted
abbrev call : State → Class → Address → ℕ → ℕ → Option Region → List State → Accepted
call s class to a n reached later = record {
  number = s.next;
  class = class;
  header = header_bytes to.port to.flow n;
  len = n;
  bytes = bytes_reached s reached a n;
  region = number_of reached;
  offset = place_reached s reached a;
  later = later;
}

was_there : (t : Transfer) (o : Accepted) (p : List ℕ) → t.moved ≡ 0 → t.staged ≡ 0 → o.len ≡ t.len → o.region ≡ t.region → o.offset ≡ t.offset → IsThere t o.later p → WasThere o p
was_there t o p unmoved unstaged len region offset h = record {
  whole = h.whole ∙ sym len;
  bytes = λ j lt. rw (region, offset) (⊎_elim (λ early. absurd (omega (arith, early, unmoved))) (λ h. ⊎_elim (λ old. absurd (omega (arith, old.0, unstaged))) (λ h. h) h) (h.bytes j (omega (arith, lt, len))));
}

module _ (s : State) (p : ℕ) (to : Address) (a n : ℕ) (r : Region) where
  abbrev new : Class → Transfer
  new class = plain (output_of s p class to a n (Some r))

  is_call : place_in s r a + n ≤ length r.bytes → (class : Class) (later : List State) → IsCall (new class) later (call s class to a n (Some r) later)
  is_call within Copy later = record { number = refl; len = refl; long = length-take-le n (drop (place_in s r a) r.bytes) (omega (arith, within, length-drop (place_in s r a) r.bytes)); header = refl; payload = λ q h. h }
  is_call within Share later = record { number = refl; len = refl; long = tt; header = refl; payload = λ q h. was_there (new Share) (call s Share to a n (Some r) later) q refl refl refl refl refl h }
  is_call within Move later = record { number = refl; len = refl; long = length-take-le n (drop (place_in s r a) r.bytes) (omega (arith, within, length-drop (place_in s r a) r.bytes)); header = refl; payload = λ q h. h }
  is_call within WeakMove later = record { number = refl; len = refl; long = tt; header = refl; payload = λ q h. was_there (new WeakMove) (call s WeakMove to a n (Some r) later) q refl refl refl refl refl h }

  new_bytes : (class : Class) → place_in s r a + n ≤ length r.bytes → HasBytes (new class) class
  new_bytes Copy within = length-take-le n (drop (place_in s r a) r.bytes) (omega (arith, within, length-drop (place_in s r a) r.bytes))
  new_bytes Share within = (refl, tt)
  new_bytes Move within = length-take-le n (drop (place_in s r a) r.bytes) (omega (arith, within, length-drop (place_in s r a) r.bytes))
  new_bytes WeakMove within = (refl, tt)

output_goes : (d : ℕ) (s : State) (p : ℕ) (class : Class) (to : Address) (a n : ℕ) (o : Option Region) → IsOrderly s → Meets d s → reach_of s p a n ≡ o → is_some o ≡ true
    → Goes d s (give_up (add_transfer s (output_of s p class to a n o)) class o) (λ later. if to.device == d then call s class to a n o later ∷ [] else [])
output_goes d s p class to a n None orderly meets e here = absurd (true≢false (sym here))
output_goes d s p class to a n (Some r) orderly meets e here =
    let t : Transfer = output_of s p class to a n (Some r) in
    let u : State = add_transfer s t in
    let outputs : List State → List Accepted = λ later. if to.device == d then call s class to a n (Some r) later ∷ [] else [] in
    like d s meets u (give_up u class (Some r)) outputs (given_up_like u class (Some r)) (goes d s meets u outputs (omega arith) refl (λ q m configs h. h) (⊎_elim
    (λ (mine : (to.device == d) ≡ true).
    called (new s p to a n r class) (call s class to a n (Some r)) (record { moved = omega arith; staged = omega arith; bytes = new_bytes s p to a n r class (reached s p a n r orderly.regions e).within }) refl refl (is_call s p to a n r (reached s p a n r orderly.regions e).within class)
    (queue-append d s.transfers (t ∷ []) ∙ ap (λ l. queue d s.transfers ++ l) (cond-true (to.device == d) (plain t ∷ []) [] mine)) refl (λ later. cond-true (to.device == d) _ _ mine))
    (λ (other : (to.device == d) ≡ false).
    still (queue-append d s.transfers (t ∷ []) ∙ ap (λ l. queue d s.transfers ++ l) (cond-false (to.device == d) (plain t ∷ []) [] other) ∙ append-nil (queue d s.transfers)) refl (λ later. cond-false (to.device == d) _ _ other))
    (cases_Bool (to.device == d))))

-- a send step
sent_device : (bytes : List ℕ) (q : List Transfer) (n : ℕ) (sends : Bool) (o : Option Device) → OnDevice q n sends o → OnDevice q n sends (change_device (with_sent bytes) o)
sent_device bytes q n sends None h = h
sent_device bytes q n sends (Some v) h = h

sent_serves : (bytes : List ℕ) (devices : List (Option Device)) (dev : ℕ) → Serves devices (slice_set devices dev (change_device (with_sent bytes) (entry devices dev)))
sent_serves bytes devices dev q n configs h i =
    let new : Option Device = change_device (with_sent bytes) (entry devices dev) in
    entry_set (OnDevice q n (has_output (entry configs i))) devices dev i new (h i) (λ same. subst (λ j. OnDevice q n (has_output (entry configs j)) new) (sym same) (sent_device bytes q n (has_output (entry configs dev)) (entry devices dev) (h dev)))

abbrev SendsOn : State → State → Type 0
SendsOn s t = (t.next ≡ s.next) × (t.config ≡ s.config) × Serves s.devices t.devices

send_on : (s : State) (dev n : ℕ) (o : Option Transfer) → SendsOn s (send_next s dev n o).0
send_on s dev n None = (refl, refl, λ q m configs h. h)
send_on s dev n (Some t) = cond_both (must_stage s dev t) (stage_bytes s dev t (stage_count n t), reply.Staged (stage_count n t)) (send_bytes s dev t (send_count n t), reply.Sent (send_count n t)) (λ (x : Outcome). SendsOn s x.0)
    (λ _. (refl, refl, λ q m configs h. h)) (λ _. (refl, refl, sent_serves _ s.devices dev))

other_idle : (d dev : ℕ) (t : Transfer) → dev ≢ d → waits_for dev t ≡ true → (t.device == d) ≡ false
other_idle d dev t other w = ne_eqb t.device d (λ e. other (sym (eqb-true t.device dev (and_parts (is_queued t.phase) (t.device == dev) w).1) ∙ e))

sending_idle : (d k : ℕ) (t : Transfer) → (t.device == d) ≡ false → waits_for d (after_sending k t) ≡ false
sending_idle d k t e = cond_both (k == unsent t) _ (record t { moved = t.moved + k }) (λ (u : Transfer). waits_for d u ≡ false) (λ _. refl) (λ _. and_right (is_queued t.phase) (t.device == d) e)

abbrev StaysFor : ℕ → State → State → Type 0
StaysFor d s t = (queue d t.transfers ≡ queue d s.transfers) × (sent_of t d ≡ sent_of s d)

send_other : (d : ℕ) (s : State) (dev n : ℕ) (o : Option Transfer) → dev ≢ d → StaysFor d s (send_next s dev n o).0
send_other d s dev n None other = (refl, refl)
send_other d s dev n (Some t) other = cond_both (must_stage s dev t) (stage_bytes s dev t (stage_count n t), reply.Staged (stage_count n t)) (send_bytes s dev t (send_count n t), reply.Sent (send_count n t)) (λ (x : Outcome). StaysFor d s x.0)
    (λ _. (queue_change d (waits_for dev) _ s.transfers (λ u has w. let idle = and_right (is_queued u.phase) (u.device == d) (other_idle d dev u other w) in (idle, idle)), refl))
    (λ _. (
      queue_change d (waits_for dev) _ s.transfers (λ u has w. let e = other_idle d dev u other w in (and_right (is_queued u.phase) (u.device == d) e, sending_idle d _ u e)),
      entry_set (λ (x : Option Device). sent_by x ≡ sent_by (entry s.devices d)) s.devices dev d _ refl (λ e. absurd (other (sym e))),
    ))

device_there : (q : List Transfer) (n : ℕ) (sends : Bool) (o : Option Device) → OnDevice q n sends o → sends ≡ true → (v : Device) × (o ≡ Some v)
device_there q n sends None h e = absurd (true≢false (sym e ∙ h))
device_there q n sends (Some v) h e = (v, refl)

send_goes : (d : ℕ) (s : State) (dev n : ℕ) → IsOrderly s → AreWaiting (queue d s.transfers) → Meets d s → has_output (entry s.config.devices dev) ≡ true → Goes d s (send_next s dev n (first_queued s dev)).0 none
send_goes d s dev n o w meets may =
    let on = send_on s dev n (first_queued s dev) in
    goes d s meets (send_next s dev n (first_queued s dev)).0 none (omega (arith, on.0)) (ap (λ (c : Config). c.devices) on.1) on.2 (⊎_elim
    (λ (e : dev ≡ d).
    let there = device_there (queue d s.transfers) s.next _ (entry s.devices d) (meets d) (subst (λ i. has_output (entry s.config.devices i) ≡ true) e may) in
    subst (λ i. TurnTo d s (send_next s i n (first_queued s i)).0) (sym e) (send_here d s n there.0 o w there.1 (first_queued s d) refl))
    (λ (other : dev ≢ d). let stays = send_other d s dev n (first_queued s dev) other in still stays.0 stays.1 (λ later. refl))
    (cases_eq dev d))

recv_goes : (d : ℕ) (s : State) (dev n : ℕ) → IsOrderly s → Meets d s → Goes d s (recv s dev n).0 none
recv_goes d s dev n o meets =
    let k = recv_keeps d s dev n o.transfers meets in
    (still k.queue ((recv_quiet s dev n).sent d) (λ later. refl), rw (k.queue, k.next, k.config) k.meets)

perform_goes : (d : ℕ) (s : State) (e : Event) → IsOrderly s → AreWaiting (queue d s.transfers) → Meets d s → Allowed s e → Goes d s (perform s e).0 (accepted d s e (perform s e).1)
perform_goes d s (Fork p q) o w meets may = quiet d s meets _ (copies_like (spawned s q) q (accessible (regions_at s p)))
perform_goes d s (Exit p) o w meets may = exit_goes d s p meets
perform_goes d s (Unmap p g) o w meets may = quiet d s meets _ (remove_like s (region_from s p g))
perform_goes d s (Protect p g writable) o w meets may = quiet d s meets _ (protect_like s (region_from s p g) writable)
perform_goes d s (Write p a bytes) o w meets may = quiet d s meets _ (stored_like s (reach_of s p a (length bytes)) a bytes)
perform_goes d s (Output p sem dev port flow a n) o w meets may = output_goes d s p (class_of sem) (record { device = dev; port = port; flow = flow }) a n (reach_of s p a n) o meets refl may
perform_goes d s (Input p sem dev port flow a n) o w meets may = input_goes d s p (class_of sem) (record { device = dev; port = port; flow = flow }) a n meets
perform_goes d s (Send dev n) o w meets may = send_goes d s dev n o w meets may
perform_goes d s (Recv dev n) o w meets may = recv_goes d s dev n o meets
perform_goes d s (Finish k) o w meets may = finish_goes d s k (pending s k) meets refl may
perform_goes d s (Cancel k) o w meets may = cancel_goes d s k (pending s k) meets refl may
perform_goes d s e o w meets may = quiet d s meets (perform s e).0 refl

accept_goes : (d : ℕ) (s : State) (e : Event) → IsOrderly s → AreWaiting (queue d s.transfers) → Meets d s → Allowed s e → Goes d s (accept s e).0 (accepted d s e (accept s e).1)
accept_goes d s e o w meets may = perform_goes d s e o w meets may

-- a refusal and a failure accept nothing
refused_none : (d : ℕ) (s : State) (e : Event) (refusal : Refusal) (later : List State) → accepted d s e (reply.Err refusal) later ≡ []
refused_none d s (Output p sem dev port flow a n) refusal later = refl
refused_none d s e refusal later = refl

store_none : (d : ℕ) (s : State) (e : Event) (later : List State) → accepted d s e reply.StoreFault later ≡ []
store_none d s (Output p sem dev port flow a n) later = refl
store_none d s e later = refl

stays : (d : ℕ) (s : State) (outputs : List State → List Accepted) → Meets d s → ((later : List State) → outputs later ≡ []) → Goes d s s outputs
stays d s outputs meets h = (still refl refl h, meets)

failed_goes : (d : ℕ) (s : State) (e : Event) (k : ℕ) → IsOrderly s → AreWaiting (queue d s.transfers) → Meets d s → Allowed s e → may_fail s e k ≡ true → Goes d s (failed s e k).0 (accepted d s e (reply.Fault k))
failed_goes d s (Send dev n) k o w meets may fails = cond_both (k == 0) s (accept s (Send dev k)).0 (λ t. Goes d s t none) (λ _. stays d s none meets (λ later. refl)) (λ _. accept_goes d s (Send dev k) o w meets may)
failed_goes d s (Recv dev n) k o w meets may fails = cond_both (k == 0) s (accept s (Recv dev k)).0 (λ t. Goes d s t none) (λ _. stays d s none meets (λ later. refl)) (λ _. accept_goes d s (Recv dev k) o w meets may)
failed_goes d s e k o w meets may fails = absurd (true≢false (sym fails))

-- one step
pub step_goes : (d : ℕ) (s : State) (e : Event) (m : Mark) → IsOrderly s → AreWaiting (queue d s.transfers) → Meets d s → Goes d s (step s e m).0 (accepted d s e (step s e m).1)
step_goes d s e m o w meets = outcome_so (λ (x : Outcome). Goes d s x.0 (accepted d s e x.1)) s e
    (λ refusal. stays d s (accepted d s e (reply.Err refusal)) meets (refused_none d s e refusal)) (stays d s (accepted d s e reply.StoreFault) meets (store_none d s e))
    (λ none. accept_goes d s e o w meets (allowed s e none)) (λ none k fails. failed_goes d s e k o w meets (allowed s e none) fails) m
