-- The same step under other thresholds.
use Rattle.std.proofs.Common.{◌≡◌, ℕ, zero, suc, ◌+◌, Bool, true, false, List, [], ◌∷◌, ◌++◌, refl, ap, ◌∙◌}
use Rattle.std.specs.Prelude.{Option, Some, None, take, drop, ◌==◌, if◌then◌else◌}
use Rattle.genie_base.specs.Configs.{most}
use Rattle.genie_base.specs.Headers.{header_taken, is_whole_header, is_valid_header, port_in, flow_in}
use Rattle.genie_base.specs.Posted.{Address}
use Rattle.genie_base.specs.Transfers.{class_of}
use Rattle.genie_base.specs.declared.event.Event.{Event}
use Rattle.genie_base.specs.declared.event.Event.TheVariants.{Spawn, Fork, Map, Alloc, Unmap, Protect, Read, Write, Output, Input, Send, Recv, Finish, Cancel}
use Rattle.genie_base.specs.declared.refusal.Refusal.{Refusal}
use Rattle.genie_base.specs.declared.region.RegionState.TheVariants.{Live}
use Rattle.genie_base.specs.declared.reply.Mark.{Mark}
use Rattle.genie_base.specs.declared.reply.Mark.TheVariants as mark
use Rattle.genie_base.specs.declared.reply.Reply.TheVariants as reply
use Rattle.genie_base.specs.declared.semantics.Class.{Class}
use Rattle.genie_base.specs.declared.semantics.Class.TheVariants.{Copy, Share, Move, WeakMove}
use Rattle.genie_base.specs.declared.semantics.Direction.{Direction}
use Rattle.genie_base.specs.declared.semantics.Direction.TheVariants.{Outward, Inward}
use Rattle.genie_model.specs.declared.fate.Fate.{Fate}
use Rattle.genie_model.specs.declared.fate.Fate.TheVariants.{Matched, Skipped, Gathering}
use Rattle.genie_model.specs.declared.phase.Phase.TheVariants.{Moving}
use Rattle.genie_model.specs.State.{State, Region, Transfer, Device, Datagram}
use Rattle.genie_model.specs.Tables.{entry}
use Rattle.genie_model.specs.Regions.{reach_of, write_reach_of, regions_at, is_used, least_unused, fresh, put, change_region, with_state, address_of}
use Rattle.genie_model.specs.Pending.{first_queued, first_posted, pending, is_early, is_early_at, add_transfer}
use Rattle.genie_model.specs.Space.{Outcome, remove_found, region_from, protect_found, add_copies, add_region, copy_of, spawned, accessible, stored, bytes_reached}
use Rattle.genie_model.specs.Outputs.{output_of, give_up}
use Rattle.genie_model.specs.Inputs.{input, input_of, weak_buffer, number_or_fresh, reusable, pages_for, address_or_zero}
use Rattle.genie_model.specs.Sending.{must_stage, send_next}
use Rattle.genie_model.specs.Receiving.{set_device, is_busy, with_phase, change_transfer, deliver, complete, landing, landed, after_receiving, land_in, land, after_bytes, go_on, take_payload, datagram, match_header, begin_datagram, read_header, take_header, receive_record, receive}
use Rattle.genie_model.specs.Ending.{after_landing, finish_copy, finish_share, finish_move, finish_weak_move, finish_input, finish_owned, finish_for, finish_found, cancel_found, without_transfer, region_of}
use Rattle.genie_laws.specs.Laws.{with_thresholds, outcome_with_thresholds, ThresholdsStepAlike}
use Rattle.genie_model.specs.Refusing.{refuse}
use Rattle.genie_model.specs.Step.{answer, marked, accept, perform, failed, may_fail, uses_store, with_budget, tidied}

module _ (out back : ℕ) where
  abbrev other : State → State
  other s = with_thresholds out back s

  abbrev Alike : Outcome → Outcome → Type 0
  Alike x y = x ≡ outcome_with_thresholds out back y

  choice : (b : Bool) (x y u v : Outcome) → Alike x u → Alike y v → Alike (if b then x else y) (if b then u else v)
  choice true x y u v p q = p
  choice false x y u v p q = q

  state_choice : (b : Bool) (x y u v : State) → x ≡ other u → y ≡ other v → (if b then x else y) ≡ other (if b then u else v)
  state_choice true x y u v p q = p
  state_choice false x y u v p q = q

  least_alike : (s : State) (tries n : ℕ) → least_unused (other s) tries n ≡ least_unused s tries n
  unfolding least_unused
  least_alike s zero n = refl
  least_alike s (suc tries) n = ap (λ (m : ℕ). if is_used s n then m else n) (least_alike s tries (n + 1))

  fresh_alike : (s : State) → fresh (other s) ≡ fresh s
  unfolding fresh
  fresh_alike s = least_alike s 577 0

  copies_alike : (s : State) (q : ℕ) (regions : List Region) → add_copies (other s) q regions ≡ other (add_copies s q regions)
  copies_alike s q [] = refl
  copies_alike s q (r ∷ regions) = ap (λ (k : ℕ). add_copies (add_region (other s) q (record (copy_of s r) { number = k })) q regions) (fresh_alike s) ∙ copies_alike (add_region s q (copy_of s r)) q regions

  remove_alike : (s : State) (o : Option Region) → remove_found (other s) o ≡ other (remove_found s o)
  remove_alike s None = refl
  remove_alike s (Some r) = refl

  protect_alike : (s : State) (o : Option Region) (writable : Bool) → protect_found (other s) o writable ≡ other (protect_found s o writable)
  protect_alike s None writable = refl
  protect_alike s (Some r) writable = refl

  stored_alike : (s : State) (o : Option Region) (a : ℕ) (bytes : List ℕ) → stored (other s) o a bytes ≡ other (stored s o a bytes)
  stored_alike s None a bytes = refl
  stored_alike s (Some r) a bytes = refl

  read_alike : (s : State) (o : Option Region) (a n : ℕ) → bytes_reached (other s) o a n ≡ bytes_reached s o a n
  read_alike s None a n = refl
  read_alike s (Some r) a n = refl

  given_up_alike : (s : State) (class : Class) (o : Option Region) → give_up (other s) class o ≡ other (give_up s class o)
  given_up_alike s class None = refl
  given_up_alike s Copy (Some r) = refl
  given_up_alike s class (Some r) = refl

  output_alike : (s : State) (p : ℕ) (class : Class) (to : Address) (a n : ℕ) (o : Option Region) → give_up (add_transfer (other s) (output_of (other s) p class to a n o)) class o ≡ other (give_up (add_transfer s (output_of s p class to a n o)) class o)
  output_alike s p class to a n None = refl
  output_alike s p class to a n (Some r) = given_up_alike (add_transfer s (output_of s p class to a n (Some r))) class (Some r)

  weak_alike : (s : State) (p : ℕ) (to : Address) (n : ℕ) (o : Option ℕ) → add_transfer (weak_buffer (other s) p n o) (input_of (other s) p WeakMove to n None (number_or_fresh (other s) o) 0) ≡ other (add_transfer (weak_buffer s p n o) (input_of s p WeakMove to n None (number_or_fresh s o) 0))
  weak_alike s p to n None = rw (fresh_alike s) refl
  weak_alike s p to n (Some k) = refl

  input_alike : (s : State) (p : ℕ) (class : Class) (to : Address) (a : Option ℕ) (n : ℕ) → Alike (input (other s) p class to a n) (input s p class to a n)
  input_alike s p Copy to a n = refl
  input_alike s p Share to a n = refl
  input_alike s p Move to a n = rw (fresh_alike s) refl
  input_alike s p WeakMove to a n = ap (λ (t : State). (t, reply.Id s.next)) (weak_alike s p to n (reusable s p (pages_for s n)))

  send_alike : (s : State) (d n : ℕ) (o : Option Transfer) → Alike (send_next (other s) d n o) (send_next s d n o)
  send_alike s d n None = refl
  send_alike s d n (Some t) = choice (must_stage s d t) _ _ _ _ refl refl

  deliver_alike : (s : State) (g : Datagram) (truncated : Bool) (k : ℕ) (o : Option ℕ) → Alike (deliver (other s) g truncated k o) (deliver s g truncated k o)
  deliver_alike s g truncated k None = refl
  deliver_alike s g truncated k (Some t) = refl

  complete_alike : (s : State) (d : ℕ) (g : Datagram) (truncated : Bool) (k : ℕ) (fate : Fate) → Alike (complete (other s) d g truncated k fate) (complete s d g truncated k fate)
  complete_alike s d g truncated k Skipped = refl
  complete_alike s d g truncated k (Matched t) = refl
  complete_alike s d g truncated k Gathering = deliver_alike s g truncated k (first_posted s d g.port g.flow)

  go_on_alike : (s : State) (d : ℕ) (v : Device) (g : Datagram) (k : ℕ) → Alike (go_on (other s) d v g k) (go_on s d v g k)
  go_on_alike s d v g k =
      let ended : State = set_device s d (record v { present = None }) in
      choice (k == 0) _ _ _ _ (complete_alike ended d g true 0 g.fate) (choice (g.moved == g.len) _ _ _ _ (complete_alike ended d g false k g.fate) refl)

  landed_alike : (s : State) (t : Transfer) (x : ℕ) (bytes : List ℕ) (r : Option ℕ) → landed (other s) t x bytes r ≡ other (landed s t x bytes r)
  landed_alike s t x bytes None = refl
  landed_alike s t x bytes (Some r) = refl

  land_in_alike : (s : State) (x : ℕ) (bytes : List ℕ) (o : Option Transfer) → land_in (other s) x bytes o ≡ other (land_in s x bytes o)
  land_in_alike s x bytes None = refl
  land_in_alike s x bytes (Some t) = ap (λ (u : State). change_transfer u t.number (after_receiving x bytes)) (landed_alike s t x bytes (landing t))

  land_alike : (s : State) (x : ℕ) (bytes : List ℕ) (fate : Fate) → land (other s) x bytes fate ≡ other (land s x bytes fate)
  land_alike s x bytes (Matched t) = land_in_alike s x bytes (pending s t)
  land_alike s x bytes fate = refl

  payload_alike : (s : State) (d : ℕ) (v : Device) (g : Datagram) (h b : ℕ) → Alike (take_payload (other s) d v g h b) (take_payload s d v g h b)
  payload_alike s d v g h b =
      let bytes : List ℕ = take b v.rest in
      let after : Device = record v { rest = drop b v.rest } in
      ap (λ (t : State). go_on t d after (after_bytes bytes g) (h + b)) (land_alike s g.moved bytes g.fate) ∙ go_on_alike (land s g.moved bytes g.fate) d after (after_bytes bytes g) (h + b)

  match_alike : (s : State) (d left : ℕ) (v : Device) (header : List ℕ) (h : ℕ) (o : Option ℕ) → Alike (match_header (other s) d left v header h o) (match_header s d left v header h o)
  match_alike s d left v header h None = refl
  match_alike s d left v header h (Some t) = payload_alike (change_transfer s t (with_phase Moving)) d v (datagram header (Matched t)) h _

  begin_alike : (s : State) (d left : ℕ) (v : Device) (header : List ℕ) (h : ℕ) → Alike (begin_datagram (other s) d left v header h) (begin_datagram s d left v header h)
  begin_alike s d left v header h = choice (is_early v.kind) _ _ _ _ (match_alike s d left v header h (first_posted s d (port_in header) (flow_in header))) (payload_alike s d v (datagram header Gathering) h _)

  read_header_alike : (s : State) (d left : ℕ) (v : Device) (header : List ℕ) (h : ℕ) → Alike (read_header (other s) d left v header h) (read_header s d left v header h)
  read_header_alike s d left v header h = choice (is_valid_header (most v.kind s.config.page) header) _ _ _ _ (begin_alike s d left (record v { header = [] }) header h) refl

  take_alike : (s : State) (d n : ℕ) (v : Device) (h : ℕ) → Alike (take_header (other s) d n v h) (take_header s d n v h)
  take_alike s d n v h =
      let header : List ℕ = v.header ++ take h v.rest in
      choice (is_whole_header header) _ _ _ _ (read_header_alike s d _ (record v { rest = drop h v.rest; header = header }) header h) refl

  record_alike : (s : State) (d n : ℕ) (v : Device) (o : Option Datagram) → Alike (receive_record (other s) d n v o) (receive_record s d n v o)
  record_alike s d n v None = take_alike s d n v (header_taken n v.header v.rest)
  record_alike s d n v (Some g) = payload_alike s d v g 0 _

  receive_alike : (s : State) (d n : ℕ) (o : Option Device) → Alike (receive (other s) d n o) (receive s d n o)
  receive_alike s d n None = refl
  receive_alike s d n (Some v) = choice v.is_bad _ _ _ _ refl (choice (is_busy s d v) _ _ _ _ refl (record_alike s d n v v.present))

  landing_alike : (s : State) (t : Transfer) (r : Region) → after_landing (other s) t r ≡ other (after_landing s t r)
  landing_alike s t r = state_choice (is_early_at s t.device) _ _ s (put s r.number t.offset t.payload) refl refl

  copy_alike : (s : State) (t : Transfer) (o : Option Region) → Alike (finish_copy (other s) t o) (finish_copy s t o)
  copy_alike s t None = refl
  copy_alike s t (Some r) = refl

  move_alike : (s : State) (t : Transfer) (o : Option Region) → Alike (finish_move (other s) t o) (finish_move s t o)
  move_alike s t None = refl
  move_alike s t (Some r) = refl

  share_alike : (s : State) (t : Transfer) (o : Option Region) → Alike (finish_share (other s) t o) (finish_share s t o)
  share_alike s t None = refl
  share_alike s t (Some r) = ap (λ (u : State). (u, reply.Input None t.stored t.note)) (landing_alike s t r)

  weak_move_alike : (s : State) (t : Transfer) (o : Option Region) → Alike (finish_weak_move (other s) t o) (finish_weak_move s t o)
  weak_move_alike s t None = refl
  weak_move_alike s t (Some r) = ap (λ (u : State). (change_region u r.number (with_state Live), reply.Input (Some (address_of s r)) t.stored t.note)) (landing_alike s t r)

  finish_input_alike : (s : State) (p : ℕ) (t : Transfer) (class : Class) → Alike (finish_input (other s) p t class) (finish_input s p t class)
  finish_input_alike s p t Copy = copy_alike s t (write_reach_of s p (address_or_zero t.addr) t.len)
  finish_input_alike s p t Share = share_alike s t (region_of s t)
  finish_input_alike s p t Move = move_alike s t (region_of s t)
  finish_input_alike s p t WeakMove = weak_move_alike s t (region_of s t)

  finish_owned_alike : (s : State) (p : ℕ) (t : Transfer) (direction : Direction) → Alike (finish_owned (other s) p t direction) (finish_owned s p t direction)
  finish_owned_alike s p t Outward = refl
  finish_owned_alike s p t Inward = finish_input_alike s p t t.class

  finish_for_alike : (s : State) (t : Transfer) (o : Option ℕ) → Alike (finish_for (other s) t o) (finish_for s t o)
  finish_for_alike s t None = refl
  finish_for_alike s t (Some p) = finish_owned_alike s p t t.direction

  finish_alike : (s : State) (k : ℕ) (o : Option Transfer) → Alike (finish_found (other s) k o) (finish_found s k o)
  finish_alike s k None = refl
  finish_alike s k (Some t) = finish_for_alike (without_transfer s k) t t.owner

  abbrev okay : State → Outcome
  okay s = (s, reply.Okay)

  cancel_alike : (s : State) (k : ℕ) (o : Option Transfer) → Alike (cancel_found (other s) k o) (cancel_found s k o)
  cancel_alike s k None = refl
  cancel_alike s k (Some t) = ap okay (given_up_alike (without_transfer s k) t.class (region_of (without_transfer s k) t))

  perform_alike : (s : State) (e : Event) → Alike (perform (other s) e) (perform s e)
  perform_alike s (Fork p q) = ap okay (copies_alike (spawned s q) q (accessible (regions_at s p)))
  perform_alike s (Map p g n) = rw (fresh_alike s) refl
  perform_alike s (Alloc p n) = rw (fresh_alike s) refl
  perform_alike s (Unmap p g) = ap okay (remove_alike s (region_from s p g))
  perform_alike s (Protect p g writable) = ap okay (protect_alike s (region_from s p g) writable)
  perform_alike s (Read p a n) = ap (λ (bytes : List ℕ). (other s, reply.Bytes bytes)) (read_alike s (reach_of s p a n) a n)
  perform_alike s (Write p a bytes) = ap okay (stored_alike s _ a bytes)
  perform_alike s (Output p sem d port flow a n) = ap (λ (t : State). (t, reply.Id s.next)) (output_alike s p (class_of sem) (record { device = d; port = port; flow = flow }) a n (reach_of s p a n))
  perform_alike s (Input p sem d port flow a n) = input_alike s p (class_of sem) _ a n
  perform_alike s (Send d n) = send_alike s d n (first_queued s d)
  perform_alike s (Recv d n) = receive_alike s d n (entry s.devices d)
  perform_alike s (Finish k) = finish_alike s k (pending s k)
  perform_alike s (Cancel k) = cancel_alike s k (pending s k)
  perform_alike s e = refl

  accept_alike : (s : State) (e : Event) → Alike (accept (other s) e) (accept s e)
  accept_alike s e = ap tidied (perform_alike s e)

  failed_alike : (s : State) (e : Event) (k : ℕ) → Alike (failed (other s) e k) (failed s e k)
  failed_alike s e k = ap (λ (t : State). (t, reply.Fault k)) (state_choice (k == 0) _ _ s (accept s (with_budget e k)).0 refl (ap (λ (o : Outcome). o.0) (accept_alike s (with_budget e k))))

  marked_alike : (s : State) (e : Event) (m : Mark) → Alike (marked (other s) e m) (marked s e m)
  marked_alike s e mark.NoFault = accept_alike s e
  marked_alike s e mark.Store = choice (uses_store e) _ _ _ _ refl (accept_alike s e)
  marked_alike s e (mark.Device k) = choice (may_fail s e k) _ _ _ _ (failed_alike s e k) (accept_alike s e)

  answer_alike : (s : State) (e : Event) (m : Mark) (o : Option Refusal) → Alike (answer (other s) e m o) (answer s e m o)
  answer_alike s e m None = marked_alike s e m
  answer_alike s e m (Some refusal) = refl

refuse_alike : (out back : ℕ) (s : State) (e : Event) → refuse (with_thresholds out back s) e ≡ refuse s e
refuse_alike out back s (Spawn p) = refl
refuse_alike out back s e = refl

pub thresholds_step_alike : ThresholdsStepAlike
thresholds_step_alike out back s e m = ap (answer (with_thresholds out back s) e m) (refuse_alike out back s e) ∙ answer_alike out back s e m (refuse s e)
