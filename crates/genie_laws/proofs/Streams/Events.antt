-- What each event leaves of the records that a device has taken.
use Rattle.std.proofs.Common.{◌≡◌, ◌≢◌, ⊎_elim, ℕ, ◌+◌, ◌<◌, ◌≤◌, Bool, true, false, List, [], ◌∷◌, ◌++◌, map, filter, get_or, All, append-nil, refl, sym, ap, subst, ◌∙◌, true≢false, ne_eqb, slice_set, arith, length}
use Rattle.std.specs.Prelude.{Option, Some, None, IfSome, IsTrue, ⊤, not, ◌==◌, if◌then◌else◌}
use Rattle.std.proofs.lemmas.Bool.{cases_eq, cond_both, and_parts}
use Rattle.std.proofs.lemmas.Bool.Decides.{nat_tests}
use Rattle.std.proofs.lemmas.List.Elements.{All-cons, All-head, All-tail, All-map, All-filter, All-push, All-weaker}
use Rattle.genie_base.specs.Posted.{Address}
use Rattle.genie_base.specs.Transfers.{class_of}
use Rattle.genie_base.specs.declared.event.Event.{Event}
use Rattle.genie_base.specs.declared.event.Event.TheVariants.{Fork, Exit, Unmap, Protect, Write, Output, Input, Send, Recv, Finish, Cancel}
use Rattle.genie_base.specs.declared.refusal.Refusal.TheVariants.{Proc}
use Rattle.genie_base.specs.declared.reply.Mark.{Mark}
use Rattle.genie_base.specs.declared.semantics.Class.{Class}
use Rattle.genie_base.specs.declared.semantics.Class.TheVariants.{Copy, Share, Move, WeakMove}
use Rattle.genie_base.specs.declared.semantics.Direction.{Direction}
use Rattle.genie_base.specs.declared.semantics.Direction.TheVariants.{Outward, Inward}
use Rattle.genie_model.specs.declared.phase.Phase.{Phase}
use Rattle.genie_model.specs.declared.phase.Phase.TheVariants.{Queued, Posted, Moving, Ready}
use Rattle.genie_model.specs.State.{State, Transfer, Device}
use Rattle.genie_model.specs.Tables.{change, without, entry}
use Rattle.genie_model.specs.Regions.{regions_at, reach_of}
use Rattle.genie_model.specs.Refusing.{causes, refuse, is_within}
use Rattle.genie_model.specs.Pending.{is_inward, is_queued, is_just, is_numbered, early_device, is_early_at, waits_for, first_queued, pending, add_transfer}
use Rattle.genie_model.specs.Space.{Outcome, exit, tidy, accessible, spawned, region_from, is_move, disowned, is_posted_by}
use Rattle.genie_model.specs.Outputs.{output_of}
use Rattle.genie_model.specs.Inputs.{posted}
use Rattle.genie_model.specs.Sending.{change_device, with_sent, next_part, after_sending, must_stage, send_count, send_next}
use Rattle.genie_model.specs.Receiving.{recv}
use Rattle.genie_model.specs.Ending.{without_transfer, region_of, finish_found, cancel_found}
use Rattle.genie_model.specs.Step.{accept, perform, step, with_budget}
use Rattle.genie_model.specs.Lemmas.Causes.{none_holds}
use Rattle.genie_model.specs.Lemmas.Lists.{entry_set}
use Rattle.genie_model.specs.Lemmas.PendingCalls.{sending_call}
use Rattle.genie_model.specs.Lemmas.ReceiveSteps.{choice}
use Rattle.genie_model.specs.Lemmas.Steps.{outcome_so}
use Rattle.genie_model.specs.Lemmas.OnlyRegions.{SameBut, copies_like, remove_like, protect_like, stored_like, given_up_like, buffer_like, finish_for_like}
use Rattle.genie_orderly.specs.Lemmas.NamingTransfers.{all_without}
use Rattle.genie_orderly.specs.Orderly.{IsOrderly, IsTransfer, has_phase}
use Rattle.genie_laws.specs.Streams.{Taken, Reads, HasFront, HasGot, WentElsewhere, HasBytes, IsServed, HasTaken}
use Rattle.genie_laws.proofs.Streams.ReceiveSteps.{recv_so}

later_call : (n m : ℕ) → n ≤ m → (o : Option ℕ) → IfSome o (λ k. k < n) → IfSome o (λ k. k < m)
later_call n m le None h = tt
later_call n m le (Some k) h = omega (arith, le, h)

-- an input is the same whoever owns it
module _ (early : Bool) (taken : List Taken) (header payload : List ℕ) (t : Transfer) (owner region : Option ℕ) where
  front_owned : (header payload : List ℕ) → HasFront early t header payload → HasFront early (record t { owner = owner; region = region }) header payload
  front_owned header payload f = record { port = f.port; flow = f.flow; stored = f.stored; bytes = f.bytes }

  got_owned : (r : Taken) → HasGot early t r → HasGot early (record t { owner = owner; region = region }) r
  got_owned r g = record { input = g.input; front = front_owned r.header r.payload g.front; note = g.note }

  bytes_owned : (phase : Phase) → HasBytes early taken header payload t phase → HasBytes early taken header payload (record t { owner = owner; region = region }) phase
  bytes_owned Queued h = h
  bytes_owned Posted h = h
  bytes_owned Moving h = (front_owned header payload h.0, h.1)
  bytes_owned Ready h = (h.0, h.1, h.2, h.3, got_owned h.1 h.4)

not_queued : (direction : Direction) (phase : Phase) → IsTrue (has_phase direction phase) → is_queued phase ≡ true → is_inward direction ≡ true → ⊥
not_queued Outward phase h q i = true≢false (sym i)
not_queued Inward Queued h q i = true≢false (sym h)
not_queued Inward Posted h q i = true≢false (sym q)
not_queued Inward Moving h q i = true≢false (sym q)
not_queued Inward Ready h q i = true≢false (sym q)

changed_first : (P R : Transfer → Type 0) (p : Transfer → Bool) (f : Transfer → Transfer) → ((t : Transfer) → p t ≡ true → R t → P (f t)) → (ts : List Transfer) → All R ts → All P ts → All P (change p f ts)
changed_first P R p f new [] r h = h
changed_first P R p f new (t ∷ ts) r h = cond_both (p t) (f t ∷ ts) (t ∷ change p f ts) (All P) (λ y. All-cons P (f t) ts (new t y (All-head R t ts r)) (All-tail P t ts h)) (λ _. All-cons P t (change p f ts) (All-head P t ts h) (changed_first P R p f new ts (All-tail R t ts r) (All-tail P t ts h)))

module _ (stream : List ℕ) (d : ℕ) (taken : List Taken) where
  abbrev Takes : State → Type 0
  Takes s = HasTaken stream d taken s

  alike : (t u : State) → SameBut t u → Takes t → Takes u
  alike t u e h = subst Takes (sym e) (record { header = h.header; payload = h.payload; device = h.device; calls = h.calls; apart = h.apart; inputs = h.inputs })

  -- other transfers are pending
  left : (s : State) (transfers : List Transfer) (n : ℕ) (h : Takes s) → s.next ≤ n → All (IsServed (is_early_at s d) taken h.header h.payload d) transfers → Takes (record s { transfers = transfers; next = n })
  left s transfers n h least all = record { header = h.header; payload = h.payload; device = h.device; calls = λ i c lt. later_call s.next n least (get_or taken i c).input (h.calls i c lt); apart = h.apart; inputs = all }

  after_exit : (s : State) (p : ℕ) → Takes s → Takes (exit s p).0
  after_exit s p h =
      let stays : Transfer → Bool = λ t. not (is_posted_by p t) in
      let rest : List Transfer = filter stays s.transfers in
      let Served : Transfer → Type 0 = IsServed (is_early_at s d) taken h.header h.payload d in
      alike (record s { transfers = map (disowned p) rest }) (exit s p).0 refl (left s (map (disowned p) rest) s.next h (omega arith)
      (All-map Served (disowned p) rest (All-weaker Served (λ t. Served (disowned p t)) (λ t old.
      cond_both (is_just t.owner p) (record t { owner = None; region = if is_move t.class then None else t.region }) t Served (λ _ i at. bytes_owned (is_early_at s d) taken h.header h.payload t None (if is_move t.class then None else t.region) t.phase (old i at)) (λ _. old))
      rest (All-filter stays Served s.transfers h.inputs))))

  after_call : (s : State) (t : Transfer) (h : Takes s) → IsServed (is_early_at s d) taken h.header h.payload d t → Takes (add_transfer s t)
  after_call s t h new = left s (s.transfers ++ t ∷ []) (s.next + 1) h (omega arith) (All-push (IsServed (is_early_at s d) taken h.header h.payload d) s.transfers t h.inputs new)

  new_input : (s : State) (h : Takes s) (p : ℕ) (class : Class) (to : Address) (a : Option ℕ) (n : ℕ) → IsServed (is_early_at s d) taken h.header h.payload d (posted s p class to a n)
  new_input s h p class to a n = by_class class
    where
      fresh : WentElsewhere taken s.next
      fresh i c lt e = let less : s.next < s.next = subst (λ x. IfSome x (λ k. k < s.next)) e (h.calls i c lt) in omega (arith, less)

      by_class : (class : Class) → IsServed (is_early_at s d) taken h.header h.payload d (posted s p class to a n)
      by_class Copy i at = (refl, refl, fresh)
      by_class Share i at = (refl, refl, fresh)
      by_class Move i at = (refl, refl, fresh)
      by_class WeakMove i at = (refl, refl, fresh)

  -- the first output that waits for a device is changed
  after_change : (s : State) (dev : ℕ) (f : Transfer → Transfer) → ((t : Transfer) → (f t).direction ≡ t.direction) → All IsTransfer s.transfers → Takes s → Takes (record s { transfers = change (waits_for dev) f s.transfers })
  after_change s dev f same calls h =
      let Served : Transfer → Type 0 = IsServed (is_early_at s d) taken h.header h.payload d in
      let Out : Transfer → Type 0 = λ t. is_queued t.phase ≡ true → is_inward t.direction ≡ true → ⊥ in
      left s (change (waits_for dev) f s.transfers) s.next h (omega arith)
      (changed_first Served Out (waits_for dev) f (λ t waits out i at. absurd (out (and_parts (is_queued t.phase) (t.device == dev) waits).0 (ap is_inward (sym (same t)) ∙ i))) s.transfers (λ i c lt. let t = get_or s.transfers i c in not_queued t.direction t.phase (calls i c lt).phase) h.inputs)

  sent_device : (header payload bytes : List ℕ) (v : Option Device) → (IfSome v (Reads stream taken header payload) → IfSome (change_device (with_sent bytes) v) (Reads stream taken header payload)) × (early_device (change_device (with_sent bytes) v) ≡ early_device v)
  sent_device header payload bytes None = (λ h. h, refl)
  sent_device header payload bytes (Some v) = (λ h. h, refl)

  after_sent : (s : State) (dev : ℕ) (bytes : List ℕ) → Takes s → Takes (record s { devices = slice_set s.devices dev (change_device (with_sent bytes) (entry s.devices dev)) })
  after_sent s dev bytes h =
      let new : Option Device = change_device (with_sent bytes) (entry s.devices dev) in
      let same = entry_set (λ x. (IfSome (entry s.devices d) (Reads stream taken h.header h.payload) → IfSome x (Reads stream taken h.header h.payload)) × (early_device x ≡ early_device (entry s.devices d))) s.devices dev d new (λ g. g, refl)
      (λ e. subst (λ i. (IfSome (entry s.devices i) (Reads stream taken h.header h.payload) → IfSome new (Reads stream taken h.header h.payload)) × (early_device new ≡ early_device (entry s.devices i))) (sym e) (sent_device h.header h.payload bytes (entry s.devices dev))) in
      record {
        header = h.header;
        payload = h.payload;
        device = same.0 h.device;
        calls = h.calls;
        apart = h.apart;
        inputs = λ i c lt. subst (λ b. IsServed b taken h.header h.payload d (get_or s.transfers i c)) (sym same.1) (h.inputs i c lt);
      }

  after_send : (s : State) (dev n : ℕ) (o : Option Transfer) → All IsTransfer s.transfers → Takes s → Takes (send_next s dev n o).0
  after_send s dev n None calls h = h
  after_send s dev n (Some t) calls h = choice Takes (must_stage s dev t) _ _ (after_change s dev _ (λ u. refl) calls h)
      (after_sent (record s { transfers = change (waits_for dev) (after_sending (send_count n t)) s.transfers }) dev (next_part s (send_count n t) t)
      (after_change s dev (after_sending (send_count n t)) (λ u. ap (λ (x : Transfer). x.direction) (sending_call (send_count n t) u)) calls h))

  after_end : (s : State) (k : ℕ) → Takes s → Takes (without_transfer s k)
  after_end s k h = left s (without (is_numbered k) s.transfers) s.next h (omega arith) (all_without (IsServed (is_early_at s d) taken h.header h.payload d) (is_numbered k) s.transfers h.inputs)

  after_finish : (s : State) (k : ℕ) (o : Option Transfer) → Takes s → Takes (finish_found s k o).0
  after_finish s k None h = h
  after_finish s k (Some t) h = alike (without_transfer s k) _ (finish_for_like (without_transfer s k) t t.owner) (after_end s k h)

  after_cancel : (s : State) (k : ℕ) (o : Option Transfer) → Takes s → Takes (cancel_found s k o).0
  after_cancel s k None h = h
  after_cancel s k (Some t) h = alike (without_transfer s k) _ (given_up_like (without_transfer s k) t.class (region_of (without_transfer s k) t)) (after_end s k h)

-- records that were taken stay, and one may come to them
abbrev pub Goes : List ℕ → ℕ → List Taken → State → Type 0
Goes stream d taken t = (more : List Taken) × (length more ≤ 1) × HasTaken stream d (taken ++ more) t

pub still : (stream : List ℕ) (d : ℕ) (taken : List Taken) (t : State) → HasTaken stream d taken t → Goes stream d taken t
still stream d taken t h = ([], omega arith, subst (λ l. HasTaken stream d l t) (sym (append-nil taken)) h)

-- a receive step has a budget
abbrev HasBudget : Event → Type 0
HasBudget (Recv d n) = 1 ≤ n
HasBudget _ = ⊤

some_budget : (n : ℕ) → not (is_within 1 65536 n) ≡ false → 1 ≤ n
some_budget n e = grind (arith, nat_tests)

has_budget : (s : State) (e : Event) → refuse s e ≡ None → HasBudget e
has_budget s (Recv d n) none = some_budget n (none_holds (causes s (Recv d n)) none 1 (true, Proc) (omega arith))
has_budget s e none = tt

less_budget : (e : Event) (k : ℕ) → (k == 0) ≡ false → HasBudget e → HasBudget (with_budget e k)
less_budget (Recv d n) k some has = grind (arith, nat_tests, some)
less_budget (Send d n) k some has = tt
less_budget e k some has = has

module _ (inputs : ℕ → List ℕ) (s : State) (o : IsOrderly s) (all : (x : ℕ) → (taken : List Taken) × HasTaken (inputs x) x taken s) (d : ℕ) (taken : List Taken) (h : HasTaken (inputs d) d taken s) where
  abbrev GoesTo : State → Type 0
  GoesTo t = Goes (inputs d) d taken t

  abbrev Served : Transfer → Type 0
  Served = IsServed (is_early_at s d) taken h.header h.payload d

  -- another device takes a record
  recv_other : (dev n : ℕ) → dev ≢ d → 1 ≤ n → HasTaken (inputs d) d taken (recv s dev n).0
  recv_other dev n other some =
      let r = recv_so s dev (inputs dev) Served (all dev).0 o (all dev).1 (λ i c lt _. h.inputs i c lt) n some in
      let same = r.others d (ne_eqb d dev (λ e. other (sym e))) in
      record {
        header = h.header;
        payload = h.payload;
        device = subst (λ x. IfSome x (Reads (inputs d) taken h.header h.payload)) (sym same) h.device;
        calls = subst (λ n. All (λ (r : Taken). IfSome r.input (λ k. k < n)) taken) (sym r.next) h.calls;
        apart = h.apart;
        inputs = λ i c lt inward at. subst (λ b. HasBytes b taken h.header h.payload (get_or (recv s dev n).0.transfers i c) (get_or (recv s dev n).0.transfers i c).phase) (sym (ap early_device same)) (r.other i c lt (λ e. other (sym e ∙ at)) inward at);
      }

  recv_goes : (dev n : ℕ) → 1 ≤ n → GoesTo (recv s dev n).0
  recv_goes dev n some = ⊎_elim
      (λ (e : dev ≡ d). let r = recv_so s d (inputs d) (λ _. ⊤) taken o h (λ i c lt _. tt) n some in subst (λ i. GoesTo (recv s i n).0) (sym e) (r.more, r.few, r.has))
      (λ (other : dev ≢ d). still (inputs d) d taken (recv s dev n).0 (recv_other dev n other some))
      (cases_eq dev d)

  quiet : (t : State) → SameBut s t → GoesTo t
  quiet t e = still (inputs d) d taken t (alike (inputs d) d taken s t e h)

  performed : (e : Event) → HasBudget e → GoesTo (perform s e).0
  performed (Fork p q) some = quiet _ (copies_like (spawned s q) q (accessible (regions_at s p)))
  performed (Exit p) some = still (inputs d) d taken _ (after_exit (inputs d) d taken s p h)
  performed (Unmap p g) some = quiet _ (remove_like s (region_from s p g))
  performed (Protect p g writable) some = quiet _ (protect_like s (region_from s p g) writable)
  performed (Write p a bytes) some = quiet _ (stored_like s _ a bytes)
  performed (Output p sem dev port flow a n) some =
      let to : Address = record { device = dev; port = port; flow = flow } in
      let u : Transfer = output_of s p (class_of sem) to a n (reach_of s p a n) in
      still (inputs d) d taken _ (alike (inputs d) d taken (add_transfer s u) _ (given_up_like (add_transfer s u) (class_of sem) (reach_of s p a n)) (after_call (inputs d) d taken s u h (λ i at. absurd (true≢false (sym i)))))
  performed (Input p sem dev port flow a n) some =
      let to : Address = record { device = dev; port = port; flow = flow } in
      let u : Transfer = posted s p (class_of sem) to a n in
      still (inputs d) d taken _ (alike (inputs d) d taken (add_transfer s u) _ (ap (λ (x : State). add_transfer x u) (buffer_like s p (class_of sem) n)) (after_call (inputs d) d taken s u h (new_input (inputs d) d taken s h p (class_of sem) to a n)))
  performed (Send dev n) some = still (inputs d) d taken _ (after_send (inputs d) d taken s dev n (first_queued s dev) o.calls h)
  performed (Recv dev n) some = recv_goes dev n some
  performed (Finish k) some = still (inputs d) d taken _ (after_finish (inputs d) d taken s k (pending s k) h)
  performed (Cancel k) some = still (inputs d) d taken _ (after_cancel (inputs d) d taken s k (pending s k) h)
  performed e some = quiet (perform s e).0 refl

  accepted : (e : Event) → HasBudget e → GoesTo (accept s e).0
  accepted e some = let r = performed e some in (r.0, r.1, alike (inputs d) d (taken ++ r.0) (perform s e).0 (tidy (perform s e).0) refl r.2)

  -- one step
  pub step_goes : (e : Event) (m : Mark) → GoesTo (step s e m).0
  step_goes e m = outcome_so (λ (x : Outcome). GoesTo x.0) s e (λ _. still (inputs d) d taken s h) (still (inputs d) d taken s h) (λ none. accepted e (has_budget s e none))
      (λ none k _. cond_both (k == 0) s (accept s (with_budget e k)).0 GoesTo (λ _. still (inputs d) d taken s h) (λ some. accepted (with_budget e k) (less_budget e k some (has_budget s e none)))) m
