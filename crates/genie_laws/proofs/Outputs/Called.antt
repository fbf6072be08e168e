-- Each pending output of a device is one of those that were accepted.
use Rattle.std.proofs.Common.{◌≡◌, ℕ, Bool, true, false, List, [], ◌∷◌, ◌++◌, filter, All, append_assoc, refl, sym, ap, subst, ◌∙◌, true≢false, eq-eqb, arith}
use Rattle.std.specs.Prelude.{Option, not, ◌==◌, if◌then◌else◌, None, Some}
use Rattle.std.specs.List.{Any}
use Rattle.std.proofs.lemmas.Bool.{cond_both, cond-true}
use Rattle.std.proofs.lemmas.List.{length-append, get_or_append_left}
use Rattle.std.proofs.lemmas.List.Elements.{All-map, All-filter, All-push, All-weaker}
use Rattle.std.proofs.lemmas.List.Quantifiers.{Any-push}
use Rattle.genie_base.specs.Events.{mark_of}
use Rattle.genie_base.specs.Posted.{Address}
use Rattle.genie_base.specs.Transfers.{class_of}
use Rattle.genie_base.specs.declared.event.Event.{Event}
use Rattle.genie_base.specs.declared.event.Event.TheVariants.{Fork, Exit, Unmap, Protect, Write, Output, Input, Send, Recv, Finish, Cancel}
use Rattle.genie_base.specs.declared.reply.Mark.{Mark}
use Rattle.genie_base.specs.declared.reply.Reply.{Reply}
use Rattle.genie_base.specs.declared.semantics.Class.{Class}
use Rattle.genie_base.specs.declared.semantics.Class.TheVariants.{Copy, Share, Move, WeakMove}
use Rattle.genie_model.specs.State.{State, Transfer}
use Rattle.genie_model.specs.Tables.{change}
use Rattle.genie_model.specs.Regions.{regions_at, reach_of}
use Rattle.genie_model.specs.Pending.{is_inward, is_just, is_numbered, waits_for, first_queued, pending, add_transfer}
use Rattle.genie_model.specs.Space.{Outcome, exit, accessible, spawned, region_from, is_move, disowned, is_posted_by}
use Rattle.genie_model.specs.Outputs.{output_of}
use Rattle.genie_model.specs.Inputs.{posted}
use Rattle.genie_model.specs.Sending.{after_sending, must_stage, send_count, send_next}
use Rattle.genie_model.specs.Ending.{without_transfer, region_of, finish_found, cancel_found}
use Rattle.genie_model.specs.Step.{accept, perform, failed, may_fail, step, Follows}
use Rattle.genie_model.specs.Lemmas.PendingCalls.{KeepsCall, sending_call}
use Rattle.genie_model.specs.Lemmas.ReceiveSteps.{choice, recv_keeps}
use Rattle.genie_model.specs.Lemmas.Steps.{outcome_so}
use Rattle.genie_model.specs.Lemmas.OnlyRegions.{SameBut, copies_like, remove_like, protect_like, stored_like, given_up_like, buffer_like, finish_for_like}
use Rattle.genie_orderly.specs.Lemmas.NamingTransfers.{all_change, all_without}
use Rattle.genie_laws.specs.Integrity.{Accepted, accepted, outputs, states, IsCallOf}

-- where the transfer is an output of device d, one of these is its call
abbrev pub Called : ℕ → List Accepted → Transfer → Type 0
Called d os t = is_inward t.direction ≡ false → t.device ≡ d → Any (IsCallOf t) os

any_more : (P : Accepted → Type 0) (os more : List Accepted) → Any P os → Any P (os ++ more)
any_more P os more h = (h.0, h.1, omega (arith, h.2, length-append os more), get_or_append_left os more h.1 h.0 h.2 ∙ h.3, h.4)

called_more : (d : ℕ) (os more : List Accepted) (ts : List Transfer) → All (Called d os) ts → All (Called d (os ++ more)) ts
called_more d os more ts h = All-weaker (Called d os) (Called d (os ++ more)) (λ t c out at. any_more (IsCallOf t) os more (c out at)) ts h

module _ (d : ℕ) (os : List Accepted) where
  abbrev AreCalled : State → Type 0
  AreCalled s = All (Called d os) s.transfers

  alike : (s t : State) → SameBut s t → AreCalled s → AreCalled t
  alike s t e h = subst AreCalled (sym e) h

  change_called : (p : Transfer → Bool) (f : Transfer → Transfer) → KeepsCall f → (ts : List Transfer) → All (Called d os) ts → All (Called d os) (change p f ts)
  change_called p f call ts h = all_change (Called d os) p f (λ t c. subst (Called d os) (sym (call t)) c) ts h

  after_exit : (s : State) (p : ℕ) → AreCalled s → AreCalled (exit s p).0
  after_exit s p h =
      let rest : List Transfer = filter (λ t. not (is_posted_by p t)) s.transfers in
      All-map (Called d os) (disowned p) rest (All-weaker (Called d os) (λ t. Called d os (disowned p t))
      (λ t c. cond_both (is_just t.owner p) (record t { owner = None; region = if is_move t.class then None else t.region }) t (Called d os) (λ _. c) (λ _. c)) rest (All-filter (λ t. not (is_posted_by p t)) (Called d os) s.transfers h))

  after_send : (s : State) (dev n : ℕ) (o : Option Transfer) → AreCalled s → AreCalled (send_next s dev n o).0
  after_send s dev n None h = h
  after_send s dev n (Some t) h = choice AreCalled (must_stage s dev t) _ _ (change_called (waits_for dev) _ (λ u. refl) s.transfers h) (change_called (waits_for dev) (after_sending (send_count n t)) (sending_call (send_count n t)) s.transfers h)

  after_end : (s : State) (k : ℕ) → AreCalled s → AreCalled (without_transfer s k)
  after_end s k h = all_without (Called d os) (is_numbered k) s.transfers h

  after_finish : (s : State) (k : ℕ) (o : Option Transfer) → AreCalled s → AreCalled (finish_found s k o).0
  after_finish s k None h = h
  after_finish s k (Some t) h = alike (without_transfer s k) _ (finish_for_like (without_transfer s k) t t.owner) (after_end s k h)

  after_cancel : (s : State) (k : ℕ) (o : Option Transfer) → AreCalled s → AreCalled (cancel_found s k o).0
  after_cancel s k None h = h
  after_cancel s k (Some t) h = alike (without_transfer s k) _ (given_up_like (without_transfer s k) t.class (region_of (without_transfer s k) t)) (after_end s k h)

  posted_inward : (s : State) (p : ℕ) (class : Class) (to : Address) (a : Option ℕ) (n : ℕ) → is_inward (posted s p class to a n).direction ≡ true
  posted_inward s p Copy to a n = refl
  posted_inward s p Share to a n = refl
  posted_inward s p Move to a n = refl
  posted_inward s p WeakMove to a n = refl

module _ (d : ℕ) (os : List Accepted) (s : State) (h : All (Called d os) s.transfers) (later : List State) where
  abbrev Now : Event → Outcome → Type 0
  Now e x = All (Called d (os ++ accepted d s e x.1 later)) x.0.transfers

  quiet : (e : Event) (x : Outcome) → SameBut s x.0 → Now e x
  quiet e x same = called_more d os (accepted d s e x.1 later) x.0.transfers (alike d os s x.0 same h)

  kept : (e : Event) (x : Outcome) → All (Called d os) x.0.transfers → Now e x
  kept e x all = called_more d os (accepted d s e x.1 later) x.0.transfers all

  performed : (e : Event) → Now e (perform s e)
  performed (Fork p q) = quiet (Fork p q) (perform s (Fork p q)) (copies_like (spawned s q) q (accessible (regions_at s p)))
  performed (Exit p) = kept (Exit p) (perform s (Exit p)) (after_exit d os s p h)
  performed (Unmap p g) = quiet (Unmap p g) (perform s (Unmap p g)) (remove_like s (region_from s p g))
  performed (Protect p g writable) = quiet (Protect p g writable) (perform s (Protect p g writable)) (protect_like s (region_from s p g) writable)
  performed (Write p a bytes) = quiet (Write p a bytes) (perform s (Write p a bytes)) (stored_like s _ a bytes)
  performed (Output p sem dev port flow a n) =
      let e : Event = Output p sem dev port flow a n in
      let u : Transfer = output_of s p (class_of sem) (record { device = dev; port = port; flow = flow }) a n (reach_of s p a n) in
      let more : List Accepted = accepted d s e (perform s e).1 later in
      alike d (os ++ more) (add_transfer s u) (perform s e).0 (given_up_like (add_transfer s u) (class_of sem) (reach_of s p a n))
      (All-push (Called d (os ++ more)) s.transfers u (called_more d os more s.transfers h) (λ out at.
      subst (λ l. Any (IsCallOf u) (os ++ l)) (sym (cond-true (dev == d) _ _ (eq-eqb dev d at))) (Any-push (IsCallOf u) os _ (refl, refl, refl))))
  performed (Input p sem dev port flow a n) =
      let e : Event = Input p sem dev port flow a n in
      let to : Address = record { device = dev; port = port; flow = flow } in
      let u : Transfer = posted s p (class_of sem) to a n in
      kept e (perform s e) (alike d os (add_transfer s u) (perform s e).0 (ap (λ (x : State). add_transfer x u) (buffer_like s p (class_of sem) n))
      (All-push (Called d os) s.transfers u h (λ out at. absurd (true≢false (sym (posted_inward d os s p (class_of sem) to a n) ∙ out)))))
  performed (Send dev n) = kept (Send dev n) (perform s (Send dev n)) (after_send d os s dev n (first_queued s dev) h)
  performed (Recv dev n) = kept (Recv dev n) (perform s (Recv dev n)) (recv_keeps (AreCalled d os) (λ t e v c. c) (λ t k f call c. change_called d os (is_numbered k) f call t.transfers c) (λ t k x new c. c) s dev n h)
  performed (Finish k) = kept (Finish k) (perform s (Finish k)) (after_finish d os s k (pending s k) h)
  performed (Cancel k) = kept (Cancel k) (perform s (Cancel k)) (after_cancel d os s k (pending s k) h)
  performed e = quiet e (perform s e) refl

  failed_so : (e : Event) (k : ℕ) → may_fail s e k ≡ true → Now e (failed s e k)
  failed_so (Send dev n) k fails = cond_both (k == 0) s (accept s (Send dev k)).0 (λ t. All (Called d (os ++ [])) t.transfers) (λ _. called_more d os [] s.transfers h) (λ _. performed (Send dev k))
  failed_so (Recv dev n) k fails = cond_both (k == 0) s (accept s (Recv dev k)).0 (λ t. All (Called d (os ++ [])) t.transfers) (λ _. called_more d os [] s.transfers h) (λ _. performed (Recv dev k))
  failed_so e k fails = absurd (true≢false (sym fails))

  pub step_called : (e : Event) (m : Mark) → Now e (step s e m)
  step_called e m = outcome_so (Now e) s e (λ w. called_more d os _ s.transfers h) (called_more d os _ s.transfers h) (λ _. performed e) (λ _ k fails. failed_so e k fails) m

pub run_called : (d : ℕ) (before : List Accepted) (s : State) (es : List Event) (rs : List Reply) (last : State) → All (Called d before) s.transfers → Follows s es rs last → All (Called d (before ++ outputs d s es rs)) last.transfers
run_called d before s [] [] last h f = subst (λ (t : State). All (Called d (before ++ [])) t.transfers) f (called_more d before [] s.transfers h)
run_called d before s (e ∷ es) (r ∷ rs) last h f =
    let t : State = (step s e (mark_of r)).0 in
    let now : List Accepted = accepted d s e r (states t es rs) in
    let next = subst (λ x. All (Called d (before ++ accepted d s e x (states t es rs))) t.transfers) f.0 (step_called d before s h (states t es rs) e (mark_of r)) in
    subst (λ l. All (Called d l) last.transfers) (append_assoc before now (outputs d t es rs)) (run_called d (before ++ now) t es rs last next f.1)
run_called d before s [] (r ∷ rs) last h f = absurd f
run_called d before s (e ∷ es) [] last h f = absurd f
