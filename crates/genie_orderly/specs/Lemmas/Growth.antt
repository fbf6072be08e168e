-- Devices stay what they are; what a step adds to what was sent, and which mark its reply shows.
use Rattle.std.proofs.Common.{◌≡◌, ℕ, ◌+◌, ◌≤◌, List, [], ◌++◌, append-nil, refl, sym, ap, ◌∙◌, arith, subst}
use Rattle.std.specs.Prelude.{Option, Some, None}
use Rattle.genie_base.specs.Events.{mark_of}
use Rattle.genie_base.specs.Transfers.{class_of}
use Rattle.genie_base.specs.declared.event.Event.{Event}
use Rattle.genie_base.specs.declared.event.Event.TheVariants.{Fork, Unmap, Protect, Write, Output, Input, Send, Recv, Finish, Cancel}
use Rattle.genie_base.specs.declared.refusal.Refusal.{Refusal}
use Rattle.genie_base.specs.declared.reply.Mark.TheVariants as mark
use Rattle.genie_model.specs.Sending.{sent_by, sent_of}
use Rattle.genie_orderly.specs.Steps.{Grows, StepsGrow, PlainStepsShowNoFault, Stays}
use Rattle.genie_orderly.specs.Orderly.{shape_of, DevicesAreConfigs}
use Rattle.genie_model.specs.Refusing.{refuse}
use Rattle.genie_model.specs.State.{State, Transfer, Device}
use Rattle.genie_model.specs.Tables.{entry}
use Rattle.genie_model.specs.Regions.{reach_of, regions_at}
use Rattle.genie_model.specs.Pending.{first_queued, pending, add_transfer}
use Rattle.genie_model.specs.Space.{region_from, spawned, accessible}
use Rattle.genie_model.specs.Sending.{change_device, with_sent, next_part, send_count, must_stage, send_next}
use Rattle.genie_model.specs.Ending.{finish_found, cancel_found, without_transfer, region_of}
use Rattle.genie_model.specs.Step.{answer, accept, perform}
use Rattle.genie_orderly.specs.Lemmas.KeptCalls.{call_of, with_call, accept_did, steps_keep_config}
use Rattle.genie_orderly.specs.Lemmas.KeptSent.{table_shapes, recv_quiet}
use Rattle.genie_model.specs.Lemmas.ReceiveSteps.{choice}
use Rattle.genie_model.specs.Lemmas.OnlyRegions.{SameBut, copies_like, remove_like, protect_like, stored_like, given_up_like, buffer_like, finish_for_like}
use Rattle.genie_model.specs.Lemmas.Lists.{entry_set}
use Rattle.genie_model.specs.Lemmas.Steps.{step_so}

-- devices keep their shapes, and what was sent is added to
record Adds (old new : List (Option Device)) : Type 0 where
  devices : (d : ℕ) → shape_of (entry new d) ≡ shape_of (entry old d)
  sent : (d : ℕ) → (more : List ℕ) × (sent_by (entry new d) ≡ sent_by (entry old d) ++ more)

none : (devices : List (Option Device)) → Adds devices devices
none devices = record { devices = λ d. refl; sent = λ d. ([], sym (append-nil (sent_by (entry devices d)))) }

aside : (s t : State) → SameBut s t → Adds s.devices t.devices
aside s t e = subst (Adds s.devices) (sym (ap (λ (x : State). x.devices) e)) (none s.devices)

device_sent : (bytes : List ℕ) (x : Option Device) → (more : List ℕ) × (sent_by (change_device (with_sent bytes) x) ≡ sent_by x ++ more)
device_sent bytes None = ([], refl)
device_sent bytes (Some v) = (bytes, refl)

device_shape : (bytes : List ℕ) (x : Option Device) → shape_of (change_device (with_sent bytes) x) ≡ shape_of x
device_shape bytes None = refl
device_shape bytes (Some v) = refl

send_adds : (s : State) (d n : ℕ) (o : Option Transfer) → Adds s.devices (send_next s d n o).0.devices
send_adds s d n None = none s.devices
send_adds s d n (Some t) =
    let bytes : List ℕ = next_part s (send_count n t) t in
    let sent : Option Device = change_device (with_sent bytes) (entry s.devices d) in
    choice (λ (x : State). Adds s.devices x.devices) (must_stage s d t) _ _ (none s.devices) (record {
      devices = λ k. table_shapes (with_sent bytes) s.devices d k (device_shape bytes (entry s.devices d));
      sent = λ k. entry_set (λ (o : Option Device). (more : List ℕ) × (sent_by o ≡ sent_by (entry s.devices k) ++ more)) s.devices d k sent ([], sym (append-nil (sent_of s k))) (λ e. rw e (device_sent bytes (entry s.devices d)));
    })

finish_adds : (s : State) (k : ℕ) (o : Option Transfer) → Adds s.devices (finish_found s k o).0.devices
finish_adds s k None = none s.devices
finish_adds s k (Some t) = aside (without_transfer s k) _ (finish_for_like (without_transfer s k) t t.owner)

cancel_adds : (s : State) (k : ℕ) (o : Option Transfer) → Adds s.devices (cancel_found s k o).0.devices
cancel_adds s k None = none s.devices
cancel_adds s k (Some t) = aside (without_transfer s k) _ (given_up_like (without_transfer s k) t.class (region_of s t))

perform_adds : (s : State) (e : Event) → Adds s.devices (perform s e).0.devices
perform_adds s (Fork p q) = aside s _ (copies_like (spawned s q) q (accessible (regions_at s p)))
perform_adds s (Unmap p g) = aside s _ (remove_like s (region_from s p g))
perform_adds s (Protect p g writable) = aside s _ (protect_like s (region_from s p g) writable)
perform_adds s (Write p a bytes) = aside s _ (stored_like s _ a bytes)
perform_adds s (Output p sem d port flow a n) = aside (add_transfer s _) _ (given_up_like (add_transfer s _) (class_of sem) (reach_of s p a n))
perform_adds s (Input p sem d port flow a n) = aside s _ (buffer_like s p (class_of sem) n)
perform_adds s (Send d n) = send_adds s d n (first_queued s d)
perform_adds s (Recv d n) = let quiet = recv_quiet s d n in record { devices = quiet.devices; sent = λ k. ([], quiet.sent k ∙ sym (append-nil (sent_of s k))) }
perform_adds s (Finish k) = finish_adds s k (pending s k)
perform_adds s (Cancel k) = cancel_adds s k (pending s k)
perform_adds s e = none s.devices

call_next : (s : State) (c : Option Transfer) → (s.next ≤ (with_call s c).next) × ((with_call s c).next ≤ s.next + 1)
call_next s None = (omega arith, omega arith)
call_next s (Some t) = (omega arith, omega arith)

accept_grows : (s : State) (e : Event) → Grows s (accept s e).0
accept_grows s e =
    let adds = perform_adds s e in
    let next = (accept_did s e).keeps.next in
    let call = call_next s (call_of s e) in
    record { devices = adds.devices; sent = adds.sent; least = omega (arith, next, call.0); next = omega (arith, next, call.1) }

pub steps_grow : StepsGrow
steps_grow s e m = step_so (Grows s) s (record { devices = λ d. refl; sent = λ d. ([], sym (append-nil (sent_of s d))); least = omega arith; next = omega arith }) (accept_grows s) e m

pub devices_are_configs : Stays DevicesAreConfigs
devices_are_configs s e m whole o d = let same = steps_keep_config s e m in (steps_grow s e m).devices d ∙ rw same (o.devices d)

answer_shows : (s : State) (e : Event) (o : Option Refusal) → mark_of (answer s e mark.NoFault o).1 ≡ mark.NoFault
answer_shows s e None = (accept_did s e).shows
answer_shows s e (Some refusal) = refl

pub plain_steps_show_no_fault : PlainStepsShowNoFault
plain_steps_show_no_fault s e = answer_shows s e (refuse s e)
