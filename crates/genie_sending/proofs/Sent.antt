-- What a step that sends leaves.
use Rattle.std.proofs.Common.{◌≡◌, ◌≢◌, ℕ, ◌+◌, ◌<◌, ◌≤◌, Bool, true, false, List, [], refl, sym, ap, subst, arith, ◌∙◌, length, eq-eqb}
use Rattle.std.specs.Prelude.{Option, Some, None, IfSome, min}
use Rattle.genie_base.specs.Bytes.{part}
use Rattle.genie_base.specs.Events.{mark_of}
use Rattle.genie_base.specs.Records.{header_len, record_bytes, unsent_bytes}
use Rattle.genie_base.specs.declared.event.Event.TheVariants.{Send}
use Rattle.genie_device.specs.Device.{DeviceView, SendsRecord, handle_of, is_outboard as is_outboard_kind, stages, after_send}
use Rattle.genie_device.specs.Sending.{EndsSend, payload_of as sent_from}
use Rattle.genie_device.specs.declared.steps.SendStep.{SendStep}
use Rattle.genie_host.specs.Host.{HostView}
use Rattle.genie_store.specs.StoreView.{StoreView}
use Rattle.genie_orderly.specs.Orderly.{IsOrderly}
use Rattle.genie_model.specs.Refusing.{refuse}
use Rattle.genie_model.specs.Sending.{next_part}
use Rattle.genie_model.specs.Tables.{entry}
use Rattle.genie_kernel.specs.declared.kernel.Kernel.{Kernel}
use Rattle.genie_kernel.specs.declared.transfer.Transfer.{Transfer}
use Rattle.genie_kernel.specs.Good.{IsGood}
use Rattle.genie_kernel.specs.Matching.{IsSending, IsSendingFor}
use Rattle.genie_kernel.specs.Steps.{DeviceCause, Steps, StepsTold, bytes_over}
use Rattle.genie_kernel.specs.Told.{output_at}
use Rattle.genie_kernel.specs.View.{Bytes, no_bytes, outline, state_of, view}
use Rattle.genie_kernel.specs.Handles.{HasHandles}
use Rattle.genie_kernel.specs.Lemmas.DeviceViews.{rests_blind}
use Rattle.genie_sending.specs.Sending.{IsLentOut, header_for, payload_under, reply_of, transfers_after}
use Rattle.genie_sending.specs.WorkLaws.{WorkLaws}
use Rattle.genie_sending.proofs.Apart.{inputs_differ, output_here, outputs_differ, no_input}
use Rattle.genie_sending.proofs.Devices.{more_at, more_sent, with_output}
use Rattle.genie_sending.proofs.Good.{going_rest, ended_rest, good_with}
use Rattle.genie_sending.proofs.Moves.{after_step, moved_cause, moved_steps}
use Rattle.genie_sending.proofs.Outputs.{IsFirstOutput, sending_view}
use Rattle.genie_sending.proofs.Payload.{ShowsNow, part_shown}
use Rattle.genie_sending.proofs.Telling.{filled_steps, told_steps}
use Rattle.genie_changes.specs.Filling.{StepsFilled}

moved_within : (faulted : Bool) (budget m before now : ℕ) → EndsSend faulted budget m before now → m ≤ budget
moved_within true budget m before now h = let l = h.1 in omega (arith, l)
moved_within false budget m before now h = let e = h.1 in omega (arith, e)

header_some : (flow : Option ℕ) → 0 < header_len flow
header_some None = omega arith
header_some (Some f) = omega arith

-- a device that has staged and sent nothing may begin any record
idle_sends : (v : DeviceView) (o : Option Transfer) → IsSending (with_output [] 0 v) o
idle_sends v None = record { unstaged = refl; unsent = refl }
idle_sends v (Some u) = let some = header_some u.flow in record { unsent = omega (arith, some); staged = omega arith; memory = λ e. refl }

-- what is left of the inputs and was sent is no matter of the outline
pub outline_orderly : (k : Kernel) (d : ℕ) (new : List ℕ) → IsOrderly (state_of k (more_sent (no_bytes k.config.page) d new)) → IsOrderly (outline k)
outline_orderly k d new o = rests_blind k (no_bytes k.config.page).seen (λ j. []) (λ j. []) (more_at (λ j. []) d new) (λ j. []) o

-- each slot that the memory has is told with a page of bytes
abbrev pub AreFull : Kernel → (ℕ → List ℕ) → Type 0
AreFull k slots = (s : ℕ) → s < length k.memory.slots → length (slots s) ≡ k.memory.frames.page

module _ (laws : WorkLaws) (k : Kernel) (g : IsGood k) (d n : ℕ) (accepted : refuse (outline k) (Send d n) ≡ None) (t : Transfer) (is : IsFirstOutput k.transfers d t) (v w : DeviceView) (there : entry k.devices d ≡ Some v) (goes : IsSendingFor v t) (step : SendStep) (before after : HostView) (no_stage : step.staged ≡ false) (stages_none : stages v.config.kind v.staged t.len ≡ false) (h : SendsRecord n before after v w (header_for t) (payload_under k.memory.frames t.loans) step) where
  abbrev handle : ℕ
  handle = handle_of v.config.output

  abbrev then_is : Kernel
  then_is = after_step k d w step.whole t

  abbrev next_of : Bytes → List ℕ
  next_of b = next_part (state_of k b) step.moved (sending_view b.seen.kept_bytes t v)

  steps : (b : Bytes) → Steps (state_of k b) (Send d n) (state_of then_is (more_sent b d (next_of b))) (reply_of step)
  steps b = moved_steps laws k g d t is v there goes stages_none n step.moved w step (before.handle handle).faults (after.handle handle).faults no_stage refl h.whole h.device h.sends.ends b

  orderly : IsOrderly (outline then_is)
  orderly = outline_orderly then_is d (next_of (no_bytes k.config.page)) (laws.orderly (outline k) (state_of then_is (more_sent (no_bytes k.config.page) d (next_of (no_bytes k.config.page)))) (Send d n) (reply_of step) refl accepted (steps (no_bytes k.config.page)) g.orderly)

  good_by : (whole : Bool) → step.whole ≡ whole → IsGood (after_step k d w whole t)
  good_by true e =
      let is_w : w ≡ with_output [] 0 v = h.device ∙ ap (λ c. after_send step.moved c v) e in
      let o : IsOrderly (outline (after_step k d w true t)) = subst (λ c. IsOrderly (outline (after_step k d w c t))) e orderly in
      subst (λ z. IsGood (after_step k d z true t)) (sym is_w) (good_with k g d t is v there [] 0 (transfers_after true t k.transfers) (ended_rest k g d t is v there [] 0 laws (idle_sends v)) (subst (λ z. IsOrderly (outline (after_step k d z true t))) is_w o))
  good_by false e =
      let is_w : w ≡ with_output v.staged (v.sent + step.moved) v = h.device ∙ ap (λ c. after_send step.moved c v) e in
      let o : IsOrderly (outline (after_step k d w false t)) = subst (λ c. IsOrderly (outline (after_step k d w c t))) e orderly in
      let most = moved_within step.faulted (min n (unsent_bytes t.flow t.len v.sent)) step.moved (before.handle handle).faults (after.handle handle).faults h.sends.ends in
      let less = goes.unsent in
      let other : v.sent + step.moved ≢ header_len t.flow + t.len = λ same. let never : true ≡ false = sym (h.whole ∙ eq-eqb (v.sent + step.moved) (header_len t.flow + t.len) same) ∙ e in absurd (cc) in
      let still : IsSendingFor (with_output v.staged (v.sent + step.moved) v) t = record { unsent = omega (arith, most, less, other); staged = goes.staged; memory = goes.memory } in
      subst (λ z. IsGood (after_step k d z false t)) (sym is_w) (good_with k g d t is v there v.staged (v.sent + step.moved) k.transfers (going_rest k g d t is v there v.staged (v.sent + step.moved) still) (subst (λ z. IsOrderly (outline (after_step k d z false t))) is_w o))

  pub sent_good : IsGood then_is
  sent_good = good_by step.whole refl

  pub sent_cause : DeviceCause (mark_of (reply_of step)) (before.handle handle).faults (after.handle handle).faults
  sent_cause = moved_cause step (min n (unsent_bytes t.flow t.len v.sent)) step.moved (before.handle handle).faults (after.handle handle).faults no_stage h.sends.ends

  module _ (handles : HasHandles k.config before) (named : output_at (entry k.config.devices d) ≡ Some handle) (lent : IsLentOut k.memory.frames t.len t.loans) (shows : (slots : ℕ → List ℕ) → AreFull k slots → ShowsNow k t slots) where
    abbrev new_bytes : List ℕ
    new_bytes = part v.sent step.moved (record_bytes t.port t.flow (sent_from (is_outboard_kind v.config.kind) v.staged (payload_under k.memory.frames t.loans)))

    real_steps : (slots : ℕ → List ℕ) → AreFull k slots → (rests sents : ℕ → List ℕ) → Steps (state_of k (bytes_over k.memory slots rests sents)) (Send d n) (state_of then_is (more_sent (bytes_over k.memory slots rests sents) d new_bytes)) (reply_of step)
    real_steps slots is_full rests sents = subst (λ l. Steps (state_of k (bytes_over k.memory slots rests sents)) (Send d n) (state_of then_is (more_sent (bytes_over k.memory slots rests sents) d l)) (reply_of step))
        (part_shown k d t is v there goes stages_none lent slots (shows slots is_full) rests sents step.moved) (steps (bytes_over k.memory slots rests sents))

    pub sent_told : (store : StoreView) → IfSome store.slots (AreFull k) → StepsTold (view k before store) (Send d n) (view then_is after store) (reply_of step)
    sent_told store full = told_steps d handle new_bytes before after k.config (output_here k.config.devices handles.apart d handle named) (outputs_differ k.config.devices handles.apart d handle named) (inputs_differ k.config.devices handles.apart d handle named) h.sends.only.others h.sends.bytes
        k then_is (Send d n) (reply_of step) accepted refl refl refl (AreFull k) store full real_steps

    pub sent_filled : (store : StoreView) → IfSome store.slots (AreFull k) → StepsFilled k (Send d n) then_is (reply_of step) before after store store
    sent_filled store full = filled_steps d handle n new_bytes before after k then_is (reply_of step) named (no_input k.config.devices handles.apart d handle named) h.sends.only.others h.sends.bytes accepted refl (AreFull k) store full real_steps
