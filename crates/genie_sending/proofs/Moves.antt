-- A step that sends, on the state and under its mark.
use Rattle.std.proofs.Common.{append-nil, ◌≡◌, ℕ, ◌+◌, ◌<◌, ◌≤◌, Bool, true, false, List, [], ◌++◌, refl, sym, ap, subst, arith, rules, ◌∙◌, set, length, eqb-true, eq-eqb, ne_eqb}
use Rattle.std.specs.Prelude.{Some, min, ◌==◌, if◌then◌else◌}
use Rattle.genie_base.specs.Events.{mark_of}
use Rattle.genie_base.specs.Records.{header_len, unsent_bytes}
use Rattle.genie_base.specs.declared.config.Kind.{Kind}
use Rattle.genie_base.specs.declared.config.Kind.TheVariants.{Early, Pooled, Outboard}
use Rattle.genie_base.specs.declared.event.Event.TheVariants.{Send}
use Rattle.genie_base.specs.declared.reply.Reply.TheVariants as reply
use Rattle.genie_device.specs.Device.{DeviceView, after_send, stages}
use Rattle.genie_device.specs.Sending.{EndsSend}
use Rattle.genie_device.specs.declared.steps.SendStep.{SendStep}
use Rattle.genie_model.specs.Pending as pending
use Rattle.genie_model.specs.Sending.{must_stage, next_part, send_bytes}
use Rattle.genie_model.specs.State as flat
use Rattle.genie_model.specs.Tables.{entry}
use Rattle.genie_kernel.specs.declared.kernel.Kernel.{Kernel}
use Rattle.genie_kernel.specs.declared.transfer.Transfer.{Transfer}
use Rattle.genie_kernel.specs.Good.{IsGood}
use Rattle.genie_kernel.specs.Matching.{IsSendingFor}
use Rattle.genie_kernel.specs.Steps.{DeviceCause, Steps}
use Rattle.genie_kernel.specs.View.{Bytes, state_of}
use Rattle.genie_kernel.specs.Lemmas.Tidying.{tidy_view}
use Rattle.genie_sending.specs.Sending.{reply_of, transfers_after}
use Rattle.genie_sending.specs.WorkLaws.{WorkLaws}
use Rattle.genie_sending.proofs.Devices.{more_at, more_sent, with_output}
use Rattle.genie_sending.proofs.Marking.{failed_send, sent_steps}
use Rattle.genie_sending.proofs.Outputs.{IsFirstOutput, sending_view}
use Rattle.genie_sending.proofs.Places.{put_same}
use Rattle.genie_sending.proofs.States.{first_is, must_stage_is, sent_state, whole_state}

-- on an outboard device all of the payload is staged once the record goes out, and on another none
pub all_staged : (kind : Kind) (staged : List ℕ) (len : ℕ) → stages kind staged len ≡ false → length staged ≤ len → (pending.is_outboard kind ≡ false → staged ≡ []) → (if pending.is_outboard kind then len else 0) ≡ length staged
all_staged Early staged len e l none = sym (ap length (none refl))
all_staged Pooled staged len e l none = sym (ap length (none refl))
all_staged Outboard staged len e l none = grind (arith, rules, e, l)

none_more : (c : Bool) (xs : List ℕ) → (if c then xs ++ [] else xs) ≡ xs
none_more true xs = append-nil xs
none_more false xs = refl

pub nothing_sent : (b : Bytes) (d : ℕ) (new : List ℕ) → new ≡ [] → more_sent b d new ≡ b
nothing_sent b d new e = λ i. record b { sents = (ap (more_at b.sents d) e ∙ (λ k j. none_more (j == d) (b.sents j) k)) i }

-- the kernel after a step for output t
abbrev pub after_step : Kernel → ℕ → DeviceView → Bool → Transfer → Kernel
after_step k d w whole t = record k { devices = set k.devices d (Some w); transfers = transfers_after whole t k.transfers }

module _ (laws : WorkLaws) (k : Kernel) (g : IsGood k) (d : ℕ) (t : Transfer) (is : IsFirstOutput k.transfers d t) (v : DeviceView) (there : entry k.devices d ≡ Some v) (goes : IsSendingFor v t) (unstaged : stages v.config.kind v.staged t.len ≡ false) where
  abbrev seen_as : Bytes → flat.Transfer
  seen_as b = sending_view b.seen.kept_bytes t v

  abbrev part_of : Bytes → ℕ → List ℕ
  part_of b m = next_part (state_of k b) m (seen_as b)

  full : (if pending.is_outboard v.config.kind then t.len else 0) ≡ length v.staged
  full = all_staged v.config.kind v.staged t.len unstaged goes.staged goes.memory

  whole_now : (m : ℕ) → (v.sent + m == header_len t.flow + t.len) ≡ true → (m == unsent_bytes t.flow t.len v.sent) ≡ true
  whole_now m e = let all = eqb-true (v.sent + m) (header_len t.flow + t.len) e in let less = goes.unsent in eq-eqb m (unsent_bytes t.flow t.len v.sent) (omega (arith, all, less))

  not_now : (m : ℕ) → (v.sent + m == header_len t.flow + t.len) ≡ false → (m == unsent_bytes t.flow t.len v.sent) ≡ false
  not_now m e = let less = goes.unsent in ne_eqb m (unsent_bytes t.flow t.len v.sent) (λ same. let all = eq-eqb (v.sent + m) (header_len t.flow + t.len) (omega (arith, same, less)) in let never : true ≡ false = sym all ∙ e in absurd (cc))

  -- whatever the bytes are
  pub moved_state : (m : ℕ) (w : DeviceView) (whole : Bool) → whole ≡ (v.sent + m == header_len t.flow + t.len) → w ≡ after_send m whole v → (b : Bytes) → state_of (after_step k d w whole t) (more_sent b d (part_of b m)) ≡ send_bytes (state_of k b) d (seen_as b) m
  moved_state m w true e is_w b =
      let all = eqb-true (v.sent + m) (header_len t.flow + t.len) (sym e) in
      ap (λ z. state_of (after_step k d z true t) (more_sent b d (part_of b m))) is_w
      ∙ whole_state k b d t v there is laws.orphans laws.sent laws.receiver (laws.rise k g).order m (whole_now m (sym e)) full (sym all)
  moved_state m w false e is_w b =
      ap (λ z. state_of (after_step k d z false t) (more_sent b d (part_of b m))) is_w
      ∙ sent_state k b d t v there is (laws.rise k g).order m (not_now m (sym e))

  not_whole : (m : ℕ) (whole : Bool) → whole ≡ (v.sent + m == header_len t.flow + t.len) → m < unsent_bytes t.flow t.len v.sent → whole ≡ false
  not_whole m whole e l = e ∙ ne_eqb (v.sent + m) (header_len t.flow + t.len) (λ same. let less = goes.unsent in absurd (omega (arith, l, less, same)))

  -- nothing has moved
  nothing_state : (m : ℕ) (w : DeviceView) (whole : Bool) → whole ≡ false → w ≡ after_send m whole v → m ≡ 0 → (b : Bytes) → state_of (after_step k d w whole t) (more_sent b d (part_of b m)) ≡ state_of k b
  nothing_state m w whole e is_w none b =
      let sent : v.sent + m ≡ v.sent = omega (arith, none) in
      let same : w ≡ v = is_w ∙ ap (λ c. after_send m c v) e ∙ ap (λ z. with_output v.staged z v) sent in
      let devices : set k.devices d (Some w) ≡ k.devices = ap (λ z. set k.devices d (Some z)) same ∙ put_same k.devices d v there in
      let transfers : transfers_after whole t k.transfers ≡ k.transfers = ap (λ c. transfers_after c t k.transfers) e in
      let bytes = nothing_sent b d (part_of b m) (ap (part_of b) none) in
      λ i. state_of (record k { devices = devices i; transfers = transfers i }) (bytes i)

  must_not : (b : Bytes) → must_stage (state_of k b) d (seen_as b) ≡ false
  must_not b = must_stage_is k b d t v there is ∙ unstaged

  -- it is a step of the flat machine, whatever the bytes are
  pub moved_steps : (n m : ℕ) (w : DeviceView) (step : SendStep) (before now : ℕ) → step.staged ≡ false → step.moved ≡ m → step.whole ≡ (v.sent + m == header_len t.flow + t.len) → w ≡ after_send m step.whole v → EndsSend step.faulted (min n (unsent_bytes t.flow t.len v.sent)) m before now
      → (b : Bytes) → Steps (state_of k b) (Send d n) (state_of (after_step k d w step.whole t) (more_sent b d (part_of b m))) (reply_of step)
  moved_steps n m w step before now no_stage count whole is_w ends b = by step.faulted refl ends
    where
      new : flat.State
      new = state_of (after_step k d w step.whole t) (more_sent b d (part_of b m))

      by : (faulted : Bool) → step.faulted ≡ faulted → EndsSend faulted (min n (unsent_bytes t.flow t.len v.sent)) m before now → Steps (state_of k b) (Send d n) new (reply_of step)
      by false e h =
          let said : reply_of step ≡ reply.Sent m = ap (λ c. if c then reply.Fault step.moved else (if step.staged then reply.Staged step.moved else reply.Sent step.moved)) e ∙ ap (λ c. if c then reply.Staged step.moved else reply.Sent step.moved) no_stage ∙ ap (λ z. reply.Sent z) count in
          subst (Steps (state_of k b) (Send d n) new) (sym said)
          (sent_steps (state_of k b) d n (seen_as b) (first_is k b d t v there is) m new (must_not b) h.1 (tidy_view (after_step k d w step.whole t) (more_sent b d (part_of b m))) (moved_state m w step.whole whole is_w b))
      by true e h =
          let said : reply_of step ≡ reply.Fault m = ap (λ c. if c then reply.Fault step.moved else (if step.staged then reply.Staged step.moved else reply.Sent step.moved)) e ∙ ap (λ z. reply.Fault z) count in
          let less = h.1 in
          let left : m < unsent_bytes t.flow t.len v.sent = omega (arith, less) in
          subst (Steps (state_of k b) (Send d n) new) (sym said)
          (failed_send (state_of k b) d n (seen_as b) (first_is k b d t v there is) m new (must_not b) (omega (arith, less)) left (tidy_view (after_step k d w step.whole t) (more_sent b d (part_of b m)))
          (λ none. nothing_state m w step.whole (not_whole m step.whole whole left) is_w (eqb-true m 0 none) b) (moved_state m w step.whole whole is_w b))

-- a failure is shown only where the count rose
pub moved_cause : (step : SendStep) (budget m before now : ℕ) → step.staged ≡ false → EndsSend step.faulted budget m before now → DeviceCause (mark_of (reply_of step)) before now
moved_cause step budget m before now no_stage ends = by step.faulted refl ends
  where
    by : (faulted : Bool) → step.faulted ≡ faulted → EndsSend faulted budget m before now → DeviceCause (mark_of (reply_of step)) before now
    by false e h = subst (λ r. DeviceCause (mark_of r) before now) (sym (ap (λ c. if c then reply.Fault step.moved else (if step.staged then reply.Staged step.moved else reply.Sent step.moved)) e ∙ ap (λ c. if c then reply.Staged step.moved else reply.Sent step.moved) no_stage)) h.0
    by true e h = subst (λ r. DeviceCause (mark_of r) before now) (sym (ap (λ c. if c then reply.Fault step.moved else (if step.staged then reply.Staged step.moved else reply.Sent step.moved)) e)) h.0
