-- A send step of the flat machine, under the mark that its reply shows.
use Rattle.std.proofs.Common.{◌≡◌, ℕ, ◌<◌, Bool, true, false, not, refl, sym, ap, arith, rules, ◌∙◌}
use Rattle.std.specs.Prelude.{Some, None, nat_lt, ◌==◌, ◌&&◌, ◌||◌, if◌then◌else◌}
use Rattle.genie_base.specs.Events.{mark_of}
use Rattle.genie_base.specs.declared.event.Event.{Event}
use Rattle.genie_base.specs.declared.event.Event.TheVariants.{Send}
use Rattle.genie_base.specs.declared.reply.Mark.{Mark}
use Rattle.genie_base.specs.declared.reply.Mark.TheVariants as mark
use Rattle.genie_base.specs.declared.reply.Reply.{Reply}
use Rattle.genie_base.specs.declared.reply.Reply.TheVariants as reply
use Rattle.genie_model.specs.Pending.{first_queued}
use Rattle.genie_model.specs.Sending.{may_fail_in, must_stage, send, send_next, send_bytes, send_count, stage_bytes, stage_count, unsent}
use Rattle.genie_model.specs.Space.{tidy}
use Rattle.genie_model.specs.State.{State, Transfer}
use Rattle.genie_model.specs.Step.{Outcome, marked, perform, accept, failed, may_fail, with_budget}
use Rattle.genie_kernel.specs.Steps.{Steps}

-- where nothing failed
plain_steps : (s new : State) (e : Event) (r : Reply) → mark_of r ≡ mark.NoFault → tidy new ≡ new → new ≡ (perform s e).0 → r ≡ (perform s e).1 → Steps s e new r
plain_steps s new e r m tidied a b = record {
  state = sym tidied ∙ ap tidy a ∙ sym (ap (λ (x : Mark). (marked s e x).0) m);
  reply_is = b ∙ sym (ap (λ (x : Mark). (marked s e x).1) m);
}

either_state : (c : Bool) (s new t : State) → (c ≡ true → new ≡ s) → (c ≡ false → new ≡ t) → new ≡ (if c then s else t)
either_state true s new t a b = a refl
either_state false s new t a b = b refl

-- where the device's host failed after m bytes
failed_steps : (s new : State) (e : Event) (m : ℕ) → may_fail s e m ≡ true → tidy new ≡ new → ((m == 0) ≡ true → new ≡ s) → new ≡ (perform s (with_budget e m)).0 → Steps s e new (reply.Fault m)
failed_steps s new e m may tidied none a =
    let is : marked s e (mark.Device m) ≡ failed s e m = ap (λ (c : Bool). if c then failed s e m else accept s e) may in record {
      state = either_state (m == 0) s new (accept s (with_budget e m)).0 none (λ unstaged. sym tidied ∙ ap tidy a) ∙ sym (ap (λ (o : Outcome). o.0) is);
      reply_is = sym (ap (λ (o : Outcome). o.1) is);
    }

-- no output waits
pub idle_steps : (s : State) (d n : ℕ) → tidy s ≡ s → first_queued s d ≡ None → Steps s (Send d n) s reply.Idle
idle_steps s d n tidied none = let is : send s d n ≡ (s, reply.Idle) = ap (send_next s d n) none in plain_steps s s (Send d n) reply.Idle refl tidied (sym (ap (λ (o : Outcome). o.0) is)) (sym (ap (λ (o : Outcome). o.1) is))

module _ (s : State) (d n : ℕ) (x : Transfer) (first : first_queued s d ≡ Some x) where
  abbrev sends : ℕ → Outcome
  sends m = (send_bytes s d x (send_count m x), reply.Sent (send_count m x))

  abbrev stages : ℕ → Outcome
  stages m = (stage_bytes s d x (stage_count m x), reply.Staged (stage_count m x))

  send_is : (m : ℕ) → must_stage s d x ≡ false → send s d m ≡ sends m
  send_is m unstaged = ap (send_next s d m) first ∙ ap (λ b. if b then stages m else sends m) unstaged

  stage_is : (m : ℕ) → must_stage s d x ≡ true → send s d m ≡ stages m
  stage_is m left_over = ap (send_next s d m) first ∙ ap (λ b. if b then stages m else sends m) left_over

  pub sent_steps : (m : ℕ) (new : State) → must_stage s d x ≡ false → m ≡ send_count n x → tidy new ≡ new → new ≡ send_bytes s d x m → Steps s (Send d n) new (reply.Sent m)
  sent_steps m new unstaged all tidied is =
      let whole : (send_bytes s d x m, reply.Sent m) ≡ send s d n = ap (λ c. (send_bytes s d x c, reply.Sent c)) all ∙ sym (send_is n unstaged) in
      plain_steps s new (Send d n) (reply.Sent m) refl tidied (is ∙ ap (λ (o : Outcome). o.0) whole) (ap (λ (o : Outcome). o.1) whole)

  pub staged_steps : (m : ℕ) (new : State) → must_stage s d x ≡ true → m ≡ stage_count n x → tidy new ≡ new → new ≡ stage_bytes s d x m → Steps s (Send d n) new (reply.Staged m)
  staged_steps m new left_over all tidied is =
      let whole : (stage_bytes s d x m, reply.Staged m) ≡ send s d n = ap (λ c. (stage_bytes s d x c, reply.Staged c)) all ∙ sym (stage_is n left_over) in
      plain_steps s new (Send d n) (reply.Staged m) refl tidied (is ∙ ap (λ (o : Outcome). o.0) whole) (ap (λ (o : Outcome). o.1) whole)

  may_send_fail : (m : ℕ) → must_stage s d x ≡ false → m < n → m < unsent x → may_fail s (Send d n) m ≡ true
  may_send_fail m unstaged within left =
      let inside : may_fail_in s d m (Some x) ≡ true = ap (λ b. not b && ((m == 0) || nat_lt m (unsent x))) unstaged ∙ grind (arith, rules, left) in
      ap (λ o. nat_lt m n && may_fail_in s d m o) first ∙ ap (λ b. nat_lt m n && b) inside ∙ grind (arith, rules, within)

  pub failed_send : (m : ℕ) (new : State) → must_stage s d x ≡ false → m < n → m < unsent x → tidy new ≡ new → ((m == 0) ≡ true → new ≡ s) → new ≡ send_bytes s d x m → Steps s (Send d n) new (reply.Fault m)
  failed_send m new unstaged within left tidied none is =
      let count : m ≡ send_count m x = omega (arith, left) in
      failed_steps s new (Send d n) m (may_send_fail m unstaged within left) tidied none (is ∙ ap (send_bytes s d x) count ∙ sym (ap (λ (o : Outcome). o.0) (send_is m unstaged)))
