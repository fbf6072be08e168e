-- What is so of a refusal, of failures and after each accepted event is so after the step.
use Rattle.std.proofs.Common.{◌≡◌, ℕ, true, refl}
use Rattle.std.specs.Prelude.{Option, Some, None, ◌==◌}
use Rattle.std.proofs.lemmas.Bool.{cond_both}
use Rattle.genie_base.specs.declared.event.Event.{Event}
use Rattle.genie_base.specs.declared.refusal.Refusal.{Refusal}
use Rattle.genie_base.specs.declared.reply.Mark.{Mark}
use Rattle.genie_base.specs.declared.reply.Mark.TheVariants as mark
use Rattle.genie_base.specs.declared.reply.Reply.TheVariants as reply
use Rattle.genie_model.specs.Refusing.{refuse}
use Rattle.genie_model.specs.State.{State}
use Rattle.genie_model.specs.Step.{Outcome, answer, marked, accept, failed, may_fail, uses_store, with_budget, step}

-- states and replies
module _ (P : Outcome → Type 0) (s : State) (e : Event) (refused : (w : Refusal) → P (s, reply.Err w)) (store : P (s, reply.StoreFault)) (new : refuse s e ≡ None → P (accept s e)) (fails : refuse s e ≡ None → (k : ℕ) → may_fail s e k ≡ true → P (failed s e k)) where
  marked_so : refuse s e ≡ None → (m : Mark) → P (marked s e m)
  marked_so none mark.NoFault = new none
  marked_so none mark.Store = cond_both (uses_store e) (s, reply.StoreFault) (accept s e) P (λ _. store) (λ _. new none)
  marked_so none (mark.Device k) = cond_both (may_fail s e k) (failed s e k) (accept s e) P (fails none k) (λ _. new none)

  answer_so : (m : Mark) (r : Option Refusal) → refuse s e ≡ r → P (answer s e m r)
  answer_so m None is = marked_so is m
  answer_so m (Some w) is = refused w

  pub outcome_so : (m : Mark) → P (step s e m)
  outcome_so m = answer_so m (refuse s e) refl

-- states alone
module _ (P : State → Type 0) (s : State) (old : P s) where
  -- one event, with each budget
  pub event_so : (e : Event) → (refuse s e ≡ None → P (accept s e).0) → (refuse s e ≡ None → (k : ℕ) → P (accept s (with_budget e k)).0) → (m : Mark) → P (step s e m).0
  event_so e new budget m = outcome_so (λ (o : Outcome). P o.0) s e (λ _. old) old new (λ none k _. cond_both (k == 0) s (accept s (with_budget e k)).0 P (λ _. old) (λ _. budget none k)) m

  pub step_so : ((e : Event) → P (accept s e).0) → (e : Event) (m : Mark) → P (step s e m).0
  step_so new e m = event_so e (λ _. new e) (λ _ k. new (with_budget e k)) m
