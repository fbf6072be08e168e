-- Steps of the flat machine.
use Rattle.std.proofs.Common.{◌≡◌, sym, ap, subst, ◌∙◌}
use Rattle.std.specs.Prelude.{ℕ, List, Option, None, Some, IsTrue}
use Rattle.std.specs.Option.{option_map}
use Rattle.genie_base.specs.Events.{is_whole, mark_of}
use Rattle.genie_base.specs.declared.event.Event.{Event}
use Rattle.genie_base.specs.declared.reply.Mark.{Mark}
use Rattle.genie_base.specs.declared.reply.Reply.{Reply}
use Rattle.genie_host.specs.Host.{HostView}
use Rattle.genie_store.specs.StoreView.{StoreView}
use Rattle.genie_object.specs.Memory.{Seen, seen, seen_with}
use Rattle.genie_orderly.specs.Orderly.{IsOrderly}
use Rattle.genie_orderly.specs.Steps.{Stays}
use Rattle.genie_model.specs.Refusing.{refuse}
use Rattle.genie_model.specs.State.{State}
use Rattle.genie_model.specs.Step.{Outcome, step, marked, answer}
use Rattle.genie_kernel.specs.declared.kernel.Kernel.{Kernel}
use Rattle.genie_kernel.specs.Steps.{Steps, StepsTold, StepsAlone, bytes_over}
use Rattle.genie_kernel.specs.Told.{rests_of, sents_of}
use Rattle.genie_kernel.specs.View.{Bytes, state_of, outline, bytes_with, view}
use Rattle.genie_kernel.specs.Lemmas.Blind.{refuses_alike}

abbrev seen_over : Kernel → (ℕ → List ℕ) → Seen
seen_over k = seen k.memory

accepted : (s : State) (e : Event) (m : Mark) → refuse s e ≡ None → step s e m ≡ marked s e m
accepted s e m h = ap (answer s e m) h

pub accepted_step : (k : Kernel) (b : Bytes) (e : Event) (new : State) (reply : Reply) → refuse (outline k) e ≡ None → Steps (state_of k b) e new reply → StepsTold (Some (state_of k b)) e (Some new) reply
accepted_step k b e new reply h s =
    let same = accepted (state_of k b) e (mark_of reply) (refuses_alike k b e ∙ h) in
    (ap Some (s.state ∙ sym (ap (λ (o : Outcome). o.0) same)), s.reply_is ∙ sym (ap (λ (o : Outcome). o.1) same))

pub stays_orderly : Stays IsOrderly → (s new : State) (e : Event) (reply : Reply) → IsTrue (is_whole e) → refuse s e ≡ None → Steps s e new reply → IsOrderly s → IsOrderly new
stays_orderly law s new e reply whole h steps o = subst IsOrderly (ap (λ (x : Outcome). x.0) (accepted s e (mark_of reply) h) ∙ sym steps.state) (law s e (mark_of reply) whole o)

told_alone : (old new : Kernel) (e : Event) (reply : Reply) → refuse (outline old) e ≡ None → StepsAlone old e new reply → (slots rests sents : Option (ℕ → List ℕ)) → StepsTold (option_map (state_of old) (bytes_with (option_map (seen_over old) slots) rests sents)) e (option_map (state_of new) (bytes_with (option_map (seen_over new) slots) rests sents)) reply
told_alone old new e reply h alone None rests sents = tt
told_alone old new e reply h alone (Some slots) None sents = tt
told_alone old new e reply h alone (Some slots) (Some rests) None = tt
told_alone old new e reply h alone (Some slots) (Some rests) (Some sents) = accepted_step old (bytes_over old.memory slots rests sents) e (state_of new (bytes_over new.memory slots rests sents)) reply h (alone slots rests sents)

pub alone_told : (old new : Kernel) (e : Event) (reply : Reply) (host : HostView) (store : StoreView) → refuse (outline old) e ≡ None → new.config ≡ old.config → StepsAlone old e new reply → StepsTold (view old host store) e (view new host store) reply
alone_told old new e reply host store h config alone = subst (λ c. StepsTold (view old host store) e (option_map (state_of new) (bytes_with (seen_with new.memory store) (rests_of host c) (sents_of host c))) reply) (sym config) (told_alone old new e reply h alone store.slots (rests_of host old.config) (sents_of host old.config))
