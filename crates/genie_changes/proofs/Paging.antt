-- Events that touch neither the host nor the store, where they tell their bytes.
use Rattle.std.proofs.Common.{◌≡◌, ℕ, ◌<◌, List, sym, subst, arith, ◌∙◌, length}
use Rattle.std.specs.Prelude.{Option, None, Some, IfSome}
use Rattle.std.specs.Option.{option_map}
use Rattle.genie_base.specs.declared.event.Event.{Event}
use Rattle.genie_base.specs.declared.reply.Reply.{Reply}
use Rattle.genie_host.specs.Host.{HostView}
use Rattle.genie_store.specs.StoreView.{StoreView}
use Rattle.genie_object.specs.Memory.{Seen, seen, seen_with}
use Rattle.genie_object.specs.Sound.{IsSized}
use Rattle.genie_model.specs.Refusing.{refuse}
use Rattle.genie_kernel.specs.declared.kernel.Kernel.{Kernel}
use Rattle.genie_kernel.specs.Steps.{StepsTold, bytes_over}
use Rattle.genie_kernel.specs.Told.{rests_of, sents_of}
use Rattle.genie_kernel.specs.View.{state_of, outline, bytes_with, view}
use Rattle.genie_kernel.specs.Lemmas.Stepping.{accepted_step}
use Rattle.genie_changes.specs.Paged.{IsPaged, StepsPaged}

abbrev seen_over : Kernel → (ℕ → List ℕ) → Seen
seen_over k = seen k.memory

told_paged : (old new : Kernel) (e : Event) (reply : Reply) (store : StoreView) → refuse (outline old) e ≡ None → IsSized old.memory store → StepsPaged old e new reply → (slots rests sents : Option (ℕ → List ℕ)) → IfSome slots (λ s. (j : ℕ) → j < store.count → length (s j) ≡ store.page)
    → StepsTold (option_map (state_of old) (bytes_with (option_map (seen_over old) slots) rests sents)) e (option_map (state_of new) (bytes_with (option_map (seen_over new) slots) rests sents)) reply
told_paged old new e reply store h sized steps None rests sents paged = tt
told_paged old new e reply store h sized steps (Some slots) None sents paged = tt
told_paged old new e reply store h sized steps (Some slots) (Some rests) None paged = tt
told_paged old new e reply store h sized steps (Some slots) (Some rests) (Some sents) paged =
    accepted_step old (bytes_over old.memory slots rests sents) e (state_of new (bytes_over new.memory slots rests sents)) reply h (steps slots rests sents (λ s l. paged s (omega (arith, l, sized.count)) ∙ sized.page))

pub paged_told : (old new : Kernel) (e : Event) (reply : Reply) (host : HostView) (store : StoreView) → refuse (outline old) e ≡ None → new.config ≡ old.config → IsSized old.memory store → IsPaged store → StepsPaged old e new reply → StepsTold (view old host store) e (view new host store) reply
paged_told old new e reply host store h config sized paged steps = subst (λ c. StepsTold (view old host store) e (option_map (state_of new) (bytes_with (seen_with new.memory store) (rests_of host c) (sents_of host c))) reply) (sym config) (told_paged old new e reply store h sized steps store.slots (rests_of host old.config) (sents_of host old.config) paged)
