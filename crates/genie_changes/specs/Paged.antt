-- Events that touch neither the host nor the store, over slots that have a page each.
use Rattle.std.specs.Prelude.{◌≡◌, ℕ, ◌<◌, List, length, None, IfSome}
use Rattle.genie_base.specs.declared.event.Event.{Event}
use Rattle.genie_base.specs.declared.reply.Reply.{Reply}
use Rattle.genie_host.specs.Host.{HostView}
use Rattle.genie_store.specs.StoreView.{StoreView}
use Rattle.genie_object.specs.declared.memory.Memory.{Memory}
use Rattle.genie_object.specs.Sound.{IsSized}
use Rattle.genie_model.specs.Refusing.{refuse}
use Rattle.genie_kernel.specs.declared.kernel.Kernel.{Kernel}
use Rattle.genie_kernel.specs.Steps.{Steps, StepsTold, bytes_over}
use Rattle.genie_kernel.specs.View.{state_of, outline, view}

-- each slot of the memory has a page of bytes
abbrev pub HavePages : Memory → (ℕ → List ℕ) → Type 0
HavePages m slots = (s : ℕ) → s < length m.slots → length (slots s) ≡ m.frames.page

-- so it is of every store
abbrev pub IsPaged : StoreView → Type 0
IsPaged v = IfSome v.slots (λ slots. (s : ℕ) → s < v.count → length (slots s) ≡ v.page)

-- it is one step of the flat machine, whatever the host and the store hold
abbrev pub StepsPaged : Kernel → Event → Kernel → Reply → Type 0
StepsPaged old e new reply = (slots rests sents : ℕ → List ℕ) → HavePages old.memory slots → Steps (state_of old (bytes_over old.memory slots rests sents)) e (state_of new (bytes_over new.memory slots rests sents)) reply

-- so it is one step where they tell their bytes
abbrev pub PagedIsTold : Type 0
PagedIsTold = (old new : Kernel) (e : Event) (reply : Reply) (host : HostView) (store : StoreView) → refuse (outline old) e ≡ None → new.config ≡ old.config → IsSized old.memory store → IsPaged store → StepsPaged old e new reply → StepsTold (view old host store) e (view new host store) reply
