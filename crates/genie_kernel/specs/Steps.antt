-- One event is one step of the flat machine, under the mark that the reply shows.
use Rattle.std.specs.Prelude.{◌≡◌, ℕ, IsTrue, List, Option, None, Some, ⊤}
use Rattle.genie_base.specs.Causes.{Rose}
use Rattle.genie_base.specs.Events.{is_whole, mark_of}
use Rattle.genie_base.specs.declared.event.Event.{Event}
use Rattle.genie_base.specs.declared.reply.Mark.{Mark}
use Rattle.genie_base.specs.declared.reply.Mark.TheVariants.{NoFault, Device as DeviceFault, Store}
use Rattle.genie_base.specs.declared.reply.Reply.{Reply}
use Rattle.genie_host.specs.Host.{HostView}
use Rattle.genie_store.specs.StoreView.{StoreView}
use Rattle.genie_object.specs.declared.memory.Memory.{Memory}
use Rattle.genie_object.specs.Memory.{seen}
use Rattle.genie_orderly.specs.Orderly.{IsOrderly}
use Rattle.genie_model.specs.Refusing.{refuse}
use Rattle.genie_model.specs.State.{State}
use Rattle.genie_model.specs.Step.{marked, step}
use Rattle.genie_kernel.specs.declared.kernel.Kernel.{Kernel}
use Rattle.genie_kernel.specs.View.{Bytes, state_of, outline, view}

-- the state afterwards and the reply are those of the accepted event under that mark
pub record Steps (old : State) (e : Event) (new : State) (reply : Reply) : Type 0 where
  pub state : new ≡ (marked old e (mark_of reply)).0
  pub reply_is : reply ≡ (marked old e (mark_of reply)).1

-- what is seen of a memory over slots with these bytes, and these bytes left and sent
abbrev pub bytes_over : Memory → (ℕ → List ℕ) → (ℕ → List ℕ) → (ℕ → List ℕ) → Bytes
bytes_over m slots rests sents = record { seen = seen m slots; rests = rests; sents = sents }

-- an event that touches neither the host nor the store: so it is whatever they hold
abbrev pub StepsAlone : Kernel → Event → Kernel → Reply → Type 0
StepsAlone old e new reply = (slots : ℕ → List ℕ) (rests sents : ℕ → List ℕ) → Steps (state_of old (bytes_over old.memory slots rests sents)) e (state_of new (bytes_over new.memory slots rests sents)) reply

-- the same of whole steps, refusals among them, and of the states that are told before and afterwards: where nothing was
-- told before, this says nothing
abbrev pub StepsTold : Option State → Event → Option State → Reply → Type 0
StepsTold None e new reply = ⊤
StepsTold (Some s) e new reply = (new ≡ Some (step s e (mark_of reply)).0) × (reply ≡ (step s e (mark_of reply)).1)

-- a device's failure is shown only where the count of faults of its handle rose, and else the count stays; a failure of
-- the store isn't shown
abbrev pub DeviceCause : Mark → (before : ℕ) → (now : ℕ) → Type 0
DeviceCause NoFault before now = now ≡ before
DeviceCause (DeviceFault n) before now = Rose before now
DeviceCause Store before now = ⊥

-- a failure of the store is shown only where its count rose, and else the count stays; a device's failure isn't shown
abbrev pub StoreCause : Mark → (before : ℕ) → (now : ℕ) → Type 0
StoreCause NoFault before now = now ≡ before
StoreCause (DeviceFault n) before now = ⊥
StoreCause Store before now = Rose before now

-- an event that the outline accepts is accepted whatever the bytes are, and what it steps to is the flat machine's step
abbrev pub AcceptedStep : Type 0
AcceptedStep = (k : Kernel) (b : Bytes) (e : Event) (new : State) (reply : Reply) → refuse (outline k) e ≡ None → Steps (state_of k b) e new reply → StepsTold (Some (state_of k b)) e (Some new) reply

-- what it steps to is orderly
abbrev pub StaysOrderly : Type 0
StaysOrderly = (s new : State) (e : Event) (reply : Reply) → IsTrue (is_whole e) → refuse s e ≡ None → Steps s e new reply → IsOrderly s → IsOrderly new

-- so an event that touches neither the host nor the store is one step where they tell their bytes
abbrev pub AloneIsTold : Type 0
AloneIsTold = (old new : Kernel) (e : Event) (reply : Reply) (host : HostView) (store : StoreView) → refuse (outline old) e ≡ None → new.config ≡ old.config → StepsAlone old e new reply → StepsTold (view old host store) e (view new host store) reply
