-- One step of the flat machine, and whole runs.
use Rattle.std.specs.Prelude.{◌≡◌, ℕ, ◌<◌, ◌^◌, ◌==◌, Bool, true, false, ◌&&◌, nat_lt, List, [], ◌∷◌, Option, None, Some, if◌then◌else◌}
use Rattle.genie_base.specs.Events.{mark_of}
use Rattle.genie_base.specs.Transfers.{class_of}
use Rattle.genie_base.specs.declared.event.Event.{Event}
use Rattle.genie_base.specs.declared.event.Event.TheVariants.{Spawn, Fork, Exit, Map, Alloc, Unmap, Protect, Read, Write, Output, Input, Send, Recv, Finish, Cancel, Pageout}
use Rattle.genie_base.specs.declared.refusal.Refusal.{Refusal}
use Rattle.genie_base.specs.declared.reply.Mark.{Mark}
use Rattle.genie_base.specs.declared.reply.Mark.TheVariants as mark
use Rattle.genie_base.specs.declared.reply.Reply.{Reply}
use Rattle.genie_base.specs.declared.reply.Reply.TheVariants as reply
use Rattle.genie_model.specs.State.{State}
use Rattle.genie_model.specs.Space.{Outcome as SpaceOutcome, spawn, fork, exit, map_pages, alloc, unmap, protect, read, write, tidy}
use Rattle.genie_model.specs.Outputs.{output}
use Rattle.genie_model.specs.Inputs.{input}
use Rattle.genie_model.specs.Sending.{send, may_fail_sending}
use Rattle.genie_model.specs.Receiving.{recv, may_fail_receiving}
use Rattle.genie_model.specs.Ending.{finish, cancel}
use Rattle.genie_model.specs.Refusing.{refuse}

-- a state and a reply
abbrev pub Outcome : Type 0
Outcome = SpaceOutcome

-- what an accepted event does, where nothing fails
abbrev pub perform : State → Event → Outcome
perform s (Spawn p) = spawn s p
perform s (Fork p q) = fork s p q
perform s (Exit p) = exit s p
perform s (Map p g n) = map_pages s p g n
perform s (Alloc p n) = alloc s p n
perform s (Unmap p g) = unmap s p g
perform s (Protect p g writable) = protect s p g writable
perform s (Read p a n) = read s p a n
perform s (Write p a bytes) = write s p a bytes
perform s (Output p sem d port flow a n) = output s p (class_of sem) (record { device = d; port = port; flow = flow }) a n
perform s (Input p sem d port flow a n) = input s p (class_of sem) (record { device = d; port = port; flow = flow }) a n
perform s (Send d n) = send s d n
perform s (Recv d n) = recv s d n
perform s (Finish k) = finish s k
perform s (Cancel k) = cancel s k
perform s (Pageout n) = (s, reply.Okay)

-- Orphans are cut to what is still covered after every event.
abbrev pub tidied : Outcome → Outcome
tidied o = (tidy o.0, o.1)

-- an accepted event where nothing fails
abbrev pub accept : State → Event → Outcome
accept s e = tidied (perform s e)

-- a failure of the store may be answered to these events
abbrev pub uses_store : Event → Bool
uses_store (Read p a n) = true
uses_store (Write p a bytes) = true
uses_store (Fork p q) = true
uses_store (Output p sem d port flow a n) = true
uses_store (Input p sem d port flow a n) = true
uses_store (Finish k) = true
uses_store (Pageout n) = true
uses_store _ = false

-- the host of a device may fail after k bytes, fewer than the budget: where the device isn't idle, staging, busy or bad,
-- and for k above 0 those bytes are there, belong to a record that isn't dropped, and end inside it
abbrev pub may_fail : State → Event → ℕ → Bool
may_fail s (Send d n) k = nat_lt k n && may_fail_sending s d k
may_fail s (Recv d n) k = nat_lt k n && may_fail_receiving s d k
may_fail s _ k = false

abbrev pub with_budget : Event → ℕ → Event
with_budget (Send d n) k = Send d k
with_budget (Recv d n) k = Recv d k
with_budget e k = e

-- where the host failed after k bytes: as the step with that budget
abbrev pub failed : State → Event → ℕ → Outcome
failed s e k = ((if k == 0 then s else (accept s (with_budget e k)).0), reply.Fault k)

-- an accepted event under a mark; one that doesn't fit counts as none
abbrev pub marked : State → Event → Mark → Outcome
marked s e mark.NoFault = accept s e
marked s e mark.Store = if uses_store e then (s, reply.StoreFault) else accept s e
marked s e (mark.Device k) = if may_fail s e k then failed s e k else accept s e

abbrev pub answer : State → Event → Mark → Option Refusal → Outcome
answer s e m (Some refusal) = (s, reply.Err refusal)
answer s e m None = marked s e m

-- one step
abbrev pub step : State → Event → Mark → Outcome
step s e m = answer s e m (refuse s e)

-- each reply is that of the step under the mark that it shows, state after state, up to the last state
abbrev pub Follows : State → List Event → List Reply → State → Type 0
Follows s [] [] last = s ≡ last
Follows s (e ∷ es) (r ∷ rs) last = ((step s e (mark_of r)).1 ≡ r) × Follows (step s e (mark_of r)).0 es rs last
Follows s [] (r ∷ rs) last = ⊥
Follows s (e ∷ es) [] last = ⊥

-- fewer calls were accepted than there are numbers for transfers
abbrev pub HasNumber : State → Type 0
HasNumber s = s.next < 2 ^ 32
