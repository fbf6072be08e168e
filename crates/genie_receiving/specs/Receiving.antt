-- What a receive step leaves.
use Rattle.std.specs.Prelude.{◌≡◌, ℕ, ◌+◌, ◌<◌, ◌≤◌, Bool, true, List, [], ◌++◌, length, IfSome}
use Rattle.std.specs.Io.KnownBytes.{Consumes, IsAtEnd}
use Rattle.genie_base.specs.Events.{mark_of}
use Rattle.genie_base.specs.declared.config.Config.{Config}
use Rattle.genie_base.specs.declared.event.Event.TheVariants.{Recv}
use Rattle.genie_base.specs.declared.reply.Reply.{Reply}
use Rattle.genie_host.specs.Host.{HostView, OnlyHandle}
use Rattle.genie_store.specs.StoreView.{StoreView}
use Rattle.genie_object.specs.declared.memory.Memory.{Memory}
use Rattle.genie_object.specs.Sound.{IsSized}
use Rattle.genie_device.specs.Device.{handle_of}
use Rattle.genie_model.specs.Tables.{entry}
use Rattle.genie_kernel.specs.declared.kernel.Kernel.{Kernel}
use Rattle.genie_kernel.specs.Good.{IsGood}
use Rattle.genie_kernel.specs.Handles.{HasHandles}
use Rattle.genie_kernel.specs.Kept.{Kept}
use Rattle.genie_kernel.specs.Steps.{Steps, StepsTold, DeviceCause, bytes_over}
use Rattle.genie_kernel.specs.Told.{input_at}
use Rattle.genie_kernel.specs.View.{state_of, view}
use Rattle.genie_changes.specs.Filling.{StepsFilled}
use Rattle.genie_receiving.specs.Devices.{with_rest}

-- the handle of the input of device d
abbrev pub input_of : Config → ℕ → ℕ
input_of c d = handle_of (input_at (entry c.devices d))

-- what may be left of the input behind the bytes that a step took: nothing, where it took no more because the input had
-- ended
abbrev pub MayBeLeft : Bool → List ℕ → Type 0
MayBeLeft ended rest = ended ≡ true → rest ≡ []

-- each slot has a page of bytes
abbrev pub ArePages : ℕ → (ℕ → List ℕ) → Type 0
ArePages page slots = (s : ℕ) → length (slots s) ≡ page

-- over any input that goes on with the bytes taken, it is one step of the flat machine
abbrev pub StepsOver : Kernel → ℕ → ℕ → Kernel → Reply → List ℕ → Bool → Type 0
StepsOver old d n new reply taken ended = (slots : ℕ → List ℕ) (rests sents : ℕ → List ℕ) (rest : List ℕ) → ArePages old.memory.frames.page slots → rests d ≡ taken ++ rest → MayBeLeft ended rest
    → Steps (state_of old (bytes_over old.memory slots rests sents)) (Recv d n) (state_of new (with_rest d rest (bytes_over new.memory slots rests sents))) reply

-- memory m with other bytes in its frames, of which so many have landed
abbrev pub with_landed : Memory → List (List ℕ) → ℕ → Memory
with_landed m bytes landed = record m { frames = record (m.frames) { bytes = bytes; landed = landed } }

-- only bytes land in frames: pages, places, slots, owners and loans stay, and the processor moves no byte
abbrev pub OnlyLanded : Memory → Memory → Type 0
OnlyLanded old new = new ≡ with_landed old new.frames.bytes new.frames.landed

-- bytes are taken from the input of device d, whether or not the host tells them
pub record Receives (d n : ℕ) (before after : HostView) (old new : Kernel) (reply : Reply) : Type 0 where
  pub good : IsGood new
  pub kept : Kept old new
  pub config : new.config ≡ old.config
  pub numbers : new.next ≡ old.next
  pub memory : OnlyLanded old.memory new.memory
  pub landed : new.memory.frames.landed ≤ old.memory.frames.landed + n
  pub taken : List ℕ
  -- it took no more because the input had ended
  pub ended : Bool
  pub only : OnlyHandle (input_of old.config d) before after
  pub bytes : Consumes (before.handle (input_of old.config d)).bytes (after.handle (input_of old.config d)).bytes taken
  pub at_end : ended ≡ true → IsAtEnd (after.handle (input_of old.config d)).bytes
  pub cause : DeviceCause (mark_of reply) (before.handle (input_of old.config d)).faults (after.handle (input_of old.config d)).faults
  pub steps : StepsOver old d n new reply taken ended

-- each slot whose bytes a store tells has a page of them
abbrev pub HasPages : StoreView → Type 0
HasPages v = IfSome v.slots (λ slots. (s : ℕ) → s < v.count → length (slots s) ≡ v.page)

-- a receive step of device d has been made
pub record IsReceived (d n : ℕ) (before after : HostView) (old new : Kernel) (reply : Reply) : Type 0 where
  -- the kernel is good, and no frame is freed or gets another owner while a device holds it
  pub good : IsGood new
  pub kept : Kept old new
  pub config : new.config ≡ old.config
  -- no transfer begins
  pub numbers : new.next ≡ old.next
  -- where the host and the store tell their bytes, what it stands for and the reply are those of the flat machine's step
  pub step : (store : StoreView) → IsSized old.memory store → HasPages store → StepsTold (view old before store) (Recv d n) (view new after store) reply
  -- and where the host tells some files and not others, those of a step over every bytes that the others may have
  pub filled : (store : StoreView) → IsSized old.memory store → HasPages store → StepsFilled old (Recv d n) new reply before after store store
  pub sized : (store : StoreView) → IsSized old.memory store → IsSized new.memory store
  -- a failure is shown only where the count of faults of the device's input rose, and else the count stays
  pub cause : DeviceCause (mark_of reply) (before.handle (input_of old.config d)).faults (after.handle (input_of old.config d)).faults
  -- no other handle changes, and all stay open in their directions
  pub only : OnlyHandle (input_of old.config d) before after
  pub handles : HasHandles new.config after
  -- of the memory only bytes in frames change, at most n of which land
  pub memory : OnlyLanded old.memory new.memory
  pub landed : new.memory.frames.landed ≤ old.memory.frames.landed + n
