-- What a receive step leaves.
use Rattle.std.specs.Prelude.{◌≡◌, ℕ, Bool, true, List, [], ◌++◌}
use Rattle.std.specs.Io.KnownBytes.{Consumes, IsAtEnd}
use Rattle.genie_base.specs.Events.{mark_of}
use Rattle.genie_base.specs.declared.config.Config.{Config}
use Rattle.genie_base.specs.declared.event.Event.TheVariants.{Recv}
use Rattle.genie_base.specs.declared.reply.Reply.{Reply}
use Rattle.genie_host.specs.Host.{HostView, OnlyHandle}
use Rattle.genie_device.specs.Device.{handle_of}
use Rattle.genie_model.specs.Tables.{entry}
use Rattle.genie_kernel.specs.declared.kernel.Kernel.{Kernel}
use Rattle.genie_kernel.specs.Good.{IsGood}
use Rattle.genie_kernel.specs.Kept.{Kept}
use Rattle.genie_kernel.specs.Steps.{Steps, DeviceCause, bytes_over}
use Rattle.genie_kernel.specs.Told.{input_at}
use Rattle.genie_kernel.specs.View.{state_of}
use Rattle.genie_gathering.specs.Devices.{with_rest}

-- the handle of the input of device d
abbrev pub input_of : Config → ℕ → ℕ
input_of c d = handle_of (input_at (entry c.devices d))

-- what may be left of the input behind the bytes that a step took: nothing, where it took no more because the input had
-- ended
abbrev pub MayBeLeft : Bool → List ℕ → Type 0
MayBeLeft ended rest = ended ≡ true → rest ≡ []

-- over any input that goes on with the bytes taken, it is one step of the flat machine
abbrev pub StepsOver : Kernel → ℕ → ℕ → Kernel → Reply → List ℕ → Bool → Type 0
StepsOver old d n new reply taken ended = (slots : ℕ → List ℕ) (rests sents : ℕ → List ℕ) (rest : List ℕ) → rests d ≡ taken ++ rest → MayBeLeft ended rest
    → Steps (state_of old (bytes_over old.memory slots rests sents)) (Recv d n) (state_of new (with_rest d rest (bytes_over new.memory slots rests sents))) reply

-- bytes are taken from the input of device d, whether or not the host tells them
pub record Receives (d n : ℕ) (before after : HostView) (old new : Kernel) (reply : Reply) : Type 0 where
  pub good : IsGood new
  pub kept : Kept old new
  pub config : new.config ≡ old.config
  pub numbers : new.next ≡ old.next
  pub memory : new.memory ≡ old.memory
  pub taken : List ℕ
  -- it took no more because the input had ended
  pub ended : Bool
  pub only : OnlyHandle (input_of old.config d) before after
  pub bytes : Consumes (before.handle (input_of old.config d)).bytes (after.handle (input_of old.config d)).bytes taken
  pub at_end : ended ≡ true → IsAtEnd (after.handle (input_of old.config d)).bytes
  pub cause : DeviceCause (mark_of reply) (before.handle (input_of old.config d)).faults (after.handle (input_of old.config d)).faults
  pub steps : StepsOver old d n new reply taken ended
