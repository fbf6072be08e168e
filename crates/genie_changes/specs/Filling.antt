-- One step of the flat machine over any bytes of the files that a host doesn't tell.
use Rattle.std.specs.Prelude.{◌≡◌, ℕ, ◌==◌, Bool, true, List, [], ◌++◌, Option, None, if◌then◌else◌}
use Rattle.std.specs.Option.{option_map}
use Rattle.std.specs.Io.KnownBytes.{Appends, Consumes, IsAtEnd}
use Rattle.genie_base.specs.declared.config.DeviceConfig.{DeviceConfig}
use Rattle.genie_base.specs.declared.event.Event.{Event}
use Rattle.genie_base.specs.declared.event.Event.TheVariants.{Send, Recv}
use Rattle.genie_base.specs.declared.reply.Reply.{Reply}
use Rattle.genie_host.specs.Host.{HostView}
use Rattle.genie_store.specs.StoreView.{StoreView}
use Rattle.genie_object.specs.Memory.{Seen, seen_with}
use Rattle.genie_model.specs.State.{State}
use Rattle.genie_model.specs.Tables.{entry}
use Rattle.genie_kernel.specs.declared.kernel.Kernel.{Kernel}
use Rattle.genie_kernel.specs.Steps.{StepsTold}
use Rattle.genie_kernel.specs.Told.{input_at, output_at, told_at}
use Rattle.genie_kernel.specs.View.{state_of}

-- a device without a file has no bytes of one
abbrev pub AreFiles : (Option DeviceConfig → Option ℕ) → List (Option DeviceConfig) → (ℕ → List ℕ) → Type 0
AreFiles file devices bytes = (j : ℕ) → file (entry devices j) ≡ None → bytes j ≡ []

-- other bytes of device d
abbrev pub filled_at : ℕ → List ℕ → (ℕ → List ℕ) → ℕ → List ℕ
filled_at d bytes files j = if j == d then bytes else files j

-- the state that a kernel stands for over these bytes left and sent, where the store tells its slots
abbrev pub state_over : Kernel → StoreView → (ℕ → List ℕ) → (ℕ → List ℕ) → Option State
state_over k store rests sents = option_map (λ (seen : Seen). state_of k (record { seen = seen; rests = rests; sents = sents })) (seen_with k.memory store)

-- the device whose files an event reads or writes, if it does so
abbrev pub device_of : Event → ℕ
device_of (Send d n) = d
device_of (Recv d n) = d
device_of e = 0

-- Some bytes were taken from the input of the event's device, and some sent to its output, as the host tells where it does. The
-- event is the flat machine's step over every bytes that the files of the devices may have: what is taken comes before what
-- is left of that input, where nothing is left once it has ended, what is sent goes behind what was sent before, and the
-- other files stay as they are.
pub record StepsFilled (old : Kernel) (e : Event) (new : Kernel) (reply : Reply) (before after : HostView) (v w : StoreView) : Type 0 where
  pub taken : List ℕ
  pub sent : List ℕ
  pub ended : Bool
  pub input : Consumes (told_at before (input_at (entry old.config.devices (device_of e)))) (told_at after (input_at (entry old.config.devices (device_of e)))) taken
  pub output : Appends (told_at before (output_at (entry old.config.devices (device_of e)))) (told_at after (output_at (entry old.config.devices (device_of e)))) sent
  pub at_end : ended ≡ true → IsAtEnd (told_at after (input_at (entry old.config.devices (device_of e))))
  pub steps : (rests sents : ℕ → List ℕ) → AreFiles input_at old.config.devices rests → AreFiles output_at old.config.devices sents → (ended ≡ true → rests (device_of e) ≡ [])
      → StepsTold (state_over old v (filled_at (device_of e) (taken ++ rests (device_of e)) rests) sents) e (state_over new w rests (filled_at (device_of e) (sents (device_of e) ++ sent) sents)) reply
