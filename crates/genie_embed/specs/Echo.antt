-- The configuration of the quick start, and why a step of it fails.
use Rattle.std.specs.Prelude.{◌⊎◌, ℕ, ◌-◌, ◌^◌, ◌≤◌, ◌==◌, ◌&&◌, min, Bool, true, [], ◌∷◌, None, Some, Result, IfErr, ⊤}
use Rattle.genie_base.specs.Causes.{Rose}
use Rattle.genie_base.specs.Events.{is_whole}
use Rattle.genie_base.specs.declared.config.Config.{Config}
use Rattle.genie_base.specs.declared.config.DeviceConfig.{DeviceConfig}
use Rattle.genie_base.specs.declared.config.Kind.TheVariants.{Early}
use Rattle.genie_base.specs.declared.event.Event.{Event}
use Rattle.genie_base.specs.declared.event.Event.TheVariants.{Send, Recv}
use Rattle.genie_host.specs.Host.{HostView}
use Rattle.genie_store.specs.StoreView.{StoreView}
use Rattle.genie_embed.specs.declared.exchange.EchoError.{EchoError}
use Rattle.genie_embed.specs.declared.exchange.EchoError.TheVariants.{Memory, Host, Store, Nothing}

-- an early device that reads handle 1 and writes handle 2
abbrev pub echo_device : DeviceConfig
echo_device = record { kind = Early; input = Some 1; output = Some 2; depth = 1; offset = 0 }

-- pages of 16 bytes, 32 frames, and that device
abbrev pub echo_config : Config
echo_config = record { page = 16; frames = 32; slots = 64; cout = 0; rcout = 8; devices = Some echo_device ∷ None ∷ None ∷ None ∷ None ∷ None ∷ None ∷ None ∷ [] }

-- a device step is one of device 0
abbrev pub is_first_device : Event → Bool
is_first_device (Send dev len) = dev == 0
is_first_device (Recv dev len) = dev == 0
is_first_device e = true

abbrev pub is_ours : Event → Bool
is_ours e = is_whole e && is_first_device e

-- the count of a handle of the device rose, or that of the store
abbrev pub CauseOf : EchoError → HostView → HostView → StoreView → StoreView → Type 0
CauseOf Memory old new v w = ⊤
CauseOf Host old new v w = Rose (old.handle 1).faults (new.handle 1).faults ⊎ Rose (old.handle 2).faults (new.handle 2).faults
CauseOf Store old new v w = Rose v.faults w.faults
CauseOf Nothing old new v w = ⊤

-- the count didn't fall, or stands at its type's end
abbrev pub StaysCounted : ℕ → ℕ → Type 0
StaysCounted before now = min before (2 ^ 64 - 1) ≤ now

-- no count fell, and a failure has its cause
pub record IsCounted (old new : HostView) (v w : StoreView) (result : Result ℕ EchoError) : Type 0 where
  pub received : StaysCounted (old.handle 1).faults (new.handle 1).faults
  pub sent : StaysCounted (old.handle 2).faults (new.handle 2).faults
  pub store : StaysCounted v.faults w.faults
  pub cause : IfErr result (λ e. CauseOf e old new v w)
