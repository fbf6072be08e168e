-- A receive step that isn't refused.
use Rattle.std.proofs.Common.{◌≡◌, ℕ, ◌<◌, ◌≤◌, zero, suc, Bool, true, not, List, [], ◌∷◌, refl, sym, ap, arith, rules, ◌∙◌, map}
use Rattle.std.specs.Prelude.{Option, Some, None, is_some}
use Rattle.std.specs.Option.{option_map}
use Rattle.std.proofs.lemmas.Bool.{not-false}
use Rattle.genie_base.specs.Configs.{config_of, device_config}
use Rattle.genie_base.specs.declared.config.DeviceConfig.{DeviceConfig}
use Rattle.genie_base.specs.declared.event.Event.TheVariants.{Recv}
use Rattle.genie_base.specs.declared.refusal.Refusal.{Refusal}
use Rattle.genie_base.specs.declared.refusal.Refusal.TheVariants as cause
use Rattle.genie_device.specs.Device.{DeviceView, IsReading, handle_of}
use Rattle.genie_host.specs.Host.{HostView}
use Rattle.genie_model.specs.Refusing.{refuse, has_input, is_within}
use Rattle.genie_model.specs.Tables.{entry}
use Rattle.genie_model.specs.Lemmas.Causes.{first_none}
use Rattle.genie_kernel.specs.declared.kernel.Kernel.{Kernel}
use Rattle.genie_kernel.specs.Good.{IsGood}
use Rattle.genie_kernel.specs.Handles.{HasHandles}
use Rattle.genie_kernel.specs.Told.{input_at}
use Rattle.genie_kernel.specs.View.{outline}
use Rattle.genie_gathering.specs.Receiving.{input_of}
use Rattle.genie_gathering.proofs.Good.{configured}
use Rattle.genie_gathering.proofs.Handles.{input_open}

entry_mapped : {X Y : Type 0} (f : X → Y) (xs : List (Option X)) (d : ℕ) → entry (map (option_map f) xs) d ≡ option_map f (entry xs d)
entry_mapped f [] d = refl
entry_mapped f (x ∷ xs) zero = refl
entry_mapped f (x ∷ xs) (suc d) = entry_mapped f xs d

-- the budget is one of a step, and the device has an input
pub record MayReceive (k : Kernel) (d n : ℕ) : Type 0 where
  pub some : 0 < n
  pub most : n ≤ 65536
  pub config : DeviceConfig
  pub there : entry k.config.devices d ≡ Some config
  pub handle : ℕ
  pub input : config.input ≡ Some handle

some_input : (o : Option DeviceConfig) → has_input (option_map device_config o) ≡ true → (c : DeviceConfig) × (o ≡ Some c) × (is_some c.input ≡ true)
some_input None e = absurd (cc)
some_input (Some c) e = (c, refl, e)

is_something : (o : Option ℕ) → is_some o ≡ true → (h : ℕ) × (o ≡ Some h)
is_something None e = absurd (cc)
is_something (Some h) e = (h, refl)

pub may_receive : (k : Kernel) (d n : ℕ) → refuse (outline k) (Recv d n) ≡ None → MayReceive k d n
may_receive k d n h =
    let device : Bool × Refusal = (not (has_input (entry (config_of k.config).devices d)), cause.Dev) in
    let range : Bool × Refusal = (not (is_within 1 65536 n), cause.Range) in
    let one = first_none device (range ∷ []) h in
    let two = first_none range [] one.1 in
    let within : is_within 1 65536 n ≡ true = not-false (is_within 1 65536 n) two.0 in
    let has : has_input (option_map device_config (entry k.config.devices d)) ≡ true = sym (ap has_input (entry_mapped device_config k.config.devices d)) ∙ not-false (has_input (entry (config_of k.config).devices d)) one.0 in
    let c = some_input (entry k.config.devices d) has in
    let i = is_something c.0.input c.2 in
    record { some = grind (arith, rules, within); most = grind (arith, rules, within); config = c.0; there = c.1; handle = i.0; input = i.1 }

-- its handle is the one of the configuration
pub named : (k : Kernel) (d n : ℕ) → refuse (outline k) (Recv d n) ≡ None → input_at (entry k.config.devices d) ≡ Some (input_of k.config d)
named k d n h =
    let m = may_receive k d n h in
    let at : input_at (entry k.config.devices d) ≡ Some m.handle = ap input_at m.there ∙ m.input in
    at ∙ ap Some (sym (ap handle_of at))

-- and a reading one
pub reading : (k : Kernel) (d n : ℕ) (v : DeviceView) (host : HostView) → IsGood k → refuse (outline k) (Recv d n) ≡ None → HasHandles k.config host → entry k.devices d ≡ Some v → IsReading v.config.input host
reading k d n v host g h handles there =
    let at = (configured k d v g there).0 in
    input_open k.config host d (input_of k.config d) v.config handles at (sym (ap input_at at) ∙ named k d n h)
