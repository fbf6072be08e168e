-- A loop that makes the devices.
use Rattle.std.proofs.Common.{◌≡◌, ℕ, suc, ◌+◌, ◌<◌, List, [], ◌∷◌, ◌++◌, length, drop, get_or, add-one, append_assoc, ap, ◌∙◌}
use Rattle.std.specs.Prelude.{Option}
use Rattle.std.proofs.Math.Seq.{drop-cons}
use Rattle.genie_base.specs.Configs.{DeviceConfig}
use Rattle.genie_model.specs.State.{Device, boot_device, boot_devices}

-- one device more
pub booted_more : (inputs : ℕ → List ℕ) (made now all : List (Option Device)) (configs : List (Option DeviceConfig)) (i : ℕ) (d : Option DeviceConfig) → i < length configs
    → made ++ boot_devices inputs i (drop i configs) ≡ all → now ≡ made ++ boot_device inputs i (get_or configs i d) ∷ [] → now ++ boot_devices inputs (i + 1) (drop (i + 1) configs) ≡ all
booted_more inputs made now all configs i d h so is =
    let next : drop i configs ≡ get_or configs i d ∷ drop (suc i) configs = drop-cons configs i d h in
    let step : made ++ boot_devices inputs i (get_or configs i d ∷ drop (suc i) configs) ≡ all = rw next at so in
    rw (is, append_assoc) (ap (λ n. made ++ (boot_device inputs i (get_or configs i d) ∷ boot_devices inputs (i + 1) (drop n configs))) (add-one i) ∙ step)
