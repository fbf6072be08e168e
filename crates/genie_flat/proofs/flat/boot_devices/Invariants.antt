use Rattle.std.proofs.Common.{◌≡◌, ◌++◌, [], drop}
use Rattle.std.specs.Prelude.{map}
use Rattle.std.specs.Option.{option_map}
use Rattle.genie_base.specs.Configs.{device_config}
use Rattle.genie_model.specs.State.{boot_devices}
use Rattle.genie_flat.proofs.flat.boot_devices.Given as goal

abbrev pub invariant-loop-config : goal.invariant-loop-config
invariant-loop-config l =
    let configs = map (option_map device_config) l.configs in
    l.devices.items ++ boot_devices (λ _. []) l.config-index (drop l.config-index configs) ≡ boot_devices (λ _. []) 0 configs
