use Rattle.std.proofs.Common.{◌<◌, [], ◌∷◌, ◌++◌, length, sym, ap, ◌∙◌}
use Rattle.std.specs.Prelude.{map, None}
use Rattle.std.specs.Option.{option_map}
use Rattle.std.proofs.lemmas.List.{length-map, get_or-map}
use Rattle.genie_base.specs.Configs.{device_config}
use Rattle.genie_model.specs.State.{boot_device}
use Rattle.genie_flat.proofs.BootedDevices.{booted_more}
use Rattle.genie_flat.proofs.flat.boot_devices.Goals as goal

pub loop-config-preserved : goal.loop-config-preserved
loop-config-preserved c =
    let configs = map (option_map device_config) c.args.configs.now in
    let i = c.loop-config.config-index in
    let within : i < length configs = simp length-map c.loop-config-test.true in
    booted_more (λ _. []) c.loop-config.devices.items c.push.new.self.items _ configs i None within c.loop-config.invariant
    (c.in_ok-push.ensures.items ∙ ap (λ x. c.loop-config.devices.items ++ x ∷ []) (c.boot_device.ensures i ∙ ap (boot_device (λ _. []) i) (sym (get_or-map (option_map device_config) c.args.configs.now i _ None c.loop-config-test.true))))
