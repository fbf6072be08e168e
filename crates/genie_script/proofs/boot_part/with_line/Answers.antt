use Rattle.std.proofs.Common.{ap, ◌∙◌}
use Rattle.std.specs.Prelude.{Some, slice_set}
use Rattle.genie_base.specs.Configs.{device_config, config_of}
use Rattle.std.specs.Option.{option_map}
use Rattle.std.proofs.lemmas.List.{map-set}
use Rattle.genie_script.proofs.boot_part.with_line.Goals as goal

pub returns : goal.returns
returns c =
    let config = config_of c.args.config.now in
    ap (λ devices. record config { devices = devices }) (map-set (option_map device_config) c.args.config.now.devices c.args.device.now.number (Some c.config_of_line.result) ∙ ap (λ d. slice_set config.devices c.args.device.now.number (Some d)) c.config_of_line.ensures)
