use Rattle.genie_base.specs.Configs.{config_of}
use Rattle.genie_script.proofs.Bounds.{limits_told}
use Rattle.genie_script.proofs.boot_part.limits_kept.Goals as goal

pub returns : goal.returns
returns c = limits_told (config_of c.args.config.now) c.args.device.now c.fits.result c.requires.fits c.requires.place (rw c.with_line.ensures at c.fits.ensures)
