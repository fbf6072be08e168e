use Rattle.std.proofs.Common.{refl, sym, subst}
use Rattle.genie_base.specs.Configs.{Fits}
use Rattle.genie_running.proofs.Wires.{wired_config}
use Rattle.genie_running.proofs.wiring.wired.Goals as goal

pub returns-clause-wired : goal.returns-clause-wired
returns-clause-wired c = wired_config c.config-config.result _ c.args.part.now c.config-config.ensures.config refl (rw c.devices.ensures.lines at c.wire_all.ensures) c.requires

pub returns-clause-fits : goal.returns-clause-fits
returns-clause-fits c =
    let wired = returns-clause-wired c in
    subst Fits (sym wired.config) (subst Fits c.config-config.ensures.config c.config-config.ensures.fits)
