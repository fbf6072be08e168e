use Rattle.std.proofs.Common.{arith, rules}
use Rattle.genie_kernel_rows.proofs.Handles.{wired_more}
use Rattle.genie_kernel_rows.proofs.wiring.wire.Goals as goal

pub returns-clause-wired : goal.returns-clause-wired
returns-clause-wired g c = wired_more c.args.devices.now c.args.line.now.number _ _ _ _ (grind (arith, c.told-devices, c.if-place-ge8.false)) (search rules) c.requires.wired c.in-Ok.ensures c.in-Ok-open_output.ensures
