use Rattle.std.proofs.Common.{◌≡◌}
use Rattle.genie_kernel_rows.proofs.scenes.add_sinks.Given as goal

abbrev pub invariant-devices : goal.invariant-devices
invariant-devices l = l.host.opened ≡ l.fn.host.opened
