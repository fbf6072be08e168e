use Rattle.std.specs.Prelude.{◌≤◌}
use Rattle.genie_kernel_rows.specs.Runs.{AreWired}
use Rattle.genie_kernel_rows.proofs.wiring.wire_all.Given as goal

abbrev pub invariant-lines : goal.invariant-lines
invariant-lines g l = AreWired l.devices (g.H.Host.view l.host) × ((g.H.Host.view l.host).opened ≤ l.opened) × (l.opened ≤ 18)
