use Rattle.std.proofs.Common.{◌≡◌}
use Rattle.genie_host.specs.Host.{Reading}
use Rattle.genie_kernel_rows.proofs.long.read_all.Given as goal

abbrev pub invariant-pieces : goal.invariant-pieces
invariant-pieces g l = ((g.H.Host.view l.host).handle l.handle).mode ≡ Reading
