use Rattle.std.proofs.Common.{◌≡◌}
use Rattle.genie_host.specs.Host.{Reading}
use Rattle.genie_host.proofs.tests.reads.Given as goal

abbrev pub invariant-loop-count : goal.invariant-loop-count
invariant-loop-count g l = (((g.H.Host.view l.host).handle l.handle).mode ≡ Reading) × ((g.H.Host.view l.host).opened ≡ (g.H.Host.view l.fn.host).opened)
