use Rattle.std.proofs.Common.{◌≡◌}
use Rattle.genie_host.specs.Host.{Reading}
use Rattle.genie_gen.proofs.tests.begins_with.Given as goal

abbrev pub invariant-loop-piece : goal.invariant-loop-piece
invariant-loop-piece g l = ((g.H.Host.view l.host).handle l.handle).mode ≡ Reading
