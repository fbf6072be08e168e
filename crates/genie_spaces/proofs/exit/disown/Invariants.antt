use Rattle.genie_spaces.proofs.Disowning.{Disowns}
use Rattle.genie_spaces.proofs.exit.disown.Given as goal

abbrev pub invariant-each : goal.invariant-each
invariant-each l = Disowns l.pid l.i l.fn.transfers l.transfers
