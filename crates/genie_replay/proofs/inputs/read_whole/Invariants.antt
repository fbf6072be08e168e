use Rattle.genie_replay.proofs.Gathering.{Gathered}
use Rattle.genie_replay.proofs.inputs.read_whole.Given as goal

abbrev pub invariant-pieces : goal.invariant-pieces
invariant-pieces g l = Gathered l.handle (g.H.Host.view l.fn.host) (g.H.Host.view l.host) l.bytes.items
