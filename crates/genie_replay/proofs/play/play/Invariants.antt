use Rattle.std.specs.Io.KnownBytes.{prepend_known}
use Rattle.genie_replay.specs.Lemmas.Remaining.{LeftLine}
use Rattle.genie_replay.proofs.Stepping.{SoFar}
use Rattle.genie_replay.proofs.play.play.Given as goal

abbrev pub invariant-lines : goal.invariant-lines
invariant-lines g l =
    SoFar l.fn.flat l.flat (g.H.Host.view l.fn.host) (g.H.Host.view l.host) l.at
    (LeftLine (prepend_known l.fn.script ((g.H.Host.view l.fn.host).handle 1).bytes) (prepend_known l.script ((g.H.Host.view l.host).handle 1).bytes) l.fn.step l.fn.line l.step l.line l.before l.at)
