use Rattle.std.specs.Io.KnownBytes.{prepend_known}
use Rattle.genie_replay.specs.Lemmas.Remaining.{LeftLine}
use Rattle.genie_playing.specs.Moments.{moment}
use Rattle.genie_playing.proofs.Playing.{SoFar}
use Rattle.genie_playing.proofs.play.play.Given as goal

abbrev pub invariant-lines : goal.invariant-lines
invariant-lines g l =
    SoFar l.fn.listing (moment l.fn.kernel (g.H.Host.view l.fn.host) (g.S.Store.view l.fn.store)) (moment l.kernel (g.H.Host.view l.host) (g.S.Store.view l.store)) l.at
    (LeftLine (prepend_known l.fn.script ((g.H.Host.view l.fn.host).handle 1).bytes) (prepend_known l.script ((g.H.Host.view l.host).handle 1).bytes) l.fn.step l.fn.line l.step l.line l.before l.at)
