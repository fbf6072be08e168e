use Rattle.std.proofs.Common.{◌-◌, length}
use Rattle.std.specs.Io.KnownBytes.{prepend_known}
use Rattle.genie_replay.proofs.Reading.{SoFar}
use Rattle.genie_replay.proofs.script.Script.next_line.Given as goal

abbrev pub invariant-bytes : goal.invariant-bytes
invariant-bytes g l =
    SoFar l.handle (g.H.Host.view l.fn.host) (g.H.Host.view l.host)
    (prepend_known l.fn.self ((g.H.Host.view l.fn.host).handle l.handle).bytes) (prepend_known l.self ((g.H.Host.view l.host).handle l.handle).bytes)
    (length l.fn.self) (length l.self) l.line

abbrev pub decreases-bytes : goal.decreases-bytes
decreases-bytes g l = 8301 - length l.line
