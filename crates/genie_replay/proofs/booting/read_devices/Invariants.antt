use Rattle.std.specs.Io.KnownBytes.{prepend_known}
use Rattle.genie_replay.proofs.Boots.{Adding}
use Rattle.genie_replay.proofs.booting.read_devices.Given as goal

abbrev pub invariant-lines : goal.invariant-lines
invariant-lines g l =
    Adding l.name l.fn.part l.before (g.H.Host.view l.fn.host) (g.H.Host.view l.host)
    (prepend_known l.fn.script ((g.H.Host.view l.fn.host).handle 1).bytes) (prepend_known l.script ((g.H.Host.view l.host).handle 1).bytes) l.part l.at
