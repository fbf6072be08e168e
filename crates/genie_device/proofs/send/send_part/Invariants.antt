use Rattle.std.proofs.Common.{◌-◌, ◌++◌}
use Rattle.genie_device.proofs.Sending.{Appended}
use Rattle.genie_device.proofs.send.send_part.Given as goal

abbrev pub invariant-pieces : goal.invariant-pieces
invariant-pieces g l = Appended l.handle l.at l.budget (g.H.Host.view l.initial.host) (g.H.Host.view l.host) (l.header ++ g.O.Outgoing.payload l.from) l.moved

abbrev pub decreases-pieces : goal.decreases-pieces
decreases-pieces g l = l.budget - l.moved
