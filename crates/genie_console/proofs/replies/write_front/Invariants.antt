use Rattle.std.proofs.Common.{length, ◌-◌}
use Rattle.genie_console.proofs.Writing.{Written}
use Rattle.genie_console.proofs.replies.write_front.Given as goal

abbrev pub invariant-writes : goal.invariant-writes
invariant-writes g l = Written (g.H.Host.view l.fn.host) (g.H.Host.view l.host) l.bytes l.count

abbrev pub decreases-writes : goal.decreases-writes
decreases-writes g l = length l.bytes - l.count
