use Rattle.std.proofs.Common.{length}
use Rattle.genie_running.proofs.wiring.+wire_all.Given as goal

abbrev pub decreases-wire_all : goal.decreases-wire_all
decreases-wire_all l = length l.lines.now
