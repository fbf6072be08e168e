use Rattle.std.proofs.Common.{arith}
use Rattle.std.specs.Prelude.{None}
use Rattle.genie_spaces.specs.Marks.{has_region}
use Rattle.genie_spaces.proofs.Marking.{marks_begin, marks_next, marks_all}
use Rattle.genie_spaces.proofs.number.mark_spaces.Goals as goal

pub processes-init : goal.processes-init
processes-init c = marks_begin has_region c.args.spaces.now.processes c.args.marks.now

pub processes-preserved : goal.processes-preserved
processes-preserved c = marks_next has_region c.args.spaces.now.processes c.processes.pid None c.args.marks.now c.processes.marks c.mark_process.new.marks (omega (arith, c.requires, c.processes-test.true)) c.processes.invariant c.mark_process.ensures

pub returns : goal.returns
returns c = marks_all has_region c.args.spaces.now.processes c.processes.pid c.args.marks.now c.processes.marks (omega (arith, c.requires, c.processes-test.false)) c.processes.invariant
