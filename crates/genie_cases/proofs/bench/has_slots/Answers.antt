use Rattle.std.proofs.Common.{arith}
use Rattle.genie_cases.proofs.Visible.{visible_taken}
use Rattle.genie_cases.proofs.bench.has_slots.Goals as goal

pub returns : goal.returns
returns c = λ e hidden. omega (arith, c.if-taken-free.false, visible_taken c.args.memory.now.objects hidden c.args.memory.now.frames.owners, c.len.ensures.number, c.free.ensures, c.free-2.ensures)
