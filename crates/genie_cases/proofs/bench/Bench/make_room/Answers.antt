use Rattle.std.proofs.Common.{arith}
use Rattle.genie_cases.proofs.Visible.{idle_available}
use Rattle.genie_cases.proofs.bench.Bench.make_room.Goals as goal

pub make_room-requires-clause-frames : goal.make_room-requires-clause-frames
make_room-requires-clause-frames g c = omega (arith, idle_available c.args.self.now.memory c.requires.well.sound c.requires.idle, c.if-k-len.false, c.len.ensures.number)
