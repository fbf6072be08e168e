use Rattle.std.proofs.Common.{◌-◌, arith}
use Rattle.genie_gen.proofs.Lines.{first_line}
use Rattle.genie_gen.proofs.source.rounds_from.Goals as goal

pub returns-clause-text : goal.returns-clause-text
returns-clause-text c =
    rw (c.draw_round-round.ensures.round, c.draw_round-round.ensures.state)
    (first_line c.args.state c.args.number c.args.rounds (c.args.rounds - 1) (let some = c.if-rounds-eq0.false in grind arith))
