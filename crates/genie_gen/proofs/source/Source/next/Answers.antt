use Rattle.std.proofs.Common.{◌+◌, ◌<◌, arith, sym, ◌∙◌}
use Rattle.genie_gen.proofs.Lines.{behind_last, left_at_line}
use Rattle.genie_gen.proofs.source.Source.next.Goals as goal

pub returns-then-line-eq-LINES-clause-text : goal.returns-then-line-eq-LINES-clause-text
returns-then-line-eq-LINES-clause-text c =
    rw c.in-Line.is (c.rounds_from-then-line-eq-LINES.ensures.text ∙ sym (behind_last c.in-Line.line c.in-Line.round c.in-Line.number c.in-Line.state c.in-Line.rounds c.if-line-eq-LINES.true))

pub returns-else-line-eq-LINES-clause-text : goal.returns-else-line-eq-LINES-clause-text
returns-else-line-eq-LINES-clause-text c =
    let within : c.in-Line.line + 1 < 27 = (let place = rw c.in-Line.is at c.requires in omega (arith, place.0, c.if-line-eq-LINES.false)) in
    rw c.in-Line.is (left_at_line (c.in-Line.line + 1) c.in-Line.round c.in-Line.number c.in-Line.state c.in-Line.rounds within)
