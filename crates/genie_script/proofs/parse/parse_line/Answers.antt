use Rattle.std.proofs.Common.{sym, ◌∙◌}
use Rattle.genie_script.proofs.Whole.{line_whole, whole_ok}
use Rattle.genie_script.proofs.parse.parse_line.Goals as goal

pub returns-clause-whole : goal.returns-clause-whole
returns-clause-whole c = rw c.ok_or.ensures.value (whole_ok c.read.result _ (λ l e. line_whole c.args.line.now l (sym c.read.ensures ∙ e)))
