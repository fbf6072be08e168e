use Rattle.genie_gen.proofs.MadeLines.{whole}
use Rattle.genie_gen.proofs.laws.made_scripts_are_whole.Goals as goal

pub returns : goal.returns
returns c = whole c.lines_have_one_spelling.ensures.again c.spellings_are_lines.ensures.lines c.spellings_are_lines.ensures.short
