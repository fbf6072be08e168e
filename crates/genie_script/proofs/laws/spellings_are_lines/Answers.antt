-- The spelling of a line is one line, and a script may have it.
use Rattle.genie_script.proofs.OneLine.{are_lines, are_short}
use Rattle.genie_script.proofs.laws.spellings_are_lines.Goals as goal

pub returns : goal.returns
returns c = record { lines = are_lines; short = are_short }
