-- Texts say alike.
use Rattle.genie_runs.proofs.Scripts.{scripts_say_alike, texts_say_alike}
use Rattle.genie_runs.proofs.laws.texts_say_alike.Goals as goal

pub returns : goal.returns
returns c = record {
  alike = texts_say_alike c.lines_have_one_spelling.ensures.again c.spellings_are_lines.ensures.short;
  renamed = scripts_say_alike c.lines_have_one_spelling.ensures.again c.spellings_are_lines.ensures.short;
}
