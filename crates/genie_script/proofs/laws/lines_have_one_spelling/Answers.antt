use Rattle.genie_script.proofs.ReadAgain.{read_again}
use Rattle.genie_script.proofs.SpelledSo.{spelled_so}
use Rattle.genie_script.proofs.laws.lines_have_one_spelling.Goals as goal

pub returns : goal.returns
returns c = record { again = read_again; spelled = spelled_so }
