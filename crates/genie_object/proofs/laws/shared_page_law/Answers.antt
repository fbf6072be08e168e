use Rattle.genie_object.specs.Lemmas.Laws.{shares_soundly}
use Rattle.genie_object.proofs.laws.shared_page_law.Goals as goal

pub returns : goal.returns
returns c = shares_soundly
