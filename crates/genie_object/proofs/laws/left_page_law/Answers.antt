use Rattle.genie_object.specs.Lemmas.Laws.{leaves_soundly}
use Rattle.genie_object.proofs.laws.left_page_law.Goals as goal

pub returns : goal.returns
returns c = leaves_soundly
