use Rattle.genie_object.specs.Lemmas.Laws.{drops_soundly}
use Rattle.genie_object.proofs.laws.last_holder_law.Goals as goal

pub returns : goal.returns
returns c = drops_soundly
