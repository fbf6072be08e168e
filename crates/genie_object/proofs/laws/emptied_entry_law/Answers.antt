use Rattle.genie_object.specs.Lemmas.Laws.{empties_soundly}
use Rattle.genie_object.proofs.laws.emptied_entry_law.Goals as goal

pub returns : goal.returns
returns c = empties_soundly
