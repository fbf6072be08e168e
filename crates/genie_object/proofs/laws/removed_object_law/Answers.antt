use Rattle.genie_object.specs.Lemmas.Laws.{removes_unseen}
use Rattle.genie_object.proofs.laws.removed_object_law.Goals as goal

pub returns : goal.returns
returns c = removes_unseen
