use Rattle.genie_object.specs.Lemmas.Laws.{parts_unseen}
use Rattle.genie_object.proofs.laws.parted_page_law.Goals as goal

pub returns : goal.returns
returns c = parts_unseen
