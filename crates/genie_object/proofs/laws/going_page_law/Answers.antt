use Rattle.genie_object.specs.Lemmas.Laws.{goes_unseen}
use Rattle.genie_object.proofs.laws.going_page_law.Goals as goal

pub returns : goal.returns
returns c = goes_unseen
