use Rattle.genie_object.specs.Lemmas.Relocated.{sound_relocated}
use Rattle.genie_object.proofs.laws.moved_page_law.Goals as goal

pub returns : goal.returns
returns c = sound_relocated
