use Rattle.genie_object.specs.Lemmas.Renamed.{sound_renamed}
use Rattle.genie_object.proofs.laws.fresh_page_law.Goals as goal

pub returns : goal.returns
returns c = sound_renamed
