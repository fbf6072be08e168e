use Rattle.genie_plan.specs.Lemmas.Landings.{lands_soundly}
use Rattle.genie_plan.proofs.laws.landings_are_sound.Goals as goal

pub returns : goal.returns
returns c = lands_soundly
