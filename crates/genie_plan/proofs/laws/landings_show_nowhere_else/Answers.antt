use Rattle.genie_plan.specs.Lemmas.Landings.{elsewhere}
use Rattle.genie_plan.proofs.laws.landings_show_nowhere_else.Goals as goal

pub returns : goal.returns
returns c old new first len at frames taken slots x = elsewhere old new first len at frames taken slots x
