use Rattle.genie_plan.specs.Lemmas.Landings.{held_once}
use Rattle.genie_plan.proofs.laws.held_frames_have_one_entry.Goals as goal

pub returns : goal.returns
returns c = held_once
