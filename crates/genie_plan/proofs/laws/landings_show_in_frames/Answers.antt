use Rattle.genie_plan.specs.Lemmas.Landings.{in_frames}
use Rattle.genie_plan.proofs.laws.landings_show_in_frames.Goals as goal

pub returns : goal.returns
returns c = in_frames
