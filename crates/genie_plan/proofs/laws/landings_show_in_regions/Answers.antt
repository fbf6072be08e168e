use Rattle.genie_plan.specs.Lemmas.Landings.{in_region}
use Rattle.genie_plan.proofs.laws.landings_show_in_regions.Goals as goal

pub returns : goal.returns
returns c = in_region
