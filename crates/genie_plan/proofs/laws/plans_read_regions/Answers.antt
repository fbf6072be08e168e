use Rattle.genie_plan.specs.Lemmas.Landings.{reads_region}
use Rattle.genie_plan.proofs.laws.plans_read_regions.Goals as goal

pub returns : goal.returns
returns c = reads_region
