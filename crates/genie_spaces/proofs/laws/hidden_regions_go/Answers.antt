use Rattle.genie_spaces.proofs.Discarding.{hidden_goes}
use Rattle.genie_spaces.proofs.laws.hidden_regions_go.Goals as goal

pub returns : goal.returns
returns c = hidden_goes
