use Rattle.genie_finish.proofs.Tabling.{ends_cost_little}
use Rattle.genie_finish.proofs.laws.whole_pages_cost_nothing.Goals as goal

pub returns : goal.returns
returns c = ends_cost_little
