use Rattle.std.proofs.Common.{sym, ◌∙◌}
use Rattle.genie_region.specs.Layouts.{has_id}
use Rattle.genie_base.specs.Lemmas.Searches.{find_there, find_nowhere}
use Rattle.genie_region.proofs.Orders.{blank}
use Rattle.genie_region.proofs.regions.with_id.Goals as goal

pub returns-in_err-at : goal.returns-in_err-at
returns-in_err-at c = rw c.from_residual.ensures (sym (find_nowhere (has_id c.args.id) c.args.regions.now (sym c.place_of_id.ensures ∙ c.in_err-at.was)))

pub returns : goal.returns
returns c = sym (find_there (has_id c.args.id) blank c.args.regions.now c.in_ok-at.at (sym c.place_of_id.ensures ∙ c.in_ok-at.was))
