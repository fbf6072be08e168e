use Rattle.std.proofs.Common.{sym, ◌∙◌}
use Rattle.genie_region.specs.Layouts.{starts_at}
use Rattle.genie_base.specs.Lemmas.Searches.{find_there, find_nowhere}
use Rattle.genie_region.proofs.Orders.{blank}
use Rattle.genie_region.proofs.regions.with_start.Goals as goal

pub returns-in_err-at : goal.returns-in_err-at
returns-in_err-at c = rw c.from_residual.ensures (sym (find_nowhere (starts_at c.args.page) c.args.regions.now (sym c.place_of_start.ensures ∙ c.in_err-at.was)))

pub returns : goal.returns
returns c = sym (find_there (starts_at c.args.page) blank c.args.regions.now c.in_ok-at.at (sym c.place_of_start.ensures ∙ c.in_ok-at.was))
