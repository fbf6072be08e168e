use Rattle.std.proofs.Common.{sym, ap, Some, ◌∙◌, refl}
use Rattle.genie_model.specs.Lemmas.Lists.{find_none}
use Rattle.genie_kernel.specs.Order.{no_transfer}
use Rattle.genie_kernel.specs.Searches.{passes}
use Rattle.genie_kernel.specs.Lemmas.Searching.{first_found}
use Rattle.genie_kernel.proofs.transfers.Transfers.find.Goals as goal

pub returns-in-Some : goal.returns-in-Some
returns-in-Some c = sym (first_found (passes c.args.search) c.args.self.now c.in-Some.i no_transfer c.in-Some.ensures.found ∙ ap Some (c.at.ensures no_transfer))

pub returns-in-None : goal.returns-in-None
returns-in-None c = sym (find_none (passes c.args.search) c.args.self.now (c.in-None.ensures.none refl))
