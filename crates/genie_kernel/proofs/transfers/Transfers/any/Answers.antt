use Rattle.std.proofs.Common.{sym}
use Rattle.genie_kernel.specs.Order.{no_transfer}
use Rattle.genie_kernel.specs.Searches.{passes}
use Rattle.genie_kernel.specs.Lemmas.Searching.{first_any}
use Rattle.genie_kernel.proofs.transfers.Transfers.any.Goals as goal

pub returns-in-Some : goal.returns-in-Some
returns-in-Some c = sym (first_any (passes c.args.search) c.args.self.now c.in-Some.field-0 no_transfer c.in-Some.ensures.found)
