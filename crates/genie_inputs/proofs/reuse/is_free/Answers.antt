use Rattle.std.proofs.Common.{◌∙◌, true, false, not, sym, ap}
use Rattle.genie_inputs.proofs.Finding.{free_is}
use Rattle.genie_inputs.proofs.reuse.is_free.Goals as goal

pub returns-then-is_some : goal.returns-then-is_some
returns-then-is_some c = ap not c.any.ensures ∙ sym (free_is c.args.regions.now c.args.transfers.now c.args.id c.args.pages c.sized_region.result true c.sized_region.ensures c.if-is_some.ensures)

pub returns-else-is_some : goal.returns-else-is_some
returns-else-is_some c = c.is_some.ensures ∙ sym c.if-is_some.ensures ∙ sym (free_is c.args.regions.now c.args.transfers.now c.args.id c.args.pages c.sized_region.result false c.sized_region.ensures c.if-is_some.ensures)
