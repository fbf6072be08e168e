use Rattle.std.proofs.Common.{false, refl, replicate}
use Rattle.std.proofs.lemmas.List.{length-replicate}
use Rattle.genie_spaces.proofs.Beside.{number_beside}
use Rattle.genie_spaces.proofs.number.fresh_beside.Goals as goal

pub returns : goal.returns
returns c = number_beside c.args.kernel.now c.args.copies.now (replicate 577 false) c.mark_spaces.new.marks c.mark_regions.new.marks c.mark_transfers.new.marks c.first_unmarked.result c.requires refl (length-replicate 577 false) c.mark_spaces.ensures c.mark_regions.ensures c.mark_transfers.ensures c.first_unmarked.ensures
