use Rattle.std.proofs.Common.{false, refl, replicate}
use Rattle.std.proofs.lemmas.List.{length-replicate}
use Rattle.genie_spaces.proofs.Marking.{number_fresh}
use Rattle.genie_spaces.proofs.number.fresh_number.Goals as goal

pub mark_spaces-requires : goal.mark_spaces-requires
mark_spaces-requires c = c.requires.spaced.processes

pub returns : goal.returns
returns c = number_fresh c.args.kernel.now (replicate 577 false) c.mark_spaces.new.marks c.mark_transfers.new.marks c.first_unmarked.result refl (length-replicate 577 false) c.mark_spaces.ensures c.mark_transfers.ensures c.first_unmarked.ensures
