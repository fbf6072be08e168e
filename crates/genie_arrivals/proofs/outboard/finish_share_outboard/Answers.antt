use Rattle.genie_arrivals.proofs.Unlanded.{alone_lands}
use Rattle.genie_arrivals.proofs.Found.{found_some}
use Rattle.genie_arrivals.proofs.outboard.finish_share_outboard.Goals as goal

pub place_of_bytes-requires : goal.place_of_bytes-requires
place_of_bytes-requires c = found_some c.args.kernel.now c.args.id.0 c.requires.accepted

pub returns-in-Gone : goal.returns-in-Gone
returns-in-Gone c = alone_lands c.args.kernel.now c.finish_gone_late.new.kernel c.args.id.0 c.finish_gone_late.result (found_some c.args.kernel.now c.args.id.0 c.requires.accepted) c.finish_gone_late.ensures.ends

pub returns-in-Lost : goal.returns-in-Lost
returns-in-Lost c = alone_lands c.args.kernel.now c.finish_lost_late.new.kernel c.args.id.0 c.finish_lost_late.result (found_some c.args.kernel.now c.args.id.0 c.requires.accepted) c.finish_lost_late.ensures.ends
