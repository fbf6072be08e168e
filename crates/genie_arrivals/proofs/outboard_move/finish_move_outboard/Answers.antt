use Rattle.genie_arrivals.proofs.Closing.{alone_serves}
use Rattle.genie_arrivals.proofs.Found.{found_some}
use Rattle.genie_arrivals.proofs.MoveCases.{move_gone, move_lost}
use Rattle.genie_arrivals.proofs.outboard_move.finish_move_outboard.Goals as goal
use Rattle.genie_arrivals.proofs.EarlyCosts.{alone_keeps}

pub is_gone-requires : goal.is_gone-requires
is_gone-requires g c = found_some c.args.kernel.now c.args.id.0 c.requires.accepted

pub region_range-requires : goal.region_range-requires
region_range-requires g c = found_some c.args.kernel.now c.args.id.0 c.requires.accepted

pub finish_gone_late-requires-clause-case : goal.finish_gone_late-requires-clause-case
finish_gone_late-requires-clause-case g c = move_gone c.args.kernel.now c.args.id.0 c.requires.case (c.is_gone.ensures.yes c.if-is_gone.true)

pub finish_lost_late-requires-clause-case : goal.finish_lost_late-requires-clause-case
finish_lost_late-requires-clause-case g c = move_lost c.args.kernel.now c.args.id.0 c.requires.case (c.is_gone.ensures.no c.if-is_gone.false) (c.region_range.ensures.none c.in-None.is)

pub returns-then-is_gone-clause-serves : goal.returns-then-is_gone-clause-serves
returns-then-is_gone-clause-serves g c = alone_serves c.accepted_events_step.ensures.alone c.args.kernel.now c.finish_gone_late.new.kernel (g.S.Store.view c.args.store.now) c.args.id.0 c.finish_gone_late.result c.requires.accepted c.requires.sized c.finish_gone_late.ensures.ends

pub returns-in-None-clause-serves : goal.returns-in-None-clause-serves
returns-in-None-clause-serves g c = alone_serves c.accepted_events_step.ensures.alone c.args.kernel.now c.finish_lost_late.new.kernel (g.S.Store.view c.args.store.now) c.args.id.0 c.finish_lost_late.result c.requires.accepted c.requires.sized c.finish_lost_late.ensures.ends

pub returns-then-is_gone-clause-copying : goal.returns-then-is_gone-clause-copying
returns-then-is_gone-clause-copying g c = alone_keeps c.args.kernel.now c.finish_gone_late.new.kernel c.args.id.0 c.finish_gone_late.result c.finish_gone_late.ensures.ends.meters

pub returns-in-None-clause-copying : goal.returns-in-None-clause-copying
returns-in-None-clause-copying g c = alone_keeps c.args.kernel.now c.finish_lost_late.new.kernel c.args.id.0 c.finish_lost_late.result c.finish_lost_late.ensures.ends.meters
