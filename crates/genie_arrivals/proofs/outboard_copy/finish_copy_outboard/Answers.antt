use Rattle.genie_arrivals.proofs.Closing.{alone_serves}
use Rattle.genie_arrivals.proofs.Found.{found_some}
use Rattle.genie_arrivals.proofs.outboard_copy.finish_copy_outboard.Goals as goal
use Rattle.genie_arrivals.proofs.EarlyCosts.{alone_keeps}

pub find_target-requires-clause-pending : goal.find_target-requires-clause-pending
find_target-requires-clause-pending g c = found_some c.args.kernel.now c.args.id.0 c.requires.accepted

pub returns-in-None-clause-serves : goal.returns-in-None-clause-serves
returns-in-None-clause-serves g c = alone_serves c.accepted_events_step.ensures.alone c.args.kernel.now c.drop_landed.new.kernel (g.S.Store.view c.args.store.now) c.args.id.0 c.drop_landed.result c.requires.accepted c.requires.sized c.drop_landed.ensures

pub returns-in-None-clause-copying : goal.returns-in-None-clause-copying
returns-in-None-clause-copying g c = alone_keeps c.args.kernel.now c.drop_landed.new.kernel c.args.id.0 c.drop_landed.result c.drop_landed.ensures.meters
