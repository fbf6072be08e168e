use Rattle.genie_arrivals.proofs.Closing.{alone_serves, paged_serves}
use Rattle.genie_arrivals.proofs.Found.{found_some}
use Rattle.genie_arrivals.proofs.finish.finish_by_class.Goals as goal

pub class_at-requires : goal.class_at-requires
class_at-requires g c = found_some c.args.kernel.now c.args.id.0 c.requires.accepted

pub returns-in-Share-clause-serves : goal.returns-in-Share-clause-serves
returns-in-Share-clause-serves g c = alone_serves c.accepted_events_step.ensures.alone c.args.kernel.now c.finish_share_early.new.kernel (g.S.Store.view c.args.store.now) c.args.id.0 c.finish_share_early.result c.requires.accepted c.requires.sized c.finish_share_early.ensures.ends

pub returns-in-Move-clause-serves : goal.returns-in-Move-clause-serves
returns-in-Move-clause-serves g c = paged_serves c.paged_events_are_told.ensures c.args.kernel.now c.finish_move_early.new.kernel (g.S.Store.view c.args.store.now) c.args.id.0 c.finish_move_early.result c.requires.accepted c.requires.sized (g.met.S.Store.paged c.args.store.now) c.finish_move_early.ensures.ends

pub returns-in-WeakMove-clause-serves : goal.returns-in-WeakMove-clause-serves
returns-in-WeakMove-clause-serves g c = alone_serves c.accepted_events_step.ensures.alone c.args.kernel.now c.finish_weak_move_early.new.kernel (g.S.Store.view c.args.store.now) c.args.id.0 c.finish_weak_move_early.result c.requires.accepted c.requires.sized c.finish_weak_move_early.ensures.ends
