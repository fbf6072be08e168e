use Rattle.genie_base.specs.declared.semantics.Class.TheVariants.{Move}
use Rattle.std.proofs.Common.{refl}
use Rattle.genie_arrivals.proofs.Closing.{alone_serves}
use Rattle.genie_arrivals.proofs.Found.{found_some}
use Rattle.genie_arrivals.proofs.PooledCases.{pooled_gone, pooled_lost}
use Rattle.genie_arrivals.proofs.pooled_move.finish_move_pooled.Goals as goal

pub is_gone-requires : goal.is_gone-requires
is_gone-requires g c = found_some c.args.kernel.now c.args.id.0 c.requires.accepted

pub region_range-requires : goal.region_range-requires
region_range-requires g c = found_some c.args.kernel.now c.args.id.0 c.requires.accepted

pub finish_gone_late-requires-clause-case : goal.finish_gone_late-requires-clause-case
finish_gone_late-requires-clause-case g c = pooled_gone c.args.kernel.now c.args.id.0 Move c.requires.case (c.is_gone.ensures.yes c.if-is_gone.true)

pub finish_lost_late-requires-clause-case : goal.finish_lost_late-requires-clause-case
finish_lost_late-requires-clause-case g c = pooled_lost c.args.kernel.now c.args.id.0 Move refl c.requires.case (c.is_gone.ensures.no c.if-is_gone.false) (c.region_range.ensures.none c.in-None.is)

pub returns-then-is_gone : goal.returns-then-is_gone
returns-then-is_gone g c = alone_serves c.accepted_events_step.ensures.alone c.args.kernel.now c.finish_gone_late.new.kernel (g.S.Store.view c.args.store.now) c.args.id.0 c.finish_gone_late.result c.requires.accepted c.requires.sized c.finish_gone_late.ensures.ends

pub returns-in-None : goal.returns-in-None
returns-in-None g c = alone_serves c.accepted_events_step.ensures.alone c.args.kernel.now c.finish_lost_late.new.kernel (g.S.Store.view c.args.store.now) c.args.id.0 c.finish_lost_late.result c.requires.accepted c.requires.sized c.finish_lost_late.ensures.ends
