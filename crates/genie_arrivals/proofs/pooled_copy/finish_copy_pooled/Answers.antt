use Rattle.genie_base.specs.declared.semantics.Class.TheVariants.{Copy}
use Rattle.genie_arrivals.proofs.Closing.{alone_serves}
use Rattle.genie_arrivals.proofs.Found.{found_some}
use Rattle.genie_arrivals.proofs.PooledAim.{pooled_dropped}
use Rattle.genie_arrivals.proofs.PooledCases.{pooled_gone}
use Rattle.genie_arrivals.proofs.pooled_copy.finish_copy_pooled.Goals as goal
use Rattle.genie_arrivals.proofs.EarlyCosts.{alone_keeps}
use Rattle.genie_arrivals.proofs.LateCosts.{each_keeps}
use Rattle.genie_kernel.specs.Calls.{has_number}
use Rattle.std.specs.Prelude.{find}

pub is_gone-requires : goal.is_gone-requires
is_gone-requires g c = found_some c.args.kernel.now c.args.id.0 c.requires.accepted

pub find_target-requires-clause-pending : goal.find_target-requires-clause-pending
find_target-requires-clause-pending g c = found_some c.args.kernel.now c.args.id.0 c.requires.accepted

pub finish_gone_late-requires-clause-case : goal.finish_gone_late-requires-clause-case
finish_gone_late-requires-clause-case g c = pooled_gone c.args.kernel.now c.args.id.0 Copy c.requires.case (c.is_gone.ensures.yes c.if-is_gone.true)

pub finish_lost_late-requires-clause-case : goal.finish_lost_late-requires-clause-case
finish_lost_late-requires-clause-case g c = pooled_dropped c.args.kernel.now c.args.id.0 c.requires.case (c.is_gone.ensures.no c.if-is_gone.false) (c.find_target.ensures.none c.in-None.is)

pub returns-then-is_gone-clause-serves : goal.returns-then-is_gone-clause-serves
returns-then-is_gone-clause-serves g c = alone_serves c.accepted_events_step.ensures.alone c.args.kernel.now c.finish_gone_late.new.kernel (g.S.Store.view c.args.store.now) c.args.id.0 c.finish_gone_late.result c.requires.accepted c.requires.sized c.finish_gone_late.ensures.ends

pub returns-in-None-clause-serves : goal.returns-in-None-clause-serves
returns-in-None-clause-serves g c = alone_serves c.accepted_events_step.ensures.alone c.args.kernel.now c.finish_lost_late.new.kernel (g.S.Store.view c.args.store.now) c.args.id.0 c.finish_lost_late.result c.requires.accepted c.requires.sized c.finish_lost_late.ensures.ends

pub returns-then-is_gone-clause-copying : goal.returns-then-is_gone-clause-copying
returns-then-is_gone-clause-copying g c = each_keeps (find (has_number c.args.id.0) c.args.kernel.now.transfers) c.args.kernel.now c.finish_gone_late.new.kernel c.args.id.0 c.finish_gone_late.result (alone_keeps c.args.kernel.now c.finish_gone_late.new.kernel c.args.id.0 c.finish_gone_late.result c.finish_gone_late.ensures.ends.meters)

pub returns-in-None-clause-copying : goal.returns-in-None-clause-copying
returns-in-None-clause-copying g c = each_keeps (find (has_number c.args.id.0) c.args.kernel.now.transfers) c.args.kernel.now c.finish_lost_late.new.kernel c.args.id.0 c.finish_lost_late.result (alone_keeps c.args.kernel.now c.finish_lost_late.new.kernel c.args.id.0 c.finish_lost_late.result c.finish_lost_late.ensures.ends.meters)
