use Rattle.std.proofs.Common.{refl}
use Rattle.genie_base.specs.declared.semantics.Class.TheVariants.{Share}
use Rattle.genie_arrivals.proofs.Filled.{alone_ends}
use Rattle.genie_arrivals.proofs.Found.{found_some}
use Rattle.genie_arrivals.proofs.PooledCases.{pooled_gone, pooled_lost}
use Rattle.genie_arrivals.proofs.pooled.finish_share_pooled.Goals as goal
use Rattle.genie_arrivals.proofs.EarlyCosts.{alone_keeps}

pub is_gone-requires : goal.is_gone-requires
is_gone-requires c = found_some c.args.kernel.now c.args.id.0 c.requires.accepted

pub region_range-requires : goal.region_range-requires
region_range-requires c = found_some c.args.kernel.now c.args.id.0 c.requires.accepted

pub finish_gone_late-requires-clause-case : goal.finish_gone_late-requires-clause-case
finish_gone_late-requires-clause-case c = pooled_gone c.args.kernel.now c.args.id.0 Share c.requires.case (c.is_gone.ensures.yes c.if-is_gone.true)

pub finish_lost_late-requires-clause-case : goal.finish_lost_late-requires-clause-case
finish_lost_late-requires-clause-case c = pooled_lost c.args.kernel.now c.args.id.0 Share refl c.requires.case (c.is_gone.ensures.no c.if-is_gone.false) (c.region_range.ensures.none c.in-None.is)

pub returns-then-is_gone-clause-ends : goal.returns-then-is_gone-clause-ends
returns-then-is_gone-clause-ends c = alone_ends c.args.kernel.now c.finish_gone_late.new.kernel c.args.id.0 c.finish_gone_late.result c.finish_gone_late.ensures.ends

pub returns-in-None-clause-ends : goal.returns-in-None-clause-ends
returns-in-None-clause-ends c = alone_ends c.args.kernel.now c.finish_lost_late.new.kernel c.args.id.0 c.finish_lost_late.result c.finish_lost_late.ensures.ends

pub returns-then-is_gone-clause-copying : goal.returns-then-is_gone-clause-copying
returns-then-is_gone-clause-copying c = alone_keeps c.args.kernel.now c.finish_gone_late.new.kernel c.args.id.0 c.finish_gone_late.result c.finish_gone_late.ensures.ends.meters

pub returns-in-None-clause-copying : goal.returns-in-None-clause-copying
returns-in-None-clause-copying c = alone_keeps c.args.kernel.now c.finish_lost_late.new.kernel c.args.id.0 c.finish_lost_late.result c.finish_lost_late.ensures.ends.meters
