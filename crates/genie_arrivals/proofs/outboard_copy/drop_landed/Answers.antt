use Rattle.genie_arrivals.proofs.Found.{found_some}
use Rattle.genie_arrivals.proofs.LateAim.{both_known, late_gone, late_lost}
use Rattle.genie_arrivals.proofs.outboard_copy.drop_landed.Goals as goal

pub owner_of-requires : goal.owner_of-requires
owner_of-requires c = record { pending = found_some c.args.kernel.now c.args.id.0 c.requires.accepted }

pub finish_gone_late-requires-clause-case : goal.finish_gone_late-requires-clause-case
finish_gone_late-requires-clause-case c = late_gone c.args.kernel.now c.args.id.0 c.owner_of.result c.requires.case c.owner_of.ensures c.in-None.is

pub finish_lost_late-requires-clause-case : goal.finish_lost_late-requires-clause-case
finish_lost_late-requires-clause-case c = late_lost c.args.kernel.now c.args.id.0 c.owner_of.result c.in-Some.field-0 c.requires.case (both_known c.args.kernel.now c.args.id.0 c.owner_of.result c.owner_of.ensures c.requires.target) c.in-Some.is
