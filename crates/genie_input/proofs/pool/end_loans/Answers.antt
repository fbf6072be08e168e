use Rattle.std.proofs.Common.{ap, arith}
use Rattle.genie_frame.specs.FrameTable.{is_system}
use Rattle.genie_input.proofs.Pools.{freed_none, freed_next, freed_all, pooled_next}
use Rattle.genie_input.proofs.pool.end_loans.Goals as goal

pub each-init : goal.each-init
each-init c = freed_none c.args.frames.now

pub end_loan-requires-clause-owned : goal.end_loan-requires-clause-owned
end_loan-requires-clause-owned c = ap is_system (pooled_next c.args.frames.now c.each.frames c.args.dev c.each.i c.args.loans.now _ c.requires.pooled (omega arith) c.each.invariant).0

pub end_loan-requires-clause-counts : goal.end_loan-requires-clause-counts
end_loan-requires-clause-counts c = (pooled_next c.args.frames.now c.each.frames c.args.dev c.each.i c.args.loans.now _ c.requires.pooled (omega arith) c.each.invariant).1

pub each-preserved : goal.each-preserved
each-preserved c = freed_next c.args.frames.now c.each.frames c.end_loan.new.frames c.args.dev c.each.i c.args.loans.now _ c.requires.pooled (omega arith) c.each.invariant c.end_loan.ensures.freed

pub returns : goal.returns
returns c = record { freed = freed_all c.args.frames.now c.each.frames c.each.i c.args.loans.now (omega arith) c.each.invariant }
