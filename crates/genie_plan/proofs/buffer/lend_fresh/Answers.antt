use Rattle.std.proofs.Common.{arith}
use Rattle.genie_plan.specs.Lemmas.Fresh.{so_far_none, so_far_more, fresh_lands}
use Rattle.genie_plan.proofs.buffer.lend_fresh.Goals as goal

pub each-init : goal.each-init
each-init g c = so_far_none c.args.owner c.new-loans.result.items c.args.frames.now c.new-loans.ensures

pub lend_one-requires-clause-free : goal.lend_one-requires-clause-free
lend_one-requires-clause-free g c = omega (arith, c.each.invariant.fresh.free, c.each.invariant.number, c.requires.free)

pub each-preserved : goal.each-preserved
each-preserved g c = so_far_more c.args.owner c.each.loans.items c.push.new.self.items c.lend_one.result c.each.i c.args.frames.now c.each.frames c.lend_one.new.frames c.requires.owner c.lend_one.ensures.counted c.each.invariant c.push.ensures.items c.lend_one.ensures.there c.lend_one.ensures.was_free c.lend_one.ensures.frames

pub returns-clause-fresh : goal.returns-clause-fresh
returns-clause-fresh g c = c.each.invariant.fresh

pub returns-clause-ready : goal.returns-clause-ready
returns-clause-ready g c first len fits within = fresh_lands c.args.owner _ c.args.frames.now c.each.frames first len c.args.n c.each.invariant.fresh (omega (arith, c.each.invariant.number)) fits within
