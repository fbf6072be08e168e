use Rattle.std.proofs.Common.{refl, arith}
use Rattle.genie_plan.specs.Loans.{Input, input_loan}
use Rattle.genie_object.specs.Touching.{is_in_range}
use Rattle.genie_input.proofs.Lent.{so_far_none, so_far_more, spends_failed, below_spent, page_most}
use Rattle.genie_object.specs.Lemmas.Works.{writes_most}
use Rattle.genie_object.specs.Costs.{writes_work}
use Rattle.genie_input.proofs.lending.lend_pages.Goals as goal

pub each-init : goal.each-init
each-init g c = so_far_none input_loan Input (is_in_range c.args.object.0 c.args.first c.args.n) c.args.object.0 c.args.first c.args.loans.now.items c.args.memory.now (g.S.Store.view c.args.store.now) c.requires.empty c.requires.sound c.requires.sized

pub each-preserved : goal.each-preserved
each-preserved g c = so_far_more input_loan Input refl (is_in_range c.args.object.0 c.args.first c.args.n) c.args.object.0 c.args.first c.each.i _ c.each.loans.items c.push.new.self.items c.in-Ok.loan c.args.memory.now c.each.memory c.lend_page.new.memory (g.S.Store.view c.args.store.now) (g.S.Store.view c.each.store) (g.S.Store.view c.lend_page.new.store) refl c.each.invariant c.push.ensures.items c.in-Ok.ensures.lent c.lend_page.ensures.spends c.lend_page.ensures.sized c.lend_page.ensures.seen c.in-Ok.ensures.cause.kept

pub returns-in-Err-clause-spends : goal.returns-in-Err-clause-spends
returns-in-Err-clause-spends g c = spends_failed c.args.memory.now c.each.memory c.lend_page.new.memory c.args.object.0 c.args.first c.each.i _ c.args.n refl c.each.invariant.lent.costs c.each.invariant.lent.keeps.page (omega arith) c.each.invariant.spends c.lend_page.ensures.spends

pub lend_page-requires-clause-meters : goal.lend_page-requires-clause-meters
lend_page-requires-clause-meters g c = below_spent (writes_work c.args.memory.now c.args.object.0 c.args.first c.each.i) c.each.i c.args.memory.now.frames.meters c.each.memory.frames.meters c.requires.meters c.each.invariant.spends (omega (arith, c.requires.most, writes_most c.args.memory.now c.args.object.0 c.args.first c.each.i (page_most c.args.memory.now.frames c.requires.sound.shaped))) (omega (arith, c.requires.most))
