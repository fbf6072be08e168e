use Rattle.std.proofs.Common.{refl, arith}
use Rattle.genie_plan.specs.Loans.{Strong, output_loan, output_loans}
use Rattle.genie_object.specs.Touching.{is_in_range}
use Rattle.genie_tcow.proofs.Lent.{lent_failed}
use Rattle.genie_tcow.proofs.LentStrongly.{strong_none, strong_more, goes_on, spends_failed, holds_failed}
use Rattle.genie_tcow.proofs.strong.lend_pages.Goals as goal

pub each-init : goal.each-init
each-init g c = strong_none output_loan c.args.id.0 (is_in_range c.args.object.0 c.args.first c.args.n) c.args.object.0 c.args.first c.args.loans.now.items c.args.memory.now (g.S.Store.view c.args.store.now) c.requires.empty c.requires.sound c.requires.sized

pub each-preserved : goal.each-preserved
each-preserved g c = strong_more output_loan c.args.id.0 (is_in_range c.args.object.0 c.args.first c.args.n) c.args.object.0 c.args.first c.each.i _ c.each.loans.items c.push.new.self.items c.in-Ok.loan c.args.memory.now c.each.memory c.lend_page.new.memory (g.S.Store.view c.args.store.now) (g.S.Store.view c.each.store) (g.S.Store.view c.lend_page.new.store) refl c.each.invariant c.push.ensures.items c.in-Ok.ensures.lent c.in-Ok.ensures.bytes c.in-Ok.ensures.own c.lend_page.ensures.others c.lend_page.ensures.owners c.lend_page.ensures.costs c.lend_page.ensures.spends c.lend_page.ensures.sized c.in-Ok.ensures.cause.kept

pub lend_page-requires-clause-meters : goal.lend_page-requires-clause-meters
lend_page-requires-clause-meters g c = (goes_on c.args.id.0 _ c.args.object.0 c.args.first c.each.i c.args.n (output_loans c.each.loans.items) c.args.memory.now c.each.memory (g.S.Store.view c.args.store.now) (g.S.Store.view c.each.store) c.requires.sound c.requires.within c.requires.most c.requires.free c.requires.room c.requires.meters c.requires.few c.each.invariant (omega arith)).meters

pub returns-in-Err-clause-lent : goal.returns-in-Err-clause-lent
returns-in-Err-clause-lent g c = lent_failed Strong c.args.id.0 (is_in_range c.args.object.0 c.args.first c.args.n) (output_loans c.each.loans.items) c.args.memory.now c.each.memory c.lend_page.new.memory (g.S.Store.view c.args.store.now) (g.S.Store.view c.each.store) (g.S.Store.view c.lend_page.new.store) c.each.invariant.lent c.in-Err.ensures.failed c.in-Err.ensures.seen

pub returns-in-Err-clause-bytes : goal.returns-in-Err-clause-bytes
returns-in-Err-clause-bytes g c = holds_failed c.args.memory.now c.each.memory c.lend_page.new.memory (g.S.Store.view c.args.store.now) c.args.object.0 c.args.first (output_loans c.each.loans.items) c.each.invariant.bytes c.in-Err.ensures.failed

pub returns-in-Err-clause-spends : goal.returns-in-Err-clause-spends
returns-in-Err-clause-spends g c = spends_failed c.args.id.0 _ c.args.object.0 c.args.first c.each.i c.args.n (output_loans c.each.loans.items) c.args.memory.now c.each.memory c.lend_page.new.memory (g.S.Store.view c.args.store.now) (g.S.Store.view c.each.store) (omega arith) c.each.invariant c.lend_page.ensures.spends
