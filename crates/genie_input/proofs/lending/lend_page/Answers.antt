use Rattle.std.proofs.Common.{refl, [], ◌∷◌, ◌∙◌, subst, sym}
use Rattle.genie_plan.specs.Loans.{Input, input_loan}
use Rattle.genie_object.specs.declared.memory.Memory.{Memory}
use Rattle.genie_object.specs.Costs.{Spends, write_work}
use Rattle.genie_object.specs.Touching.{is_in_range}
use Rattle.genie_input.specs.Lending.{HasLent}
use Rattle.genie_input.proofs.Lent.{lent_seen, page_lent, spends_page, within_spoken, touches_in}
use Rattle.genie_input.proofs.lending.lend_page.Goals as goal

pub returns-in-Ok-clause-seen : goal.returns-in-Ok-clause-seen
returns-in-Ok-clause-seen g c = lent_seen Input c.resolve_write.new.memory c.lend_ready.new.memory c.args.at.object.0 c.args.at.index c.in-Ok.frame (g.S.Store.view c.resolve_write.new.store) refl c.resolve_write.ensures.moves.sound c.in-Ok.ensures.ready c.lend_ready.ensures.lent ∙ c.resolve_write.ensures.moves.seen

pub returns-in-Ok-clause-lent : goal.returns-in-Ok-clause-lent
returns-in-Ok-clause-lent g c =
    let is = page_lent Input (is_in_range c.args.at.object.0 c.args.from c.args.n) c.args.at.object.0 c.args.at.index c.in-Ok.frame c.args.memory.now c.resolve_write.new.memory c.lend_ready.new.memory refl (within_spoken _ _ _ _ c.requires.within) c.resolve_write.ensures.moves.sound c.in-Ok.ensures.ready c.lend_ready.ensures.lent c.resolve_write.ensures.moves.keeps (touches_in _ _ _ _ _ _ c.requires.within c.resolve_write.ensures.moves.touches) c.resolve_write.ensures.moves.costs c.resolve_write.ensures.moves.counts c.resolve_write.ensures.moves.landed c.resolve_write.ensures.takes.free c.resolve_write.ensures.takes.added in
    subst (λ l. HasLent Input (is_in_range c.args.at.object.0 c.args.from c.args.n) c.args.at.object.0 c.args.at.index (input_loan l ∷ []) c.args.memory.now c.lend_ready.new.memory) (sym c.lend_ready.ensures.loan) is

pub returns-in-Ok-clause-spends : goal.returns-in-Ok-clause-spends
returns-in-Ok-clause-spends g c = subst (λ (m : Memory). Spends (write_work c.args.memory.now c.args.at.object.0 c.args.at.index) 1 0 1 c.args.memory.now.frames.meters m.frames.meters) (sym c.lend_ready.ensures.lent) (spends_page c.args.memory.now c.resolve_write.new.memory c.args.at.object.0 c.args.at.index c.resolve_write.ensures.meters)

pub returns-in-Err-clause-spends : goal.returns-in-Err-clause-spends
returns-in-Err-clause-spends g c = spends_page c.args.memory.now c.resolve_write.new.memory c.args.at.object.0 c.args.at.index c.resolve_write.ensures.meters
