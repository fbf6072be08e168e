use Rattle.std.proofs.Common.{[], ◌∷◌, subst, sym}
use Rattle.genie_plan.specs.Loans.{output_loan}
use Rattle.genie_object.specs.Touching.{is_in_range}
use Rattle.genie_tcow.specs.Lending.{HasLentWeak}
use Rattle.genie_tcow.proofs.LentWeakly.{page_lent}
use Rattle.genie_tcow.proofs.Within.{within_spoken, touches_in}
use Rattle.genie_tcow.proofs.weak.lend_page.Goals as goal

pub returns-in-Ok-clause-lent : goal.returns-in-Ok-clause-lent
returns-in-Ok-clause-lent g c =
    let is = page_lent (is_in_range c.args.at.object.0 c.args.from c.args.n) c.args.at.object.0 c.args.at.index c.in-Ok.frame c.resolve_write.new.memory (within_spoken _ _ _ _ c.requires.within) c.resolve_write.ensures.moves.sound c.in-Ok.ensures.ready c.args.memory.now c.lend_ready.new.memory (g.S.Store.view c.args.store.now) (g.S.Store.view c.resolve_write.new.store) c.lend_ready.ensures.lent c.resolve_write.ensures.moves (touches_in _ _ _ _ _ _ c.requires.within c.resolve_write.ensures.moves.touches) c.resolve_write.ensures.takes in
    subst (λ l. HasLentWeak (is_in_range c.args.at.object.0 c.args.from c.args.n) c.args.at.object.0 c.args.at.index (output_loan l ∷ []) c.args.memory.now c.lend_ready.new.memory (g.S.Store.view c.args.store.now) (g.S.Store.view c.resolve_write.new.store)) (sym c.lend_ready.ensures.loan) is
