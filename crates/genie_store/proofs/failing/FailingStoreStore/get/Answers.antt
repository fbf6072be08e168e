use Rattle.std.proofs.Common.{ap, ◌∙◌, refl}
use Rattle.genie_store.specs.MemoryView.{counted, failing_view}
use Rattle.genie_store.proofs.Counting.{get_refused, get_passed}
use Rattle.genie_store.proofs.failing.FailingStoreStore.get.Goals as goal

pub returns-then-count-clause-gets : goal.returns-then-count-clause-gets
returns-then-count-clause-gets c = get_refused _ _ c.count.result _ _ _ _ c.count.ensures.view c.if-count.true c.count.ensures.fits refl

pub returns-clause-gets : goal.returns-clause-gets
returns-clause-gets c = get_passed _ _ _ _ _ _ _ _ _ _ (c.count.ensures.view ∙ ap (λ b. counted b (failing_view c.args.self.now)) c.if-count.false) c.get.ensures.works c.get.ensures.gets
