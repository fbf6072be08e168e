use Rattle.std.proofs.Common.{ap}
use Rattle.genie_kernel.specs.declared.kernel.Kernel.{Kernel}
use Rattle.genie_access.proofs.Alike.{good_moved, kept_moved, put_told}
use Rattle.genie_access.proofs.paging.pageout.Goals as goal

pub returns-clause-good : goal.returns-clause-good
returns-clause-good g c = good_moved c.memory_calls_keep_good.ensures.good c.args.kernel.now _ _ _ c.requires.good c.put_pages.ensures.only c.put_pages.ensures.seen

pub returns-clause-kept : goal.returns-clause-kept
returns-clause-kept g c = kept_moved c.memory_calls_keep_good.ensures.lent c.args.kernel.now _ _ _ c.requires.good c.put_pages.ensures.only c.put_pages.ensures.seen

pub returns-clause-step : goal.returns-clause-step
returns-clause-step g c = λ host. put_told c.view_is_tidy.ensures c.args.kernel.now _ host _ _ c.args.n c.put_pages.result _ c.reply_to.ensures c.requires.good c.put_pages.ensures.only c.put_pages.ensures.seen

pub returns-clause-numbers : goal.returns-clause-numbers
returns-clause-numbers g c = ap (λ (k : Kernel). k.next) c.put_pages.ensures.only
