use Rattle.std.proofs.Common.{refl}
use Rattle.genie_store.proofs.Counting.{put_refused}
use Rattle.genie_store.proofs.failing.FailingStoreStore.put.Goals as goal

pub returns-then-count-clause-puts : goal.returns-then-count-clause-puts
returns-then-count-clause-puts c = put_refused _ _ c.count.result _ _ _ _ c.count.ensures.view c.if-count.true c.count.ensures.fits refl
