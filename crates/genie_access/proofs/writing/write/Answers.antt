use Rattle.std.proofs.Common.{ap, subst, List, ℕ}
use Rattle.genie_kernel.specs.declared.kernel.Kernel.{Kernel}
use Rattle.genie_access.specs.Storing.{WritesAt}
use Rattle.genie_access.proofs.Alike.{good_moved, kept_moved}
use Rattle.genie_access.proofs.Wrote.{wrote_good, wrote_kept, wrote_told, write_failed}
use Rattle.genie_access.proofs.writing.write.Goals as goal

pub returns-in-Ok-clause-good : goal.returns-in-Ok-clause-good
returns-in-Ok-clause-good g c = wrote_good c.args.kernel.now c.write_from.new.kernel (g.S.Store.view c.args.store.now) (g.S.Store.view c.write_from.new.store) c.args.pid c.args.addr c.args.bytes.now c.requires.good c.write_from.ensures.only (subst (λ (z : List ℕ). WritesAt c.args.kernel.now c.write_from.new.kernel.memory (g.S.Store.view c.args.store.now) (g.S.Store.view c.write_from.new.store) c.args.pid c.args.addr z) c.as_slice.ensures.bytes c.in-Ok.ensures.stored) c.memory_calls_keep_good.ensures.good

pub returns-in-Err-clause-good : goal.returns-in-Err-clause-good
returns-in-Err-clause-good g c = good_moved c.memory_calls_keep_good.ensures.good c.args.kernel.now c.write_from.new.kernel (g.S.Store.view c.args.store.now) (g.S.Store.view c.write_from.new.store) c.requires.good c.write_from.ensures.only c.in-Err.ensures.failed

pub returns-in-Ok-clause-kept : goal.returns-in-Ok-clause-kept
returns-in-Ok-clause-kept g c = wrote_kept c.args.kernel.now c.write_from.new.kernel (g.S.Store.view c.args.store.now) (g.S.Store.view c.write_from.new.store) c.args.pid c.args.addr c.args.bytes.now c.requires.good c.write_from.ensures.only (subst (λ (z : List ℕ). WritesAt c.args.kernel.now c.write_from.new.kernel.memory (g.S.Store.view c.args.store.now) (g.S.Store.view c.write_from.new.store) c.args.pid c.args.addr z) c.as_slice.ensures.bytes c.in-Ok.ensures.stored) c.memory_calls_keep_good.ensures.lent

pub returns-in-Err-clause-kept : goal.returns-in-Err-clause-kept
returns-in-Err-clause-kept g c = kept_moved c.memory_calls_keep_good.ensures.lent c.args.kernel.now c.write_from.new.kernel (g.S.Store.view c.args.store.now) (g.S.Store.view c.write_from.new.store) c.requires.good c.write_from.ensures.only c.in-Err.ensures.failed

pub returns-in-Ok-clause-step : goal.returns-in-Ok-clause-step
returns-in-Ok-clause-step g c = λ host. wrote_told c.args.kernel.now c.write_from.new.kernel (g.S.Store.view c.args.store.now) (g.S.Store.view c.write_from.new.store) c.args.pid c.args.addr c.args.bytes.now c.requires.good c.write_from.ensures.only (subst (λ (z : List ℕ). WritesAt c.args.kernel.now c.write_from.new.kernel.memory (g.S.Store.view c.args.store.now) (g.S.Store.view c.write_from.new.store) c.args.pid c.args.addr z) c.as_slice.ensures.bytes c.in-Ok.ensures.stored) c.view_is_tidy.ensures host c.requires.accepted

pub returns-in-Err-clause-step : goal.returns-in-Err-clause-step
returns-in-Err-clause-step g c = λ host. write_failed c.args.kernel.now c.write_from.new.kernel host (g.S.Store.view c.args.store.now) (g.S.Store.view c.write_from.new.store) c.args.pid c.args.addr c.args.bytes.now c.requires.good c.write_from.ensures.only c.in-Err.ensures.failed c.requires.accepted

pub returns-in-Ok-clause-numbers : goal.returns-in-Ok-clause-numbers
returns-in-Ok-clause-numbers g c = ap (λ (k : Kernel). k.next) c.write_from.ensures.only

pub returns-in-Err-clause-numbers : goal.returns-in-Err-clause-numbers
returns-in-Err-clause-numbers g c = ap (λ (k : Kernel). k.next) c.write_from.ensures.only
