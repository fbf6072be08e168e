use Rattle.std.proofs.Common.{ap, subst, sym, List, ℕ}
use Rattle.genie_base.specs.declared.event.Event.TheVariants.{Read}
use Rattle.genie_base.specs.declared.reply.Reply.TheVariants as reply
use Rattle.genie_kernel.specs.declared.kernel.Kernel.{Kernel}
use Rattle.genie_kernel.specs.Steps.{StepsTold}
use Rattle.genie_kernel.specs.View.{view}
use Rattle.genie_access.proofs.Alike.{good_moved, kept_moved}
use Rattle.genie_access.proofs.Led.{read_told, fault_told}
use Rattle.genie_access.proofs.reading.read.Goals as goal

pub returns-in-Ok-clause-good : goal.returns-in-Ok-clause-good
returns-in-Ok-clause-good g c = good_moved c.memory_calls_keep_good.ensures.good c.args.kernel.now _ _ _ c.requires.good c.read_into.ensures.only c.read_into.ensures.seen

pub returns-in-Err-clause-good : goal.returns-in-Err-clause-good
returns-in-Err-clause-good g c = good_moved c.memory_calls_keep_good.ensures.good c.args.kernel.now _ _ _ c.requires.good c.read_into.ensures.only c.read_into.ensures.seen

pub returns-in-Ok-clause-kept : goal.returns-in-Ok-clause-kept
returns-in-Ok-clause-kept g c = kept_moved c.memory_calls_keep_good.ensures.lent c.args.kernel.now _ _ _ c.requires.good c.read_into.ensures.only c.read_into.ensures.seen

pub returns-in-Err-clause-kept : goal.returns-in-Err-clause-kept
returns-in-Err-clause-kept g c = kept_moved c.memory_calls_keep_good.ensures.lent c.args.kernel.now _ _ _ c.requires.good c.read_into.ensures.only c.read_into.ensures.seen

pub returns-in-Err-clause-step : goal.returns-in-Err-clause-step
returns-in-Err-clause-step g c = λ host. fault_told c.args.kernel.now _ host _ _ c.args.pid c.args.addr c.args.len c.requires.good c.read_into.ensures.only c.read_into.ensures.seen c.requires.accepted

pub returns-in-Ok-clause-step : goal.returns-in-Ok-clause-step
returns-in-Ok-clause-step g c = λ host. subst (λ (z : List ℕ). StepsTold (view c.args.kernel.now host (g.S.Store.view c.args.store.now)) (Read c.args.pid c.args.addr c.args.len) (view c.read_into.new.kernel host (g.S.Store.view c.read_into.new.store)) (reply.Bytes z)) (sym c.lend.ensures) (read_told c.view_is_tidy.ensures c.args.kernel.now c.read_into.new.kernel host (g.S.Store.view c.args.store.now) (g.S.Store.view c.read_into.new.store) c.args.pid c.args.addr c.args.len c.read_into.new.into c.requires.good c.read_into.ensures.only c.read_into.ensures.seen c.requires.accepted c.in-Ok.ensures.bytes)

pub returns-in-Ok-clause-numbers : goal.returns-in-Ok-clause-numbers
returns-in-Ok-clause-numbers g c = ap (λ (k : Kernel). k.next) c.read_into.ensures.only

pub returns-in-Err-clause-numbers : goal.returns-in-Err-clause-numbers
returns-in-Err-clause-numbers g c = ap (λ (k : Kernel). k.next) c.read_into.ensures.only
