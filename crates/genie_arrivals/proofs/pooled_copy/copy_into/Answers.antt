use Rattle.std.proofs.Common.{sym, ap, subst, ◌∙◌}
use Rattle.std.specs.Prelude.{None, IfSome, find}
use Rattle.genie_base.specs.declared.event.Event.TheVariants.{Finish}
use Rattle.genie_base.specs.declared.reply.Reply.TheVariants as reply
use Rattle.genie_base.specs.declared.semantics.Class.TheVariants.{Copy}
use Rattle.genie_model.specs.Refusing.{refuse}
use Rattle.genie_kernel.specs.declared.kernel.Kernel.{Kernel}
use Rattle.genie_kernel.specs.Calls.{has_number}
use Rattle.genie_kernel.specs.View.{outline}
use Rattle.genie_arrivals.specs.Waiting.{IsWaiting}
use Rattle.genie_arrivals.proofs.Closing.{fault_serves}
use Rattle.genie_arrivals.proofs.Found.{found_some}
use Rattle.genie_arrivals.proofs.PooledAim.{after_own, can_copy_in, copy_returns, middle_good, moved_serves}
use Rattle.genie_arrivals.proofs.PooledShare.{waits_pending}
use Rattle.genie_arrivals.proofs.pooled_copy.copy_into.Goals as goal
use Rattle.genie_arrivals.proofs.LateCosts.{copy_fault, copy_keeps}
use Rattle.genie_arrivals.specs.LateCosts.{is_exchanged}
use Rattle.genie_copying.specs.Bounds.{KeepsToBound}
use Rattle.genie_arrivals.proofs.PooledAim.{pooled_aim}
use Rattle.std.proofs.Common.{Option}
use Rattle.genie_kernel.specs.declared.transfer.Transfer.{Transfer}
use Rattle.std.proofs.Common.{◌≡◌}
use Rattle.std.proofs.Common.{false}

pub make_own-requires-clause-pending : goal.make_own-requires-clause-pending
make_own-requires-clause-pending g c = found_some c.args.kernel.now c.args.id.0 c.requires.accepted

pub returns-in-Err-clause-serves : goal.returns-in-Err-clause-serves
returns-in-Err-clause-serves g c = fault_serves c.args.kernel.now c.make_own.new.kernel (g.S.Store.view c.args.store.now) (g.S.Store.view c.make_own.new.store) c.args.id.0 c.requires.accepted c.make_own.ensures.moved c.make_own.ensures.rises c.in-Err.ensures.cause.failed

pub copy_pending-requires : goal.copy_pending-requires
copy_pending-requires g c =
    let mid : Kernel = c.make_own.new.kernel in
    let y = after_own c.args.kernel.now mid c.args.id.0 c.args.range.now (g.S.Store.view c.args.store.now) (g.S.Store.view c.make_own.new.store) c.requires.accepted (found_some c.args.kernel.now c.args.id.0 c.requires.accepted) c.requires.case c.requires.target c.make_own.ensures.moved in
    can_copy_in c.copy_laws.ensures mid c.args.id.0 c.args.range.now c.make_own.ensures.moved.good y.aim y.ready c.in-Ok.ensures.own c.make_own.ensures.meters

pub end_waiting-transfer-requires-clause-good : goal.end_waiting-transfer-requires-clause-good
end_waiting-transfer-requires-clause-good g c =
    let mid : Kernel = c.make_own.new.kernel in
    let y = after_own c.args.kernel.now mid c.args.id.0 c.args.range.now (g.S.Store.view c.args.store.now) (g.S.Store.view c.make_own.new.store) c.requires.accepted (found_some c.args.kernel.now c.args.id.0 c.requires.accepted) c.requires.case c.requires.target c.make_own.ensures.moved in
    middle_good c.copy_laws.ensures mid c.copy_pending.new.kernel c.args.id.0 c.args.range.now c.make_own.ensures.moved.good y c.copy_pending.ensures

pub end_waiting-transfer-requires-clause-accepted : goal.end_waiting-transfer-requires-clause-accepted
end_waiting-transfer-requires-clause-accepted g c = ap (λ (z : Kernel). refuse (outline z) (Finish c.args.id.0)) c.copy_pending.ensures.only ∙ ap (λ (z : Kernel). refuse (outline z) (Finish c.args.id.0)) c.make_own.ensures.moved.only ∙ c.requires.accepted

pub end_waiting-transfer-requires-clause-case : goal.end_waiting-transfer-requires-clause-case
end_waiting-transfer-requires-clause-case g c = subst (λ (z : Kernel). IfSome (find (has_number c.args.id.0) z.transfers) (IsWaiting z.devices)) (sym c.copy_pending.ensures.only) (subst (λ (z : Kernel). IfSome (find (has_number c.args.id.0) z.transfers) (IsWaiting z.devices)) (sym c.make_own.ensures.moved.only) (waits_pending c.args.kernel.now c.args.id.0 Copy c.requires.case))

pub returns-clause-serves : goal.returns-clause-serves
returns-clause-serves g c =
    let k : Kernel = c.args.kernel.now in
    let mid : Kernel = c.make_own.new.kernel in
    let v = g.S.Store.view c.args.store.now in
    let w = g.S.Store.view c.make_own.new.store in
    let t = c.end_waiting-transfer.result in
    let y = after_own k mid c.args.id.0 c.args.range.now v w c.requires.accepted (found_some k c.args.id.0 c.requires.accepted) c.requires.case c.requires.target c.make_own.ensures.moved in
    moved_serves c.copy_laws.ensures c.paged_events_are_told.ensures k mid c.end_waiting-transfer.new.kernel v w c.args.id.0 (reply.Input None t.stored t.note) c.requires.accepted c.make_own.ensures.moved c.make_own.ensures.rises c.in-Ok.ensures.cause.kept (g.met.S.Store.paged c.make_own.new.store)
    (copy_returns c.end_laws.ensures c.copy_laws.ensures c.buffers_show.ensures c.buffers_are_released.ensures.ends c.buffers_are_released.ensures.shows mid c.copy_pending.new.kernel c.end_waiting-transfer.new.kernel c.args.id.0 t c.args.range.now c.make_own.ensures.moved.good y c.copy_pending.ensures c.end_waiting-transfer.ensures)

pub returns-in-Err-clause-copying : goal.returns-in-Err-clause-copying
returns-in-Err-clause-copying g c =
    let k : Kernel = c.args.kernel.now in
    let a = pooled_aim k c.args.id.0 c.args.range.now (found_some k c.args.id.0 c.requires.accepted) c.requires.case c.requires.target in
    subst (λ (o : Option Transfer). IfSome o (λ (t : Transfer). is_exchanged k.config t ≡ false → KeepsToBound k (Finish c.args.id.0) c.make_own.new.kernel reply.StoreFault)) (sym a.found) (λ apart. copy_fault k c.args.id.0 a.t c.args.range.now c.requires.good a.found a.is a.target apart c.make_own.new.kernel c.make_own.ensures.copies)

pub returns-clause-copying : goal.returns-clause-copying
returns-clause-copying g c =
    let k : Kernel = c.args.kernel.now in
    let u = c.end_waiting-transfer.result in
    let a = pooled_aim k c.args.id.0 c.args.range.now (found_some k c.args.id.0 c.requires.accepted) c.requires.case c.requires.target in
    subst (λ (o : Option Transfer). IfSome o (λ (t : Transfer). is_exchanged k.config t ≡ false → KeepsToBound k (Finish c.args.id.0) c.end_waiting-transfer.new.kernel (reply.Input None u.stored u.note))) (sym a.found) (λ apart. copy_keeps k c.args.id.0 a.t c.args.range.now c.requires.good a.found a.is a.target apart c.make_own.new.kernel c.copy_pending.new.kernel c.end_waiting-transfer.new.kernel u None u.stored u.note c.make_own.ensures.copies c.copy_pending.ensures c.end_waiting-transfer.ensures)
