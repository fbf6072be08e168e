use Rattle.std.proofs.Common.{refl, sym, ap, subst, ◌∙◌}
use Rattle.std.specs.Prelude.{IfSome, find}
use Rattle.genie_base.specs.declared.event.Event.TheVariants.{Finish}
use Rattle.genie_base.specs.declared.semantics.Class.TheVariants.{Share}
use Rattle.genie_model.specs.Refusing.{refuse}
use Rattle.genie_kernel.specs.declared.kernel.Kernel.{Kernel}
use Rattle.genie_kernel.specs.Calls.{has_number}
use Rattle.genie_kernel.specs.Good.{IsGood}
use Rattle.genie_kernel.specs.View.{outline}
use Rattle.genie_arrivals.specs.Waiting.{IsWaiting}
use Rattle.genie_arrivals.proofs.Found.{is_over}
use Rattle.genie_arrivals.proofs.PooledEnd.{mid_good}
use Rattle.genie_arrivals.proofs.PooledShare.{can_pending, copied_by, goes, share_returns, waits_pending}
use Rattle.genie_arrivals.proofs.pooled.share_into.Goals as goal
use Rattle.std.specs.Prelude.{None}
use Rattle.genie_arrivals.proofs.LateCosts.{weak_keeps}

pub copy_pending-requires : goal.copy_pending-requires
copy_pending-requires c = can_pending c.end_laws.ensures c.change_laws.ensures c.copy_laws.ensures.fit c.args.kernel.now c.args.id.0 c.args.range.now Share refl c.requires.good c.requires.meters c.requires.accepted c.requires.case c.requires.place

pub end_waiting-transfer-requires-clause-good : goal.end_waiting-transfer-requires-clause-good
end_waiting-transfer-requires-clause-good c =
    let k : Kernel = c.args.kernel.now in
    let mid : Kernel = c.copy_pending.new.kernel in
    let o = is_over k c.args.id.0 c.requires.accepted in
    let y = goes c.end_laws.ensures c.change_laws.ensures k c.args.id.0 o.t c.args.range.now Share c.requires.good c.requires.accepted o.found c.requires.case c.requires.place in
    subst IsGood (sym c.copy_pending.ensures.only) (mid_good k c.args.id.0 o.t y.to.owned.region c.args.range.now mid.memory (copied_by c.end_laws.ensures c.change_laws.ensures c.copy_laws.ensures.fit k mid c.args.id.0 o.t c.args.range.now Share refl c.requires.good c.requires.accepted y c.copy_pending.ensures))

pub end_waiting-transfer-requires-clause-accepted : goal.end_waiting-transfer-requires-clause-accepted
end_waiting-transfer-requires-clause-accepted c = ap (λ (z : Kernel). refuse (outline z) (Finish c.args.id.0)) c.copy_pending.ensures.only ∙ c.requires.accepted

pub end_waiting-transfer-requires-clause-case : goal.end_waiting-transfer-requires-clause-case
end_waiting-transfer-requires-clause-case c = subst (λ (z : Kernel). IfSome (find (has_number c.args.id.0) z.transfers) (IsWaiting z.devices)) (sym c.copy_pending.ensures.only) (waits_pending c.args.kernel.now c.args.id.0 Share c.requires.case)

pub returns-clause-ends : goal.returns-clause-ends
returns-clause-ends c = share_returns c.end_laws.ensures c.change_laws.ensures c.copy_laws.ensures.fit c.buffers_show.ensures c.buffers_are_released.ensures.ends c.buffers_are_released.ensures.shows c.args.kernel.now c.copy_pending.new.kernel c.end_waiting-transfer.new.kernel c.args.id.0 c.end_waiting-transfer.result c.args.range.now c.requires.good c.requires.accepted c.requires.case c.requires.owner c.requires.place c.copy_pending.ensures c.end_waiting-transfer.ensures

pub returns-clause-copying : goal.returns-clause-copying
returns-clause-copying c = weak_keeps c.args.kernel.now c.copy_pending.new.kernel c.end_waiting-transfer.new.kernel c.end_waiting-transfer.new.kernel c.args.id.0 c.end_waiting-transfer.result c.args.range.now Share None c.end_waiting-transfer.result.stored c.end_waiting-transfer.result.note refl c.requires.good c.requires.case c.requires.owner c.requires.place c.copy_pending.ensures c.end_waiting-transfer.ensures refl
