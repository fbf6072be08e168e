use Rattle.std.proofs.Common.{◌≡◌, ℕ, sym, ap, subst, ◌∙◌, length}
use Rattle.std.specs.Prelude.{None, IfSome, find, ◌<◌, ◌^◌}
use Rattle.genie_base.specs.declared.event.Event.TheVariants.{Finish}
use Rattle.genie_base.specs.declared.reply.Reply.TheVariants as reply
use Rattle.genie_model.specs.Refusing.{refuse}
use Rattle.genie_kernel.specs.Calls.{has_number}
use Rattle.genie_kernel.specs.Good.{IsGood}
use Rattle.genie_kernel.specs.View.{outline}
use Rattle.genie_kernel.specs.declared.kernel.Kernel.{Kernel}
use Rattle.genie_kernel.specs.declared.transfer.Transfer.{Transfer}
use Rattle.genie_arrivals.specs.Failing.{Serves}
use Rattle.genie_arrivals.specs.FreshStored.{StoresBytes, StoresPending}
use Rattle.genie_arrivals.specs.Waiting.{EndsWaiting, IsWaiting}
use Rattle.genie_arrivals.specs.Outboard.{IsOutboardInput, waiting_bytes}
use Rattle.genie_arrivals.specs.Targets.{IsTarget}
use Rattle.genie_base.specs.declared.semantics.Class.TheVariants.{Copy}
use Rattle.genie_arrivals.proofs.WeakPlan.{is_waiting}
use Rattle.genie_arrivals.proofs.Closing.{fault_serves, refused_alike}
use Rattle.genie_arrivals.proofs.CopyLanded.{between_good, copy_landed}
use Rattle.genie_arrivals.proofs.EndLanded.{same_call}
use Rattle.genie_arrivals.proofs.Found.{found_over, found_some}
use Rattle.genie_arrivals.proofs.LateAim.{LateAim, late_aim, late_moved}
use Rattle.genie_arrivals.proofs.outboard_copy.finish_copy_landed.Goals as goal
use Rattle.genie_arrivals.proofs.OutboardCosts.{back_copies, outboard_aligned}
use Rattle.genie_arrivals.proofs.EarlyCostsBound.{fault_keeps, stored_keeps}
use Rattle.genie_copying.specs.Spending.{CopiesAtMost}
use Rattle.genie_arrivals.specs.EarlyCosts.{few_of, store_work}
use Rattle.std.proofs.Common.{refl}
use Rattle.std.specs.Prelude.{◌%◌, Option, Some}

pub make_ready-requires-clause-pending : goal.make_ready-requires-clause-pending
make_ready-requires-clause-pending g c = found_some c.args.kernel.now c.args.id.0 c.requires.accepted

pub returns-in-Err-clause-serves : goal.returns-in-Err-clause-serves
returns-in-Err-clause-serves g c = fault_serves c.args.kernel.now c.make_ready.new.kernel (g.S.Store.view c.args.store.now) (g.S.Store.view c.make_ready.new.store) c.args.id.0 c.requires.accepted c.make_ready.ensures.moved c.make_ready.ensures.rises c.in-Err.ensures.cause.failed

pub store_pending-requires-clause-accepted : goal.store_pending-requires-clause-accepted
store_pending-requires-clause-accepted g c =
    let k : Kernel = c.args.kernel.now in
    let mid : Kernel = c.make_ready.new.kernel in
    let v = g.S.Store.view c.args.store.now in
    let w = g.S.Store.view c.make_ready.new.store in
    let moved = c.make_ready.ensures.moved in
    let a : LateAim mid c.args.id.0 c.args.range.now = late_moved k mid c.args.id.0 c.args.range.now v w moved (late_aim k c.args.id.0 c.args.range.now (found_some k c.args.id.0 c.requires.accepted) c.requires.case c.requires.target) in
    let refused = refused_alike k mid v w c.args.id.0 moved c.requires.accepted in
    refused

pub store_pending-requires-clause-case : goal.store_pending-requires-clause-case
store_pending-requires-clause-case g c =
    let k : Kernel = c.args.kernel.now in
    let mid : Kernel = c.make_ready.new.kernel in
    let v = g.S.Store.view c.args.store.now in
    let w = g.S.Store.view c.make_ready.new.store in
    let moved = c.make_ready.ensures.moved in
    let a : LateAim mid c.args.id.0 c.args.range.now = late_moved k mid c.args.id.0 c.args.range.now v w moved (late_aim k c.args.id.0 c.args.range.now (found_some k c.args.id.0 c.requires.accepted) c.requires.case c.requires.target) in
    let refused = refused_alike k mid v w c.args.id.0 moved c.requires.accepted in
    subst (λ o. IfSome o (IsOutboardInput Copy mid.devices)) (sym a.found) a.is

pub store_pending-requires-clause-target : goal.store_pending-requires-clause-target
store_pending-requires-clause-target g c =
    let k : Kernel = c.args.kernel.now in
    let mid : Kernel = c.make_ready.new.kernel in
    let v = g.S.Store.view c.args.store.now in
    let w = g.S.Store.view c.make_ready.new.store in
    let moved = c.make_ready.ensures.moved in
    let a : LateAim mid c.args.id.0 c.args.range.now = late_moved k mid c.args.id.0 c.args.range.now v w moved (late_aim k c.args.id.0 c.args.range.now (found_some k c.args.id.0 c.requires.accepted) c.requires.case c.requires.target) in
    let refused = refused_alike k mid v w c.args.id.0 moved c.requires.accepted in
    subst (λ o. IfSome o (λ (u : Transfer). IsTarget mid u c.args.range.now)) (sym a.found) a.target

pub store_pending-requires-clause-landed : goal.store_pending-requires-clause-landed
store_pending-requires-clause-landed g c =
    subst (λ (l : ℕ). l < 2 ^ 63) (sym c.make_ready.ensures.landed) c.requires.landed

pub end_waiting-transfer-requires-clause-good : goal.end_waiting-transfer-requires-clause-good
end_waiting-transfer-requires-clause-good g c =
    let k : Kernel = c.args.kernel.now in
    let mid : Kernel = c.make_ready.new.kernel in
    let v = g.S.Store.view c.args.store.now in
    let w = g.S.Store.view c.make_ready.new.store in
    let moved = c.make_ready.ensures.moved in
    let a : LateAim mid c.args.id.0 c.args.range.now = late_moved k mid c.args.id.0 c.args.range.now v w moved (late_aim k c.args.id.0 c.args.range.now (found_some k c.args.id.0 c.requires.accepted) c.requires.case c.requires.target) in
    let refused = refused_alike k mid v w c.args.id.0 moved c.requires.accepted in
    let s : StoresPending c.args.id.0 c.args.range.now mid c.store_pending.new.kernel = c.store_pending.ensures.stores in
    let same : s.transfer ≡ a.t = same_call mid c.args.id.0 a.t s.transfer a.found s.found in
    let stores : StoresBytes mid.memory c.store_pending.new.kernel.memory c.args.range.now.object.0 c.args.range.now.off (waiting_bytes mid.devices a.t) = subst (λ (u : Transfer). StoresBytes mid.memory c.store_pending.new.kernel.memory c.args.range.now.object.0 c.args.range.now.off (waiting_bytes mid.devices u)) same s.stores in
    let size : c.args.range.now.len ≡ length (waiting_bytes mid.devices a.t) = subst (λ (u : Transfer). c.args.range.now.len ≡ length (waiting_bytes mid.devices u)) same s.size in
    let ready = found_over mid c.args.id.0 a.t refused a.found in
    subst IsGood (sym s.only) (between_good c.end_laws.ensures c.buffers_show.ensures c.buffers_are_released.ensures.ends c.buffers_are_released.ensures.shows c.copy_laws.ensures c.swap_laws.ensures c.paged_events_are_told.ensures k mid v w c.args.id.0 a.t c.args.range.now c.store_pending.new.kernel.memory c.requires.accepted moved c.in-Ok.ensures.cause.kept (g.met.S.Store.paged c.make_ready.new.store) a.found ready a.is a.target size stores)

pub end_waiting-transfer-requires-clause-accepted : goal.end_waiting-transfer-requires-clause-accepted
end_waiting-transfer-requires-clause-accepted g c =
    let k : Kernel = c.args.kernel.now in
    let mid : Kernel = c.make_ready.new.kernel in
    let v = g.S.Store.view c.args.store.now in
    let w = g.S.Store.view c.make_ready.new.store in
    let moved = c.make_ready.ensures.moved in
    let a : LateAim mid c.args.id.0 c.args.range.now = late_moved k mid c.args.id.0 c.args.range.now v w moved (late_aim k c.args.id.0 c.args.range.now (found_some k c.args.id.0 c.requires.accepted) c.requires.case c.requires.target) in
    let refused = refused_alike k mid v w c.args.id.0 moved c.requires.accepted in
    ap (λ (j : Kernel). refuse (outline j) (Finish c.args.id.0)) c.store_pending.ensures.stores.only ∙ refused

pub end_waiting-transfer-requires-clause-case : goal.end_waiting-transfer-requires-clause-case
end_waiting-transfer-requires-clause-case g c =
    let k : Kernel = c.args.kernel.now in
    let mid : Kernel = c.make_ready.new.kernel in
    let v = g.S.Store.view c.args.store.now in
    let w = g.S.Store.view c.make_ready.new.store in
    let moved = c.make_ready.ensures.moved in
    let a : LateAim mid c.args.id.0 c.args.range.now = late_moved k mid c.args.id.0 c.args.range.now v w moved (late_aim k c.args.id.0 c.args.range.now (found_some k c.args.id.0 c.requires.accepted) c.requires.case c.requires.target) in
    let refused = refused_alike k mid v w c.args.id.0 moved c.requires.accepted in
    subst (λ (j : Kernel). IfSome (find (has_number c.args.id.0) j.transfers) (IsWaiting j.devices)) (sym c.store_pending.ensures.stores.only) (subst (λ o. IfSome o (IsWaiting mid.devices)) (sym a.found) (is_waiting mid a.t a.is.inward a.is.outboard))

pub returns-clause-serves : goal.returns-clause-serves
returns-clause-serves g c =
    let k : Kernel = c.args.kernel.now in
    let mid : Kernel = c.make_ready.new.kernel in
    let v = g.S.Store.view c.args.store.now in
    let w = g.S.Store.view c.make_ready.new.store in
    let moved = c.make_ready.ensures.moved in
    let a : LateAim mid c.args.id.0 c.args.range.now = late_moved k mid c.args.id.0 c.args.range.now v w moved (late_aim k c.args.id.0 c.args.range.now (found_some k c.args.id.0 c.requires.accepted) c.requires.case c.requires.target) in
    let refused = refused_alike k mid v w c.args.id.0 moved c.requires.accepted in
    let s : StoresPending c.args.id.0 c.args.range.now mid c.store_pending.new.kernel = c.store_pending.ensures.stores in
    let same : s.transfer ≡ a.t = same_call mid c.args.id.0 a.t s.transfer a.found s.found in
    let stores : StoresBytes mid.memory c.store_pending.new.kernel.memory c.args.range.now.object.0 c.args.range.now.off (waiting_bytes mid.devices a.t) = subst (λ (u : Transfer). StoresBytes mid.memory c.store_pending.new.kernel.memory c.args.range.now.object.0 c.args.range.now.off (waiting_bytes mid.devices u)) same s.stores in
    let size : c.args.range.now.len ≡ length (waiting_bytes mid.devices a.t) = subst (λ (u : Transfer). c.args.range.now.len ≡ length (waiting_bytes mid.devices u)) same s.size in
    let ready = found_over mid c.args.id.0 a.t refused a.found in
    let new : Kernel = c.end_waiting-transfer.new.kernel in
    let z : EndsWaiting c.args.id.0 (record mid { memory = c.store_pending.new.kernel.memory }) new c.end_waiting-transfer.result = subst (λ (j : Kernel). EndsWaiting c.args.id.0 j new c.end_waiting-transfer.result) s.only c.end_waiting-transfer.ensures in
    let its : c.end_waiting-transfer.result ≡ a.t = same_call mid c.args.id.0 a.t c.end_waiting-transfer.result a.found z.found in
    let done = copy_landed c.end_laws.ensures c.buffers_show.ensures c.buffers_are_released.ensures.ends c.buffers_are_released.ensures.shows c.copy_laws.ensures c.swap_laws.ensures c.paged_events_are_told.ensures k mid v w c.args.id.0 a.t c.args.range.now c.store_pending.new.kernel.memory c.requires.accepted moved c.in-Ok.ensures.cause.kept (g.met.S.Store.paged c.make_ready.new.store) a.found ready a.is a.target size stores new (subst (λ (u : Transfer). EndsWaiting c.args.id.0 (record mid { memory = c.store_pending.new.kernel.memory }) new u) its z) c.make_ready.ensures.rises in
    subst (λ (u : Transfer). Serves k (Finish c.args.id.0) new v w (reply.Input None u.stored u.note)) (sym its) done

pub returns-in-Err-clause-copying : goal.returns-in-Err-clause-copying
returns-in-Err-clause-copying g c =
    let k : Kernel = c.args.kernel.now in
    let a = late_aim k c.args.id.0 c.args.range.now (found_some k c.args.id.0 c.requires.accepted) c.requires.case c.requires.target in
    fault_keeps c.whole_pages_cost_nothing.ensures k c.args.id.0 a.t c.args.range.now c.requires.good a.found a.target a.is.inward a.is.class_is (outboard_aligned k a.t.dev (a.t.addr % k.config.page) c.requires.good a.is.outboard) c.make_ready.new.kernel c.make_ready.ensures.copies

pub returns-clause-copying : goal.returns-clause-copying
returns-clause-copying g c =
    let k : Kernel = c.args.kernel.now in
    let mid : Kernel = c.make_ready.new.kernel in
    let moved = c.make_ready.ensures.moved in
    let range = c.args.range.now in
    let a = late_aim k c.args.id.0 range (found_some k c.args.id.0 c.requires.accepted) c.requires.case c.requires.target in
    let found : find (has_number c.args.id.0) mid.transfers ≡ Some a.t = ap (λ (z : Kernel). find (has_number c.args.id.0) z.transfers) moved.only ∙ a.found in
    let few : few_of mid.config a.t.sem ≡ few_of k.config a.t.sem = ap (λ (z : Kernel). few_of z.config a.t.sem) moved.only in
    let stored = subst (λ (o : Option Transfer). IfSome o (λ (u : Transfer). CopiesAtMost (store_work mid.memory range.object.0 range.off range.len (few_of mid.config u.sem)) mid.memory c.store_pending.new.kernel.memory)) found c.store_pending.ensures.copies in
    let there = subst (λ (f : ℕ). CopiesAtMost (store_work mid.memory range.object.0 range.off range.len f) mid.memory c.store_pending.new.kernel.memory) few stored in
    let left = back_copies _ mid.memory c.store_pending.new.kernel.memory c.end_waiting-transfer.new.kernel.memory c.end_waiting-transfer.result c.end_waiting-transfer.ensures.back there in
    let page : mid.memory.frames.page ≡ k.memory.frames.page = moved.good.sized.page ∙ ap (λ (z : Kernel). z.config.page) moved.only ∙ sym c.requires.good.sized.page in
    stored_keeps c.whole_pages_cost_nothing.ensures k c.args.id.0 a.t range c.requires.good a.found a.target a.is.inward a.is.class_is (outboard_aligned k a.t.dev (a.t.addr % k.config.page) c.requires.good a.is.outboard) mid.memory page c.make_ready.ensures.held c.end_waiting-transfer.new.kernel (few_of k.config a.t.sem) None c.end_waiting-transfer.result.stored c.end_waiting-transfer.result.note refl c.make_ready.ensures.copies left
