use Rattle.std.proofs.Common.{◌≡◌, ◌∙◌, List, sym, ap, subst}
use Rattle.genie_base.specs.Transfers.{is_strong}
use Rattle.genie_base.specs.declared.event.Event.TheVariants.{Finish}
use Rattle.genie_base.specs.declared.reply.Reply.TheVariants as reply
use Rattle.std.specs.Prelude.{None, Some, find}
use Rattle.genie_frame.specs.declared.frame.InLoan.{InLoan}
use Rattle.genie_plan.specs.Plans.{input_frames}
use Rattle.genie_kernel.specs.declared.kernel.Kernel.{Kernel}
use Rattle.genie_kernel.specs.declared.transfer.Transfer.{Transfer}
use Rattle.genie_kernel.specs.Planned.{LendsIn}
use Rattle.genie_arrivals.specs.Failing.{Serves}
use Rattle.genie_arrivals.specs.Stored.{CanStoreBuffer, StoresBuffer}
use Rattle.genie_arrivals.proofs.Closing.{Taken, aim_taken, fault_serves, refused_alike, stored_serves}
use Rattle.genie_arrivals.proofs.Finishing.{can_store, has_buffer, lends_inward}
use Rattle.genie_arrivals.proofs.Found.{found_over, found_some}
use Rattle.genie_arrivals.proofs.Readying.{aim, aim_moved}
use Rattle.genie_arrivals.proofs.EarlyCostsBound.{fault_keeps, stored_keeps}
use Rattle.genie_arrivals.specs.EarlyCosts.{few_of}
use Rattle.genie_kernel.specs.Calls.{has_number}
use Rattle.genie_base.specs.declared.config.Config.{Config}
use Rattle.genie_arrivals.proofs.copy.store_copy.Goals as goal
use Rattle.std.specs.Prelude.{◌%◌}
use Rattle.genie_arrivals.proofs.EarlyCosts.{early_aligned}

pub make_ready-requires-clause-pending : goal.make_ready-requires-clause-pending
make_ready-requires-clause-pending g c = found_some c.args.kernel.now c.args.id.0 c.requires.accepted

pub returns-in-Err-clause-serves : goal.returns-in-Err-clause-serves
returns-in-Err-clause-serves g c = fault_serves c.args.kernel.now c.make_ready.new.kernel (g.S.Store.view c.args.store.now) (g.S.Store.view c.make_ready.new.store) c.args.id.0 c.requires.accepted c.make_ready.ensures.moved c.make_ready.ensures.rises c.in-Err.ensures.cause.failed

pub remove-transfer-requires : goal.remove-transfer-requires
remove-transfer-requires g c = found_some c.make_ready.new.kernel c.args.id.0 (refused_alike c.args.kernel.now c.make_ready.new.kernel (g.S.Store.view c.args.store.now) (g.S.Store.view c.make_ready.new.store) c.args.id.0 c.make_ready.ensures.moved c.requires.accepted)

pub store_buffer-requires : goal.store_buffer-requires
store_buffer-requires g c =
    let k : Kernel = c.args.kernel.now in
    let mid : Kernel = c.make_ready.new.kernel in
    let t : Transfer = c.remove-transfer.result in
    let v = g.S.Store.view c.args.store.now in
    let w = g.S.Store.view c.make_ready.new.store in
    let moved = c.make_ready.ensures.moved in
    let found = c.remove-transfer.ensures.removed in
    let a = aim_moved k mid c.args.id.0 c.args.range.now v w moved (aim k c.args.id.0 c.args.range.now (found_some k c.args.id.0 c.requires.accepted) c.requires.case c.requires.target) in
    let taken : Taken mid t c.args.range.now = aim_taken mid c.args.id.0 c.args.range.now t a found in
    let strong = ap is_strong taken.is.class_is in
    let h = has_buffer mid c.args.id.0 t c.in-Inward.plan moved.good found taken.is.early strong taken.is.inward c.in-Inward.is in
    let can = can_store c.copy_laws.ensures mid c.args.id.0 t c.args.range.now c.in-Inward.plan.loans.items moved.good found taken.is.class_is taken.is.inward taken.target h c.few_bytes-few.result (c.in-Ok.ensures.can c.few_bytes-few.result) c.make_ready.ensures.meters strong in
    subst (λ (l : List InLoan). CanStoreBuffer mid.memory c.args.range.now.object.0 c.args.range.now.off c.args.range.now.len c.few_bytes-few.result (input_frames l)) (sym c.as_slice.ensures.value) can

pub unreachable-requires : goal.unreachable-requires
unreachable-requires g c =
    let k : Kernel = c.args.kernel.now in
    let mid : Kernel = c.make_ready.new.kernel in
    let t : Transfer = c.remove-transfer.result in
    let moved = c.make_ready.ensures.moved in
    let found = c.remove-transfer.ensures.removed in
    let a = aim_moved k mid c.args.id.0 c.args.range.now (g.S.Store.view c.args.store.now) (g.S.Store.view c.make_ready.new.store) moved (aim k c.args.id.0 c.args.range.now (found_some k c.args.id.0 c.requires.accepted) c.requires.case c.requires.target) in
    let taken : Taken mid t c.args.range.now = aim_taken mid c.args.id.0 c.args.range.now t a found in
    subst (LendsIn mid.config.page t) c.in-Outward.is (lends_inward mid c.args.id.0 t moved.good found taken.is.early (ap is_strong taken.is.class_is) taken.is.inward)

pub unreachable-requires-in-Nothing : goal.unreachable-requires-in-Nothing
unreachable-requires-in-Nothing g c =
    let k : Kernel = c.args.kernel.now in
    let mid : Kernel = c.make_ready.new.kernel in
    let t : Transfer = c.remove-transfer.result in
    let moved = c.make_ready.ensures.moved in
    let found = c.remove-transfer.ensures.removed in
    let a = aim_moved k mid c.args.id.0 c.args.range.now (g.S.Store.view c.args.store.now) (g.S.Store.view c.make_ready.new.store) moved (aim k c.args.id.0 c.args.range.now (found_some k c.args.id.0 c.requires.accepted) c.requires.case c.requires.target) in
    let taken : Taken mid t c.args.range.now = aim_taken mid c.args.id.0 c.args.range.now t a found in
    subst (LendsIn mid.config.page t) c.in-Nothing.is (lends_inward mid c.args.id.0 t moved.good found taken.is.early (ap is_strong taken.is.class_is) taken.is.inward)

pub returns-clause-serves : goal.returns-clause-serves
returns-clause-serves g c =
    let k : Kernel = c.args.kernel.now in
    let mid : Kernel = c.make_ready.new.kernel in
    let t : Transfer = c.remove-transfer.result in
    let v = g.S.Store.view c.args.store.now in
    let w = g.S.Store.view c.make_ready.new.store in
    let moved = c.make_ready.ensures.moved in
    let found = c.remove-transfer.ensures.removed in
    let a = aim_moved k mid c.args.id.0 c.args.range.now v w moved (aim k c.args.id.0 c.args.range.now (found_some k c.args.id.0 c.requires.accepted) c.requires.case c.requires.target) in
    let taken : Taken mid t c.args.range.now = aim_taken mid c.args.id.0 c.args.range.now t a found in
    let strong = ap is_strong taken.is.class_is in
    let h = has_buffer mid c.args.id.0 t c.in-Inward.plan moved.good found taken.is.early strong taken.is.inward c.in-Inward.is in
    let stored : StoresBuffer mid.memory c.store_buffer.new.memory c.args.range.now.object.0 c.args.range.now.off c.args.range.now.len (input_frames c.in-Inward.plan.loans.items) = subst (λ (l : List InLoan). StoresBuffer mid.memory c.store_buffer.new.memory c.args.range.now.object.0 c.args.range.now.off c.args.range.now.len (input_frames l)) c.as_slice.ensures.value c.store_buffer.ensures.stores in
    let ready = found_over mid c.args.id.0 t (refused_alike k mid v w c.args.id.0 moved c.requires.accepted) found in
    subst (λ (ts : List Transfer). Serves k (Finish c.args.id.0) (record mid { memory = c.store_buffer.new.memory; transfers = ts }) v w (reply.Input None t.stored t.note)) (sym c.remove-transfer.ensures.others) (stored_serves c.end_laws.ensures c.copy_laws.ensures c.swap_laws.ensures c.paged_events_are_told.ensures k mid v w c.args.id.0 t c.args.range.now c.in-Inward.plan.loans.items c.store_buffer.new.memory c.requires.accepted moved c.in-Ok.ensures.cause.kept (g.met.S.Store.paged c.make_ready.new.store) found ready taken h stored c.make_ready.ensures.rises)

pub returns-in-Err-clause-copying : goal.returns-in-Err-clause-copying
returns-in-Err-clause-copying g c =
    let k : Kernel = c.args.kernel.now in
    let a = aim k c.args.id.0 c.args.range.now (found_some k c.args.id.0 c.requires.accepted) c.requires.case c.requires.target in
    fault_keeps c.whole_pages_cost_nothing.ensures k c.args.id.0 a.t c.args.range.now c.requires.good a.found a.target a.is.inward a.is.class_is (early_aligned k a.t.dev (a.t.addr % k.config.page) c.requires.good a.is.early) c.make_ready.new.kernel c.make_ready.ensures.copies

pub returns-clause-copying : goal.returns-clause-copying
returns-clause-copying g c =
    let k : Kernel = c.args.kernel.now in
    let mid : Kernel = c.make_ready.new.kernel in
    let t : Transfer = c.remove-transfer.result in
    let moved = c.make_ready.ensures.moved in
    let found : find (has_number c.args.id.0) k.transfers ≡ Some t = sym (ap (λ (z : Kernel). find (has_number c.args.id.0) z.transfers) moved.only) ∙ c.remove-transfer.ensures.removed in
    let taken : Taken k t c.args.range.now = aim_taken k c.args.id.0 c.args.range.now t (aim k c.args.id.0 c.args.range.now (found_some k c.args.id.0 c.requires.accepted) c.requires.case c.requires.target) found in
    let config : mid.config ≡ k.config = ap (λ (z : Kernel). z.config) moved.only in
    let page : mid.memory.frames.page ≡ k.memory.frames.page = moved.good.sized.page ∙ ap (λ (z : Config). z.page) config ∙ sym c.requires.good.sized.page in
    let few : c.few_bytes-few.result ≡ few_of k.config t.sem = c.few_bytes-few.ensures ∙ ap (λ (z : Config). few_of z t.sem) config in
    let new : Kernel = record mid { memory = c.store_buffer.new.memory; transfers = c.remove-transfer.new.self } in
    stored_keeps c.whole_pages_cost_nothing.ensures k c.args.id.0 t c.args.range.now c.requires.good found taken.target taken.is.inward taken.is.class_is (early_aligned k t.dev (t.addr % k.config.page) c.requires.good taken.is.early) mid.memory page c.make_ready.ensures.held new c.few_bytes-few.result None t.stored t.note few c.make_ready.ensures.copies c.store_buffer.ensures.copies
