use Rattle.std.proofs.Common.{◌≡◌, ◌≤◌, ◌*◌, ℕ, true, false, refl, sym, ap, subst, arith, ◌∙◌}
use Rattle.std.specs.Prelude.{Some, IfSome, IsSome, find, is_some, ◌<◌, ◌^◌}
use Rattle.genie_base.specs.Counts.{span}
use Rattle.genie_base.specs.declared.event.Event.TheVariants.{Finish}
use Rattle.genie_base.specs.declared.reply.Reply.TheVariants as reply
use Rattle.genie_base.specs.declared.semantics.Class.TheVariants.{Move}
use Rattle.genie_hiding.specs.Rooms.{available}
use Rattle.genie_model.specs.Lemmas.Lists.{find_has}
use Rattle.genie_model.specs.Refusing.{refuse}
use Rattle.genie_model.specs.Tables.{entry}
use Rattle.genie_space.specs.Spaces.{AddressSpaces}
use Rattle.genie_kernel.specs.declared.kernel.Kernel.{Kernel}
use Rattle.genie_kernel.specs.declared.transfer.Transfer.{Transfer}
use Rattle.genie_kernel.specs.Calls.{has_number}
use Rattle.genie_kernel.specs.Regions.{has_id, owned_regions, regions_of}
use Rattle.genie_kernel.specs.Lemmas.Rising.{rises_most}
use Rattle.genie_kernel.specs.View.{outline}
use Rattle.genie_arrivals.specs.Failing.{Serves}
use Rattle.genie_arrivals.specs.Live.{lively}
use Rattle.genie_arrivals.specs.Outboard.{IsOutboardInput}
use Rattle.genie_arrivals.specs.Owners.{IsNamed}
use Rattle.genie_arrivals.specs.Pooled.{GoesToRegion}
use Rattle.genie_arrivals.specs.Replies.{is_there}
use Rattle.genie_arrivals.specs.Waiting.{IsWaiting}
use Rattle.genie_arrivals.proofs.Closing.{fault_serves, refused_alike}
use Rattle.genie_arrivals.proofs.Found.{found_case}
use Rattle.genie_arrivals.proofs.LateAim.{strong_unlent}
use Rattle.genie_arrivals.proofs.MoveAim.{MoveAim, aim_can, aim_fits, aim_frames, aim_region, move_aim, move_moved}
use Rattle.genie_arrivals.proofs.MoveEnds.{over_call, over_ends, over_good, over_spaces}
use Rattle.genie_arrivals.proofs.Moving.{is_had, low_address}
use Rattle.genie_arrivals.proofs.Owning.{named_there}
use Rattle.genie_arrivals.proofs.PooledAim.{moved_serves}
use Rattle.genie_arrivals.proofs.WeakPlan.{is_waiting}
use Rattle.genie_arrivals.proofs.outboard_move.finish_move_landed.Goals as goal
use Rattle.genie_arrivals.proofs.OutboardCosts.{back_copies, copies_on, fault_none, move_keeps_there}
use Rattle.genie_arrivals.proofs.EarlyCosts.{copies_same}
use Rattle.genie_copying.specs.Spending.{CopiesAtMost}
use Rattle.genie_arrivals.proofs.MoveAim.{aim_start}

pub page_count-count-requires-clause-fits : goal.page_count-count-requires-clause-fits
page_count-count-requires-clause-fits g c =
    aim_fits c.args.kernel.now c.args.id.0 c.args.range.now c.requires.good (aim_region c.args.kernel.now c.args.id.0 c.args.range.now (move_aim c.args.kernel.now c.args.id.0 c.args.range.now c.requires.accepted c.requires.case c.requires.place)) c.end_laws.ensures c.change_laws.ensures c.copy_laws.ensures

pub make_frames-requires-clause-frames : goal.make_frames-requires-clause-frames
make_frames-requires-clause-frames g c =
    let a : MoveAim c.args.kernel.now c.args.id.0 c.args.range.now = move_aim c.args.kernel.now c.args.id.0 c.args.range.now c.requires.accepted c.requires.case c.requires.place in
    let frames = aim_frames c.args.kernel.now c.args.id.0 c.args.range.now c.requires.good (aim_region c.args.kernel.now c.args.id.0 c.args.range.now a) c.end_laws.ensures c.change_laws.ensures c.copy_laws.ensures c.pending_are_available.ensures (strong_unlent c.args.kernel.now c.args.id.0 a.t c.requires.good a.found a.is refl) in
    let page : c.get-page.result ≡ c.args.kernel.now.config.page = c.get-page.ensures.number ∙ c.page.ensures ∙ c.requires.good.spaced.page in
    let pages = subst (λ (z : ℕ). span z c.args.range.now.off c.args.range.now.len ≤ available c.args.kernel.now.memory.frames) (sym page) frames in
    omega (arith, pages, c.page_count-count.ensures.number)

pub returns-in-Err-clause-serves : goal.returns-in-Err-clause-serves
returns-in-Err-clause-serves g c =
    fault_serves c.args.kernel.now c.make_frames.new.kernel (g.S.Store.view c.args.store.now) (g.S.Store.view c.make_frames.new.store) c.args.id.0 c.requires.accepted c.make_frames.ensures.moved (rises_most (2 ^ 20) (2 ^ 22) c.args.kernel.now.memory.frames c.make_frames.new.kernel.memory.frames (omega arith) c.make_frames.ensures.rises) c.in-Err.ensures.cause.failed

pub fill_pending-requires-clause-accepted : goal.fill_pending-requires-clause-accepted
fill_pending-requires-clause-accepted g c =
    let k : Kernel = c.args.kernel.now in
    let mid : Kernel = c.make_frames.new.kernel in
    let n = c.args.id.0 in
    let range = c.args.range.now in
    let v = g.S.Store.view c.args.store.now in
    let w = g.S.Store.view c.make_frames.new.store in
    let moved = c.make_frames.ensures.moved in
    let first : MoveAim k n range = move_aim k n range c.requires.accepted c.requires.case c.requires.place in
    let a : MoveAim mid n range = move_moved k mid n range v w moved first in
    let refused = refused_alike k mid v w n moved c.requires.accepted in
    refused

pub fill_pending-requires-clause-case : goal.fill_pending-requires-clause-case
fill_pending-requires-clause-case g c =
    let k : Kernel = c.args.kernel.now in
    let mid : Kernel = c.make_frames.new.kernel in
    let n = c.args.id.0 in
    let range = c.args.range.now in
    let v = g.S.Store.view c.args.store.now in
    let w = g.S.Store.view c.make_frames.new.store in
    let moved = c.make_frames.ensures.moved in
    let first : MoveAim k n range = move_aim k n range c.requires.accepted c.requires.case c.requires.place in
    let a : MoveAim mid n range = move_moved k mid n range v w moved first in
    let refused = refused_alike k mid v w n moved c.requires.accepted in
    subst (λ o. IfSome o (IsOutboardInput Move mid.devices)) (sym a.found) a.is

pub fill_pending-requires-clause-place : goal.fill_pending-requires-clause-place
fill_pending-requires-clause-place g c =
    let k : Kernel = c.args.kernel.now in
    let mid : Kernel = c.make_frames.new.kernel in
    let n = c.args.id.0 in
    let range = c.args.range.now in
    let v = g.S.Store.view c.args.store.now in
    let w = g.S.Store.view c.make_frames.new.store in
    let moved = c.make_frames.ensures.moved in
    let first : MoveAim k n range = move_aim k n range c.requires.accepted c.requires.case c.requires.place in
    let a : MoveAim mid n range = move_moved k mid n range v w moved first in
    let refused = refused_alike k mid v w n moved c.requires.accepted in
    subst (λ o. IfSome o (λ (u : Transfer). GoesToRegion mid u range)) (sym a.found) a.to

pub fill_pending-requires-clause-can : goal.fill_pending-requires-clause-can
fill_pending-requires-clause-can g c =
    let k : Kernel = c.args.kernel.now in
    let mid : Kernel = c.make_frames.new.kernel in
    let n = c.args.id.0 in
    let range = c.args.range.now in
    let v = g.S.Store.view c.args.store.now in
    let w = g.S.Store.view c.make_frames.new.store in
    let moved = c.make_frames.ensures.moved in
    let first : MoveAim k n range = move_aim k n range c.requires.accepted c.requires.case c.requires.place in
    let a : MoveAim mid n range = move_moved k mid n range v w moved first in
    let refused = refused_alike k mid v w n moved c.requires.accepted in
    let page : c.get-page.result ≡ mid.config.page = c.get-page.ensures.number ∙ c.page.ensures ∙ c.requires.good.spaced.page ∙ sym (ap (λ (j : Kernel). j.config.page) moved.only) in
    let number : c.page_count-count.result ≡ span mid.config.page range.off range.len = subst (λ (z : ℕ). c.page_count-count.result ≡ span z range.off range.len) page c.page_count-count.ensures.number in
    aim_can mid n range moved.good (aim_region mid n range a) c.end_laws.ensures c.change_laws.ensures c.copy_laws.ensures c.moves_end_in_zeros.ensures.can (omega (arith, number, c.in-Ok.ensures.free)) c.make_frames.ensures.meters

pub fill_pending-requires-clause-landed : goal.fill_pending-requires-clause-landed
fill_pending-requires-clause-landed g c =
    subst (λ (l : ℕ). l < 2 ^ 63) (sym c.make_frames.ensures.landed) c.requires.landed

pub end_waiting-transfer-requires-clause-good : goal.end_waiting-transfer-requires-clause-good
end_waiting-transfer-requires-clause-good g c =
    let k : Kernel = c.args.kernel.now in
    let mid : Kernel = c.make_frames.new.kernel in
    let n = c.args.id.0 in
    let range = c.args.range.now in
    let v = g.S.Store.view c.args.store.now in
    let w = g.S.Store.view c.make_frames.new.store in
    let moved = c.make_frames.ensures.moved in
    let first : MoveAim k n range = move_aim k n range c.requires.accepted c.requires.case c.requires.place in
    let a : MoveAim mid n range = move_moved k mid n range v w moved first in
    let refused = refused_alike k mid v w n moved c.requires.accepted in
    let owner : IfSome (find (has_number n) mid.transfers) (λ (u : Transfer). IsSome u.owner) = subst (λ (j : Kernel). IfSome (find (has_number n) j.transfers) (λ (u : Transfer). IsSome u.owner)) (sym moved.only) c.requires.owner in
    over_good c.end_laws.ensures c.change_laws.ensures c.copy_laws.ensures c.swap_laws.ensures c.buffers_show.ensures c.buffers_are_released.ensures.ends c.buffers_are_released.ensures.shows mid n range moved.good refused a owner c.fill_pending.new.kernel c.fill_pending.ensures.fills

pub end_waiting-transfer-requires-clause-accepted : goal.end_waiting-transfer-requires-clause-accepted
end_waiting-transfer-requires-clause-accepted g c =
    let k : Kernel = c.args.kernel.now in
    let mid : Kernel = c.make_frames.new.kernel in
    let n = c.args.id.0 in
    let range = c.args.range.now in
    let v = g.S.Store.view c.args.store.now in
    let w = g.S.Store.view c.make_frames.new.store in
    let moved = c.make_frames.ensures.moved in
    let first : MoveAim k n range = move_aim k n range c.requires.accepted c.requires.case c.requires.place in
    let a : MoveAim mid n range = move_moved k mid n range v w moved first in
    let refused = refused_alike k mid v w n moved c.requires.accepted in
    ap (λ (j : Kernel). refuse (outline j) (Finish n)) c.fill_pending.ensures.fills.only ∙ refused

pub end_waiting-transfer-requires-clause-case : goal.end_waiting-transfer-requires-clause-case
end_waiting-transfer-requires-clause-case g c =
    let k : Kernel = c.args.kernel.now in
    let mid : Kernel = c.make_frames.new.kernel in
    let n = c.args.id.0 in
    let range = c.args.range.now in
    let v = g.S.Store.view c.args.store.now in
    let w = g.S.Store.view c.make_frames.new.store in
    let moved = c.make_frames.ensures.moved in
    let first : MoveAim k n range = move_aim k n range c.requires.accepted c.requires.case c.requires.place in
    let a : MoveAim mid n range = move_moved k mid n range v w moved first in
    let refused = refused_alike k mid v w n moved c.requires.accepted in
    subst (λ (j : Kernel). IfSome (find (has_number n) j.transfers) (IsWaiting j.devices)) (sym c.fill_pending.ensures.fills.only) (subst (λ o. IfSome o (IsWaiting mid.devices)) (sym a.found) (is_waiting mid a.t a.is.inward a.is.outboard))

pub unreachable-requires : goal.unreachable-requires
unreachable-requires g c =
    let k : Kernel = c.args.kernel.now in
    let mid : Kernel = c.make_frames.new.kernel in
    let n = c.args.id.0 in
    let range = c.args.range.now in
    let v = g.S.Store.view c.args.store.now in
    let w = g.S.Store.view c.make_frames.new.store in
    let moved = c.make_frames.ensures.moved in
    let first : MoveAim k n range = move_aim k n range c.requires.accepted c.requires.case c.requires.place in
    let a : MoveAim mid n range = move_moved k mid n range v w moved first in
    let refused = refused_alike k mid v w n moved c.requires.accepted in
    let full : Kernel = c.fill_pending.new.kernel in
    let new : Kernel = c.end_waiting-transfer.new.kernel in
    let u : Transfer = c.end_waiting-transfer.result in
    let spaces : new.spaces ≡ mid.spaces = over_spaces mid full new n range u c.fill_pending.ensures.fills c.end_waiting-transfer.ensures in
    let place : IfSome (find (has_number n) mid.transfers) (λ (j : Transfer). GoesToRegion mid j range) = subst (λ o. IfSome o (λ (j : Transfer). GoesToRegion mid j range)) (sym a.found) a.to in
    let to = found_case (λ (j : Transfer). GoesToRegion mid j range) mid n u place (over_call mid full new n range u c.fill_pending.ensures.fills c.end_waiting-transfer.ensures) in
    let there = named_there mid.spaces u to.owned to.named in
    let none = c.named_region.ensures.none c.in_default.is in
    let clash : true ≡ false = sym there ∙ sym (ap (λ (s : AddressSpaces). is_there (owned_regions s.processes) u) spaces) ∙ none in
    absurd (cc)

pub make_live-requires-clause-there : goal.make_live-requires-clause-there
make_live-requires-clause-there g c =
    let k : Kernel = c.args.kernel.now in
    let mid : Kernel = c.make_frames.new.kernel in
    let n = c.args.id.0 in
    let range = c.args.range.now in
    let v = g.S.Store.view c.args.store.now in
    let w = g.S.Store.view c.make_frames.new.store in
    let moved = c.make_frames.ensures.moved in
    let first : MoveAim k n range = move_aim k n range c.requires.accepted c.requires.case c.requires.place in
    let a : MoveAim mid n range = move_moved k mid n range v w moved first in
    let refused = refused_alike k mid v w n moved c.requires.accepted in
    let full : Kernel = c.fill_pending.new.kernel in
    let new : Kernel = c.end_waiting-transfer.new.kernel in
    let u : Transfer = c.end_waiting-transfer.result in
    let spaces : new.spaces ≡ mid.spaces = over_spaces mid full new n range u c.fill_pending.ensures.fills c.end_waiting-transfer.ensures in
    let o = c.in-Some.owned in
    let had = is_had mid u o (subst (λ (s : AddressSpaces). IsNamed s u o) spaces c.in-Some.ensures.found) in
    ap is_some (ap (λ (s : AddressSpaces). find (has_id o.region.id.0) (regions_of (entry s.processes o.pid))) spaces ∙ ap (λ e. find (has_id o.region.id.0) (regions_of e)) had.there ∙ had.found)

pub overflow_mul-result : goal.overflow_mul-result
overflow_mul-result g c =
    let k : Kernel = c.args.kernel.now in
    let mid : Kernel = c.make_frames.new.kernel in
    let n = c.args.id.0 in
    let range = c.args.range.now in
    let v = g.S.Store.view c.args.store.now in
    let w = g.S.Store.view c.make_frames.new.store in
    let moved = c.make_frames.ensures.moved in
    let first : MoveAim k n range = move_aim k n range c.requires.accepted c.requires.case c.requires.place in
    let a : MoveAim mid n range = move_moved k mid n range v w moved first in
    let refused = refused_alike k mid v w n moved c.requires.accepted in
    let full : Kernel = c.fill_pending.new.kernel in
    let new : Kernel = c.end_waiting-transfer.new.kernel in
    let u : Transfer = c.end_waiting-transfer.result in
    let spaces : new.spaces ≡ mid.spaces = over_spaces mid full new n range u c.fill_pending.ensures.fills c.end_waiting-transfer.ensures in
    let o = c.in-Some.owned in
    let had = is_had mid u o (subst (λ (s : AddressSpaces). IsNamed s u o) spaces c.in-Some.ensures.found) in
    let page : c.get-page.result ≡ mid.config.page = c.get-page.ensures.number ∙ c.page.ensures ∙ c.requires.good.spaced.page ∙ sym (ap (λ (j : Kernel). j.config.page) moved.only) in
    let low = low_address mid o.pid c.get-page.result had.regions o.region moved.good had.there (find_has (has_id o.region.id.0) had.regions o.region had.found).0 page in
    omega (arith, low)

pub returns-clause-serves : goal.returns-clause-serves
returns-clause-serves g c =
    let k : Kernel = c.args.kernel.now in
    let mid : Kernel = c.make_frames.new.kernel in
    let n = c.args.id.0 in
    let range = c.args.range.now in
    let v = g.S.Store.view c.args.store.now in
    let w = g.S.Store.view c.make_frames.new.store in
    let moved = c.make_frames.ensures.moved in
    let first : MoveAim k n range = move_aim k n range c.requires.accepted c.requires.case c.requires.place in
    let a : MoveAim mid n range = move_moved k mid n range v w moved first in
    let refused = refused_alike k mid v w n moved c.requires.accepted in
    let owner : IfSome (find (has_number n) mid.transfers) (λ (u : Transfer). IsSome u.owner) = subst (λ (j : Kernel). IfSome (find (has_number n) j.transfers) (λ (u : Transfer). IsSome u.owner)) (sym moved.only) c.requires.owner in
    let full : Kernel = c.fill_pending.new.kernel in
    let new : Kernel = c.end_waiting-transfer.new.kernel in
    let u : Transfer = c.end_waiting-transfer.result in
    let spaces : new.spaces ≡ mid.spaces = over_spaces mid full new n range u c.fill_pending.ensures.fills c.end_waiting-transfer.ensures in
    let o = c.in-Some.owned in
    let had = is_had mid u o (subst (λ (s : AddressSpaces). IsNamed s u o) spaces c.in-Some.ensures.found) in
    let page : c.get-page.result ≡ mid.config.page = c.get-page.ensures.number ∙ c.page.ensures ∙ c.requires.good.spaced.page ∙ sym (ap (λ (j : Kernel). j.config.page) moved.only) in
    let regions : regions_of (entry new.spaces.processes o.pid) ≡ had.regions = ap (λ (s : AddressSpaces). regions_of (entry s.processes o.pid)) spaces ∙ ap regions_of had.there in
    let same : c.make_live.new.kernel ≡ lively new o.pid o.region.id.0 had.regions = c.make_live.ensures ∙ ap (lively new o.pid o.region.id.0) regions in
    let ended = over_ends c.end_laws.ensures c.change_laws.ensures c.copy_laws.ensures c.swap_laws.ensures c.buffers_show.ensures c.buffers_are_released.ensures.ends c.buffers_are_released.ensures.shows mid n range moved.good refused a owner c.fill_pending.new.kernel c.fill_pending.ensures.fills new u o had c.end_waiting-transfer.ensures in
    let done = moved_serves c.copy_laws.ensures c.paged_events_are_told.ensures k mid (lively new o.pid o.region.id.0 had.regions) v w n (reply.Input (Some (o.region.start * mid.config.page)) u.stored u.note) c.requires.accepted moved (rises_most (2 ^ 20) (2 ^ 22) k.memory.frames mid.memory.frames (omega arith) c.make_frames.ensures.rises) c.in-Ok.ensures.cause.kept (g.met.S.Store.paged c.make_frames.new.store) ended in
    subst (λ (x : Kernel). Serves k (Finish n) x v w (reply.Input (Some (o.region.start * c.get-page.result)) u.stored u.note)) (sym same) (subst (λ (z : ℕ). Serves k (Finish n) (lively new o.pid o.region.id.0 had.regions) v w (reply.Input (Some (o.region.start * z)) u.stored u.note)) (sym page) done)

pub returns-in-Err-clause-copying : goal.returns-in-Err-clause-copying
returns-in-Err-clause-copying g c = fault_none c.args.kernel.now c.make_frames.new.kernel c.args.id.0 c.make_frames.ensures.copies

pub returns-clause-copying : goal.returns-clause-copying
returns-clause-copying g c =
    let k : Kernel = c.args.kernel.now in
    let mid : Kernel = c.make_frames.new.kernel in
    let n = c.args.id.0 in
    let range = c.args.range.now in
    let moved = c.make_frames.ensures.moved in
    let a : MoveAim k n range = move_aim k n range c.requires.accepted c.requires.case c.requires.place in
    let start = aim_start k n range c.requires.good (aim_region k n range a) in
    let owned = found_case (λ (u : Transfer). IsSome u.owner) k n a.t c.requires.owner a.found in
    let page : mid.memory.frames.page ≡ k.memory.frames.page = moved.good.sized.page ∙ ap (λ (z : Kernel). z.config.page) moved.only ∙ sym c.requires.good.sized.page in
    let filled : CopiesAtMost k.memory.frames.page mid.memory c.fill_pending.new.kernel.memory = subst (λ (p : ℕ). CopiesAtMost p mid.memory c.fill_pending.new.kernel.memory) page (c.fill_pending.ensures.copies start) in
    let ended = back_copies k.memory.frames.page mid.memory c.fill_pending.new.kernel.memory c.end_waiting-transfer.new.kernel.memory c.end_waiting-transfer.result c.end_waiting-transfer.ensures.back filled in
    let live = copies_same k.memory.frames.page mid.memory c.end_waiting-transfer.new.kernel.memory c.make_live.new.kernel.memory (ap (λ (z : Kernel). z.memory.frames.meters) c.make_live.ensures) ended in
    move_keeps_there k c.make_live.new.kernel n a.t (Some (c.in-Some.owned.region.start * c.get-page.result)) c.end_waiting-transfer.result.stored c.end_waiting-transfer.result.note c.requires.good a.found a.is.inward a.is.class_is a.is.outboard owned (copies_on k.memory.frames.page k.memory mid.memory c.make_live.new.kernel.memory c.make_frames.ensures.copies live)
