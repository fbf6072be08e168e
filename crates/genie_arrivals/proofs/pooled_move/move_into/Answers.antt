use Rattle.std.proofs.Common.{◌≡◌, ◌≤◌, ◌*◌, ◌+◌, ◌^◌, ℕ, true, false, sym, ap, subst, arith, ◌∙◌}
use Rattle.std.specs.Prelude.{Some, IfSome, find, is_some}
use Rattle.genie_base.specs.Counts.{span}
use Rattle.genie_base.specs.declared.event.Event.TheVariants.{Finish}
use Rattle.genie_base.specs.declared.reply.Reply.TheVariants as reply
use Rattle.genie_hiding.specs.Rooms.{available}
use Rattle.genie_object.specs.Lemmas.Works.{below_more}
use Rattle.genie_model.specs.Lemmas.Lists.{find_has}
use Rattle.genie_model.specs.Refusing.{refuse}
use Rattle.genie_model.specs.Tables.{entry}
use Rattle.genie_space.specs.Spaces.{AddressSpaces}
use Rattle.genie_kernel.specs.declared.kernel.Kernel.{Kernel}
use Rattle.genie_kernel.specs.declared.transfer.Transfer.{Transfer}
use Rattle.genie_kernel.specs.Calls.{has_number}
use Rattle.genie_kernel.specs.Lemmas.Rising.{rises_most}
use Rattle.genie_kernel.specs.Regions.{has_id, owned_regions, regions_of}
use Rattle.genie_kernel.specs.View.{outline}
use Rattle.genie_arrivals.specs.Blanks.{CanBlank}
use Rattle.genie_arrivals.specs.Failing.{Serves}
use Rattle.genie_arrivals.specs.Live.{lively}
use Rattle.genie_arrivals.specs.Owners.{IsNamed}
use Rattle.genie_arrivals.specs.Replies.{is_there}
use Rattle.genie_arrivals.specs.Waiting.{IsWaiting}
use Rattle.genie_arrivals.proofs.Closing.{fault_serves}
use Rattle.genie_arrivals.proofs.MoveAim.{aim_blank, aim_fits, aim_frames, aim_there, aim_unheld}
use Rattle.genie_arrivals.proofs.Moving.{is_had, low_address}
use Rattle.genie_arrivals.proofs.PooledAim.{moved_serves}
use Rattle.genie_arrivals.proofs.PooledMoveEnds.{AfterRoom, PoolAim, after_room, blank_can, blank_middle, pool_aim, pool_ends, pool_named, pool_spaces, pool_unlent, pool_waits}
use Rattle.genie_arrivals.proofs.pooled_move.move_into.Goals as goal

pub page_count-count-requires-clause-fits : goal.page_count-count-requires-clause-fits
page_count-count-requires-clause-fits g c =
    let k : Kernel = c.args.kernel.now in
    let n = c.args.id.0 in
    let range = c.args.range.now in
    let a : PoolAim k n range = pool_aim k n range c.requires.accepted c.requires.case c.requires.place in
    aim_fits k n range c.requires.good a.region c.end_laws.ensures c.change_laws.ensures c.copy_laws.ensures

pub make_frames-requires-clause-frames : goal.make_frames-requires-clause-frames
make_frames-requires-clause-frames g c =
    let k : Kernel = c.args.kernel.now in
    let n = c.args.id.0 in
    let range = c.args.range.now in
    let a : PoolAim k n range = pool_aim k n range c.requires.accepted c.requires.case c.requires.place in
    let frames = aim_frames k n range c.requires.good a.region c.end_laws.ensures c.change_laws.ensures c.copy_laws.ensures c.pending_are_available.ensures (pool_unlent k n range a c.requires.good) in
    let page : c.get-page.result ≡ k.config.page = c.get-page.ensures.number ∙ c.page.ensures ∙ c.requires.good.spaced.page in
    let pages = subst (λ (z : ℕ). span z range.off range.len ≤ available k.memory.frames) (sym page) frames in
    omega (arith, pages, c.page_count-count.ensures.number)

pub returns-in-Err : goal.returns-in-Err
returns-in-Err g c =
    fault_serves c.args.kernel.now c.make_frames.new.kernel (g.S.Store.view c.args.store.now) (g.S.Store.view c.make_frames.new.store) c.args.id.0 c.requires.accepted c.make_frames.ensures.moved (rises_most (2 ^ 20) (2 ^ 22) c.args.kernel.now.memory.frames c.make_frames.new.kernel.memory.frames (omega arith) c.make_frames.ensures.rises) c.in-Err.ensures.cause.failed

pub blank_object-requires-clause-sound : goal.blank_object-requires-clause-sound
blank_object-requires-clause-sound g c = c.make_frames.ensures.moved.good.sound

pub blank_object-requires-clause-there : goal.blank_object-requires-clause-there
blank_object-requires-clause-there g c =
    let k : Kernel = c.args.kernel.now in
    let mid : Kernel = c.make_frames.new.kernel in
    let n = c.args.id.0 in
    let range = c.args.range.now in
    let moved = c.make_frames.ensures.moved in
    let y : AfterRoom mid n range = after_room k mid n range (g.S.Store.view c.args.store.now) (g.S.Store.view c.make_frames.new.store) c.requires.accepted c.requires.case c.requires.owner c.requires.place moved in
    aim_there mid n range moved.good y.aim.region

pub blank_object-requires-clause-unheld : goal.blank_object-requires-clause-unheld
blank_object-requires-clause-unheld g c =
    let k : Kernel = c.args.kernel.now in
    let mid : Kernel = c.make_frames.new.kernel in
    let n = c.args.id.0 in
    let range = c.args.range.now in
    let moved = c.make_frames.ensures.moved in
    let y : AfterRoom mid n range = after_room k mid n range (g.S.Store.view c.args.store.now) (g.S.Store.view c.make_frames.new.store) c.requires.accepted c.requires.case c.requires.owner c.requires.place moved in
    aim_unheld mid n range moved.good y.aim.region

pub blank_object-requires-clause-can : goal.blank_object-requires-clause-can
blank_object-requires-clause-can g c =
    let k : Kernel = c.args.kernel.now in
    let mid : Kernel = c.make_frames.new.kernel in
    let n = c.args.id.0 in
    let range = c.args.range.now in
    let moved = c.make_frames.ensures.moved in
    let y : AfterRoom mid n range = after_room k mid n range (g.S.Store.view c.args.store.now) (g.S.Store.view c.make_frames.new.store) c.requires.accepted c.requires.case c.requires.owner c.requires.place moved in
    let page : c.get-page.result ≡ mid.config.page = c.get-page.ensures.number ∙ c.page.ensures ∙ c.requires.good.spaced.page ∙ sym (ap (λ (j : Kernel). j.config.page) moved.only) in
    let number : c.page_count-count.result ≡ span mid.config.page range.off range.len = subst (λ (z : ℕ). c.page_count-count.result ≡ span z range.off range.len) page c.page_count-count.ensures.number in
    λ m clears. subst (CanBlank m range.object.0) (sym number) (aim_blank mid n range moved.good y.aim.region c.end_laws.ensures c.change_laws.ensures c.copy_laws.ensures (omega (arith, number, c.in-Ok.ensures.free)) c.make_frames.ensures.meters m clears)

pub copy_pending-requires : goal.copy_pending-requires
copy_pending-requires g c =
    let k : Kernel = c.args.kernel.now in
    let mid : Kernel = c.make_frames.new.kernel in
    let n = c.args.id.0 in
    let range = c.args.range.now in
    let moved = c.make_frames.ensures.moved in
    let y : AfterRoom mid n range = after_room k mid n range (g.S.Store.view c.args.store.now) (g.S.Store.view c.make_frames.new.store) c.requires.accepted c.requires.case c.requires.owner c.requires.place moved in
    let page : c.get-page.result ≡ mid.config.page = c.get-page.ensures.number ∙ c.page.ensures ∙ c.requires.good.spaced.page ∙ sym (ap (λ (j : Kernel). j.config.page) moved.only) in
    let number : c.page_count-count.result ≡ span mid.config.page range.off range.len = subst (λ (z : ℕ). c.page_count-count.result ≡ span z range.off range.len) page c.page_count-count.ensures.number in
    let below = below_more (2 ^ 63 + 2 ^ 20 + 2 ^ 20) (2 ^ 63 + 2 ^ 22) c.blank_object.new.memory.frames.meters (omega arith) (c.blank_object.ensures.rises.meters (2 ^ 63 + 2 ^ 20) c.make_frames.ensures.meters) in
    blank_can mid n range y.aim c.end_laws.ensures c.change_laws.ensures c.copy_laws.ensures c.buffers_show.ensures c.buffers_are_released.ensures.ends c.buffers_are_released.ensures.shows moved.good y.refused y.owner c.blank_object.new.memory c.page_count-count.result c.blank_object.ensures number below

pub end_waiting-transfer-requires-clause-good : goal.end_waiting-transfer-requires-clause-good
end_waiting-transfer-requires-clause-good g c =
    let k : Kernel = c.args.kernel.now in
    let mid : Kernel = c.make_frames.new.kernel in
    let n = c.args.id.0 in
    let range = c.args.range.now in
    let moved = c.make_frames.ensures.moved in
    let y : AfterRoom mid n range = after_room k mid n range (g.S.Store.view c.args.store.now) (g.S.Store.view c.make_frames.new.store) c.requires.accepted c.requires.case c.requires.owner c.requires.place moved in
    blank_middle mid n range y.aim c.end_laws.ensures c.change_laws.ensures c.copy_laws.ensures c.buffers_show.ensures c.buffers_are_released.ensures.ends c.buffers_are_released.ensures.shows moved.good y.refused y.owner c.blank_object.new.memory c.page_count-count.result c.blank_object.ensures c.copy_pending.new.kernel c.copy_pending.ensures

pub end_waiting-transfer-requires-clause-accepted : goal.end_waiting-transfer-requires-clause-accepted
end_waiting-transfer-requires-clause-accepted g c =
    let k : Kernel = c.args.kernel.now in
    let mid : Kernel = c.make_frames.new.kernel in
    let n = c.args.id.0 in
    let range = c.args.range.now in
    let moved = c.make_frames.ensures.moved in
    let y : AfterRoom mid n range = after_room k mid n range (g.S.Store.view c.args.store.now) (g.S.Store.view c.make_frames.new.store) c.requires.accepted c.requires.case c.requires.owner c.requires.place moved in
    ap (λ (j : Kernel). refuse (outline j) (Finish n)) c.copy_pending.ensures.only ∙ y.refused

pub end_waiting-transfer-requires-clause-case : goal.end_waiting-transfer-requires-clause-case
end_waiting-transfer-requires-clause-case g c =
    let k : Kernel = c.args.kernel.now in
    let mid : Kernel = c.make_frames.new.kernel in
    let n = c.args.id.0 in
    let range = c.args.range.now in
    let moved = c.make_frames.ensures.moved in
    let y : AfterRoom mid n range = after_room k mid n range (g.S.Store.view c.args.store.now) (g.S.Store.view c.make_frames.new.store) c.requires.accepted c.requires.case c.requires.owner c.requires.place moved in
    subst (λ (j : Kernel). IfSome (find (has_number n) j.transfers) (IsWaiting j.devices)) (sym c.copy_pending.ensures.only) (subst (λ o. IfSome o (IsWaiting mid.devices)) (sym y.aim.region.found) (pool_waits mid n range y.aim))

pub unreachable-requires : goal.unreachable-requires
unreachable-requires g c =
    let k : Kernel = c.args.kernel.now in
    let mid : Kernel = c.make_frames.new.kernel in
    let n = c.args.id.0 in
    let range = c.args.range.now in
    let moved = c.make_frames.ensures.moved in
    let y : AfterRoom mid n range = after_room k mid n range (g.S.Store.view c.args.store.now) (g.S.Store.view c.make_frames.new.store) c.requires.accepted c.requires.case c.requires.owner c.requires.place moved in
    let new : Kernel = c.end_waiting-transfer.new.kernel in
    let u : Transfer = c.end_waiting-transfer.result in
    let spaces : new.spaces ≡ mid.spaces = pool_spaces mid c.blank_object.new.memory c.copy_pending.new.kernel new n range u c.copy_pending.ensures c.end_waiting-transfer.ensures in
    let there = pool_named mid c.blank_object.new.memory c.copy_pending.new.kernel new n range u y.aim c.copy_pending.ensures c.end_waiting-transfer.ensures in
    let none = c.named_region.ensures.none c.in_default.is in
    let clash : true ≡ false = sym there ∙ sym (ap (λ (s : AddressSpaces). is_there (owned_regions s.processes) u) spaces) ∙ none in
    absurd (cc)

pub make_live-requires-clause-there : goal.make_live-requires-clause-there
make_live-requires-clause-there g c =
    let k : Kernel = c.args.kernel.now in
    let mid : Kernel = c.make_frames.new.kernel in
    let n = c.args.id.0 in
    let range = c.args.range.now in
    let moved = c.make_frames.ensures.moved in
    let y : AfterRoom mid n range = after_room k mid n range (g.S.Store.view c.args.store.now) (g.S.Store.view c.make_frames.new.store) c.requires.accepted c.requires.case c.requires.owner c.requires.place moved in
    let new : Kernel = c.end_waiting-transfer.new.kernel in
    let u : Transfer = c.end_waiting-transfer.result in
    let spaces : new.spaces ≡ mid.spaces = pool_spaces mid c.blank_object.new.memory c.copy_pending.new.kernel new n range u c.copy_pending.ensures c.end_waiting-transfer.ensures in
    let o = c.in-Some.owned in
    let had = is_had mid u o (subst (λ (s : AddressSpaces). IsNamed s u o) spaces c.in-Some.ensures.found) in
    ap is_some (ap (λ (s : AddressSpaces). find (has_id o.region.id.0) (regions_of (entry s.processes o.pid))) spaces ∙ ap (λ e. find (has_id o.region.id.0) (regions_of e)) had.there ∙ had.found)

pub overflow_mul-result : goal.overflow_mul-result
overflow_mul-result g c =
    let k : Kernel = c.args.kernel.now in
    let mid : Kernel = c.make_frames.new.kernel in
    let n = c.args.id.0 in
    let range = c.args.range.now in
    let moved = c.make_frames.ensures.moved in
    let y : AfterRoom mid n range = after_room k mid n range (g.S.Store.view c.args.store.now) (g.S.Store.view c.make_frames.new.store) c.requires.accepted c.requires.case c.requires.owner c.requires.place moved in
    let new : Kernel = c.end_waiting-transfer.new.kernel in
    let u : Transfer = c.end_waiting-transfer.result in
    let spaces : new.spaces ≡ mid.spaces = pool_spaces mid c.blank_object.new.memory c.copy_pending.new.kernel new n range u c.copy_pending.ensures c.end_waiting-transfer.ensures in
    let o = c.in-Some.owned in
    let had = is_had mid u o (subst (λ (s : AddressSpaces). IsNamed s u o) spaces c.in-Some.ensures.found) in
    let page : c.get-page.result ≡ mid.config.page = c.get-page.ensures.number ∙ c.page.ensures ∙ c.requires.good.spaced.page ∙ sym (ap (λ (j : Kernel). j.config.page) moved.only) in
    let low = low_address mid o.pid c.get-page.result had.regions o.region moved.good had.there (find_has (has_id o.region.id.0) had.regions o.region had.found).0 page in
    omega (arith, low)

pub returns : goal.returns
returns g c =
    let k : Kernel = c.args.kernel.now in
    let mid : Kernel = c.make_frames.new.kernel in
    let n = c.args.id.0 in
    let range = c.args.range.now in
    let moved = c.make_frames.ensures.moved in
    let y : AfterRoom mid n range = after_room k mid n range (g.S.Store.view c.args.store.now) (g.S.Store.view c.make_frames.new.store) c.requires.accepted c.requires.case c.requires.owner c.requires.place moved in
    let new : Kernel = c.end_waiting-transfer.new.kernel in
    let u : Transfer = c.end_waiting-transfer.result in
    let spaces : new.spaces ≡ mid.spaces = pool_spaces mid c.blank_object.new.memory c.copy_pending.new.kernel new n range u c.copy_pending.ensures c.end_waiting-transfer.ensures in
    let o = c.in-Some.owned in
    let had = is_had mid u o (subst (λ (s : AddressSpaces). IsNamed s u o) spaces c.in-Some.ensures.found) in
    let page : c.get-page.result ≡ mid.config.page = c.get-page.ensures.number ∙ c.page.ensures ∙ c.requires.good.spaced.page ∙ sym (ap (λ (j : Kernel). j.config.page) moved.only) in
    let regions : regions_of (entry new.spaces.processes o.pid) ≡ had.regions = ap (λ (s : AddressSpaces). regions_of (entry s.processes o.pid)) spaces ∙ ap regions_of had.there in
    let same : c.make_live.new.kernel ≡ lively new o.pid o.region.id.0 had.regions = c.make_live.ensures ∙ ap (lively new o.pid o.region.id.0) regions in
    let v = g.S.Store.view c.args.store.now in
    let w = g.S.Store.view c.make_frames.new.store in
    let ended = pool_ends mid n range y.aim c.end_laws.ensures c.change_laws.ensures c.copy_laws.ensures c.buffers_show.ensures c.buffers_are_released.ensures.ends c.buffers_are_released.ensures.shows moved.good y.refused y.owner c.blank_object.new.memory c.page_count-count.result c.blank_object.ensures c.copy_pending.new.kernel c.copy_pending.ensures new u o had c.end_waiting-transfer.ensures in
    let done = moved_serves c.copy_laws.ensures c.paged_events_are_told.ensures k mid (lively new o.pid o.region.id.0 had.regions) v w n (reply.Input (Some (o.region.start * mid.config.page)) u.stored u.note) c.requires.accepted moved (rises_most (2 ^ 20) (2 ^ 22) k.memory.frames mid.memory.frames (omega arith) c.make_frames.ensures.rises) c.in-Ok.ensures.cause.kept (g.met.S.Store.paged c.make_frames.new.store) ended in
    subst (λ (x : Kernel). Serves k (Finish n) x v w (reply.Input (Some (o.region.start * c.get-page.result)) u.stored u.note)) (sym same) (subst (λ (z : ℕ). Serves k (Finish n) (lively new o.pid o.region.id.0 had.regions) v w (reply.Input (Some (o.region.start * z)) u.stored u.note)) (sym page) done)
