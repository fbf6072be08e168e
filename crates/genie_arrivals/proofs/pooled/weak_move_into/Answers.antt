use Rattle.std.proofs.Common.{◌≡◌, ◌*◌, ℕ, true, false, refl, sym, ap, subst, arith, ◌∙◌}
use Rattle.std.specs.Prelude.{Some, IfSome, find, is_some}
use Rattle.genie_base.specs.declared.event.Event.TheVariants.{Finish}
use Rattle.genie_base.specs.declared.reply.Reply.TheVariants as reply
use Rattle.genie_base.specs.declared.semantics.Class.TheVariants.{WeakMove}
use Rattle.genie_model.specs.Lemmas.Lists.{find_has}
use Rattle.genie_model.specs.Refusing.{refuse}
use Rattle.genie_model.specs.Tables.{entry}
use Rattle.genie_space.specs.Spaces.{AddressSpaces}
use Rattle.genie_kernel.specs.declared.kernel.Kernel.{Kernel}
use Rattle.genie_kernel.specs.declared.transfer.Transfer.{Transfer}
use Rattle.genie_kernel.specs.Calls.{has_number}
use Rattle.genie_kernel.specs.Good.{IsGood}
use Rattle.genie_kernel.specs.Regions.{has_id, owned_regions, regions_of}
use Rattle.genie_kernel.specs.View.{outline}
use Rattle.genie_arrivals.specs.Live.{lively}
use Rattle.genie_arrivals.specs.Owners.{IsNamed}
use Rattle.genie_arrivals.specs.Paging.{EndsPaged}
use Rattle.genie_arrivals.specs.Replies.{is_there}
use Rattle.genie_arrivals.specs.Waiting.{IsWaiting}
use Rattle.genie_arrivals.proofs.Found.{is_over}
use Rattle.genie_arrivals.proofs.Moving.{is_had, low_address}
use Rattle.genie_arrivals.proofs.PooledEnd.{mid_good}
use Rattle.genie_arrivals.proofs.PooledLive.{live_returns}
use Rattle.genie_arrivals.proofs.PooledShare.{can_pending, copied_by, goes, goes_there, spaces_same, waits_pending}
use Rattle.genie_arrivals.proofs.pooled.weak_move_into.Goals as goal
use Rattle.std.specs.Prelude.{Some}
use Rattle.genie_arrivals.proofs.LateCosts.{weak_keeps}

pub copy_pending-requires : goal.copy_pending-requires
copy_pending-requires c = can_pending c.end_laws.ensures c.change_laws.ensures c.copy_laws.ensures.fit c.args.kernel.now c.args.id.0 c.args.range.now WeakMove refl c.requires.good c.requires.meters c.requires.accepted c.requires.case c.requires.place

pub end_waiting-transfer-requires-clause-good : goal.end_waiting-transfer-requires-clause-good
end_waiting-transfer-requires-clause-good c =
    let k : Kernel = c.args.kernel.now in
    let mid : Kernel = c.copy_pending.new.kernel in
    let o = is_over k c.args.id.0 c.requires.accepted in
    let y = goes c.end_laws.ensures c.change_laws.ensures k c.args.id.0 o.t c.args.range.now WeakMove c.requires.good c.requires.accepted o.found c.requires.case c.requires.place in
    subst IsGood (sym c.copy_pending.ensures.only) (mid_good k c.args.id.0 o.t y.to.owned.region c.args.range.now mid.memory (copied_by c.end_laws.ensures c.change_laws.ensures c.copy_laws.ensures.fit k mid c.args.id.0 o.t c.args.range.now WeakMove refl c.requires.good c.requires.accepted y c.copy_pending.ensures))

pub end_waiting-transfer-requires-clause-accepted : goal.end_waiting-transfer-requires-clause-accepted
end_waiting-transfer-requires-clause-accepted c = ap (λ (z : Kernel). refuse (outline z) (Finish c.args.id.0)) c.copy_pending.ensures.only ∙ c.requires.accepted

pub end_waiting-transfer-requires-clause-case : goal.end_waiting-transfer-requires-clause-case
end_waiting-transfer-requires-clause-case c = subst (λ (z : Kernel). IfSome (find (has_number c.args.id.0) z.transfers) (IsWaiting z.devices)) (sym c.copy_pending.ensures.only) (waits_pending c.args.kernel.now c.args.id.0 WeakMove c.requires.case)

pub unreachable-requires : goal.unreachable-requires
unreachable-requires c =
    let k : Kernel = c.args.kernel.now in
    let t : Transfer = c.end_waiting-transfer.result in
    let spaces : c.end_waiting-transfer.new.kernel.spaces ≡ k.spaces = spaces_same k c.copy_pending.new.kernel c.end_waiting-transfer.new.kernel c.args.id.0 t c.args.range.now c.copy_pending.ensures c.end_waiting-transfer.ensures in
    let none = c.named_region.ensures.none c.in_default.is in
    let there = goes_there k c.copy_pending.new.kernel c.end_waiting-transfer.new.kernel c.args.id.0 t c.args.range.now c.copy_pending.ensures c.end_waiting-transfer.ensures c.requires.place in
    let clash : true ≡ false = sym there ∙ sym (ap (λ (s : AddressSpaces). is_there (owned_regions s.processes) t) spaces) ∙ none in
    absurd (cc)

pub make_live-requires-clause-there : goal.make_live-requires-clause-there
make_live-requires-clause-there c =
    let k : Kernel = c.args.kernel.now in
    let t : Transfer = c.end_waiting-transfer.result in
    let o = c.in-Some.owned in
    let spaces : c.end_waiting-transfer.new.kernel.spaces ≡ k.spaces = spaces_same k c.copy_pending.new.kernel c.end_waiting-transfer.new.kernel c.args.id.0 t c.args.range.now c.copy_pending.ensures c.end_waiting-transfer.ensures in
    let had = is_had k t o (subst (λ (s : AddressSpaces). IsNamed s t o) spaces c.in-Some.ensures.found) in
    ap is_some (ap (λ (s : AddressSpaces). find (has_id o.region.id.0) (regions_of (entry s.processes o.pid))) spaces ∙ ap (λ e. find (has_id o.region.id.0) (regions_of e)) had.there ∙ had.found)

pub overflow_mul-result : goal.overflow_mul-result
overflow_mul-result c =
    let k : Kernel = c.args.kernel.now in
    let t : Transfer = c.end_waiting-transfer.result in
    let o = c.in-Some.owned in
    let spaces : c.end_waiting-transfer.new.kernel.spaces ≡ k.spaces = spaces_same k c.copy_pending.new.kernel c.end_waiting-transfer.new.kernel c.args.id.0 t c.args.range.now c.copy_pending.ensures c.end_waiting-transfer.ensures in
    let had = is_had k t o (subst (λ (s : AddressSpaces). IsNamed s t o) spaces c.in-Some.ensures.found) in
    let page : c.get-page.result ≡ k.config.page = c.get-page.ensures.number ∙ c.page.ensures ∙ ap (λ (s : AddressSpaces). s.page) spaces ∙ c.requires.good.spaced.page in
    let low = low_address k o.pid c.get-page.result had.regions o.region c.requires.good had.there (find_has (has_id o.region.id.0) had.regions o.region had.found).0 page in
    omega (arith, low)

pub returns-clause-ends : goal.returns-clause-ends
returns-clause-ends c =
    let k : Kernel = c.args.kernel.now in
    let t : Transfer = c.end_waiting-transfer.result in
    let new : Kernel = c.end_waiting-transfer.new.kernel in
    let o = c.in-Some.owned in
    let spaces : new.spaces ≡ k.spaces = spaces_same k c.copy_pending.new.kernel new c.args.id.0 t c.args.range.now c.copy_pending.ensures c.end_waiting-transfer.ensures in
    let had = is_had k t o (subst (λ (s : AddressSpaces). IsNamed s t o) spaces c.in-Some.ensures.found) in
    let page : c.get-page.result ≡ k.config.page = c.get-page.ensures.number ∙ c.page.ensures ∙ ap (λ (s : AddressSpaces). s.page) spaces ∙ c.requires.good.spaced.page in
    let regions : regions_of (entry new.spaces.processes o.pid) ≡ had.regions = ap (λ (s : AddressSpaces). regions_of (entry s.processes o.pid)) spaces ∙ ap regions_of had.there in
    let same : c.make_live.new.kernel ≡ lively new o.pid o.region.id.0 had.regions = c.make_live.ensures ∙ ap (lively new o.pid o.region.id.0) regions in
    let ended = live_returns c.end_laws.ensures c.change_laws.ensures c.copy_laws.ensures.fit c.buffers_show.ensures c.buffers_are_released.ensures.ends c.buffers_are_released.ensures.shows k c.copy_pending.new.kernel new c.args.id.0 t o c.args.range.now c.requires.good c.requires.accepted c.requires.case c.requires.owner c.requires.place c.copy_pending.ensures c.end_waiting-transfer.ensures had in
    subst (λ (x : Kernel). EndsPaged k c.args.id.0 x (reply.Input (Some (o.region.start * c.get-page.result)) t.stored t.note)) (sym same) (subst (λ (z : ℕ). EndsPaged k c.args.id.0 (lively new o.pid o.region.id.0 had.regions) (reply.Input (Some (o.region.start * z)) t.stored t.note)) (sym page) ended)

pub returns-clause-copying : goal.returns-clause-copying
returns-clause-copying c = weak_keeps c.args.kernel.now c.copy_pending.new.kernel c.end_waiting-transfer.new.kernel c.make_live.new.kernel c.args.id.0 c.end_waiting-transfer.result c.args.range.now WeakMove (Some (c.in-Some.owned.region.start * c.get-page.result)) c.end_waiting-transfer.result.stored c.end_waiting-transfer.result.note refl c.requires.good c.requires.case c.requires.owner c.requires.place c.copy_pending.ensures c.end_waiting-transfer.ensures (ap (λ (z : Kernel). z.memory.frames.meters) c.make_live.ensures)
