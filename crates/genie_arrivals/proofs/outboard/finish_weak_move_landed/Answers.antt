use Rattle.std.proofs.Common.{arith, ◌≡◌, ◌*◌, ℕ, List, sym, subst, ap, ◌∙◌}
use Rattle.std.specs.Prelude.{Option, Some, find, is_some}
use Rattle.genie_base.specs.Transfers.{is_strong}
use Rattle.genie_base.specs.declared.reply.Reply.TheVariants as reply
use Rattle.genie_base.specs.declared.semantics.Class.TheVariants.{WeakMove}
use Rattle.genie_region.specs.declared.region.Region.{Region}
use Rattle.genie_space.specs.Spaces.{AddressSpaces}
use Rattle.genie_model.specs.Lemmas.Lists.{find_has}
use Rattle.genie_model.specs.Tables.{entry}
use Rattle.genie_kernel.specs.declared.kernel.Kernel.{Kernel}
use Rattle.genie_kernel.specs.declared.transfer.Transfer.{Transfer}
use Rattle.genie_kernel.specs.Good.{IsGood}
use Rattle.genie_kernel.specs.Regions.{has_id, owned_regions, regions_of}
use Rattle.genie_arrivals.specs.Live.{lively}
use Rattle.genie_arrivals.specs.Outboard.{EndsLanded, LandsThere}
use Rattle.genie_arrivals.proofs.EndLanded.{between_good, is_over, last, last_settled, moved_landed}
use Rattle.genie_arrivals.proofs.Found.{found_case, found_over}
use Rattle.genie_arrivals.proofs.Lively.{found_everywhere}
use Rattle.genie_arrivals.proofs.Moving.{low_address}
use Rattle.genie_arrivals.proofs.outboard.finish_weak_move_landed.Goals as goal

pub end_waiting-transfer-requires-clause-good : goal.end_waiting-transfer-requires-clause-good
end_waiting-transfer-requires-clause-good c =
    let k : Kernel = c.args.kernel.now in
    let n = c.args.id.0 in
    let x = c.land_pending.ensures in
    let t : Transfer = x.transfer in
    let is : LandsThere WeakMove k t = found_case (LandsThere WeakMove k) k n t c.requires.case x.found in
    let weak = ap is_strong is.input.class_is in
    subst IsGood (sym x.only) (between_good c.end_laws.ensures c.buffers_show.ensures c.buffers_are_released.ensures.ends c.buffers_are_released.ensures.shows k n is.pid t c.requires.good c.requires.accepted (found_over k n t c.requires.accepted x.found) x.found is.input.inward is.input.outboard weak c.land_pending.new.kernel.memory.frames x.lands)

pub make_live-requires-clause-there : goal.make_live-requires-clause-there
make_live-requires-clause-there c =
    let k : Kernel = c.args.kernel.now in
    let x = c.land_pending.ensures in
    let o = c.in-Some.owned in
    let over = is_over k c.land_pending.new.kernel c.args.id.0 c.end_waiting-transfer.new.kernel x.transfer c.end_waiting-transfer.result o x.only x.found c.end_waiting-transfer.ensures c.in-Some.ensures.found in
    ap (λ (s : AddressSpaces). is_some (find (has_id o.region.id.0) (regions_of (entry s.processes o.pid)))) over.spaces ∙ ap is_some (ap (λ (e : Option (List Region)). find (has_id o.region.id.0) (regions_of e)) over.had.there ∙ over.had.found)

pub overflow_mul-result : goal.overflow_mul-result
overflow_mul-result c =
    let k : Kernel = c.args.kernel.now in
    let x = c.land_pending.ensures in
    let o = c.in-Some.owned in
    let over = is_over k c.land_pending.new.kernel c.args.id.0 c.end_waiting-transfer.new.kernel x.transfer c.end_waiting-transfer.result o x.only x.found c.end_waiting-transfer.ensures c.in-Some.ensures.found in
    let page : c.get-page.result ≡ k.config.page = c.get-page.ensures.number ∙ c.page.ensures ∙ ap (λ (s : AddressSpaces). s.page) over.spaces ∙ c.requires.good.spaced.page in
    let low = low_address k o.pid c.get-page.result over.had.regions o.region c.requires.good over.had.there (find_has (has_id o.region.id.0) over.had.regions o.region over.had.found).0 page in
    omega (arith, low)

pub returns : goal.returns
returns c =
    let k : Kernel = c.args.kernel.now in
    let n = c.args.id.0 in
    let x = c.land_pending.ensures in
    let t : Transfer = x.transfer in
    let u : Transfer = c.end_waiting-transfer.result in
    let o = c.in-Some.owned in
    let new : Kernel = c.end_waiting-transfer.new.kernel in
    let is : LandsThere WeakMove k t = found_case (LandsThere WeakMove k) k n t c.requires.case x.found in
    let weak = ap is_strong is.input.class_is in
    let ready = found_over k n t c.requires.accepted x.found in
    let F = c.land_pending.new.kernel.memory.frames in
    let over = is_over k c.land_pending.new.kernel n new t u o x.only x.found c.end_waiting-transfer.ensures c.in-Some.ensures.found in
    let page : c.get-page.result ≡ k.config.page = c.get-page.ensures.number ∙ c.page.ensures ∙ ap (λ (s : AddressSpaces). s.page) over.spaces ∙ c.requires.good.spaced.page in
    let end : Kernel = last c.end_laws.ensures c.buffers_show.ensures c.buffers_are_released.ensures.ends c.buffers_are_released.ensures.shows k n is.pid t c.requires.good c.requires.accepted ready x.found is.input.inward is.input.outboard weak F x.lands new over.ends in
    let whole = last_settled c.end_laws.ensures c.buffers_show.ensures c.buffers_are_released.ensures.ends c.buffers_are_released.ensures.shows k n is.pid t c.requires.good c.requires.accepted ready x.found is.input.inward is.input.outboard weak F x.lands new over.ends in
    let there : find (has_id o.region.id.0) (owned_regions k.spaces.processes) ≡ Some o.region = found_everywhere c.change_laws.ensures end whole o.pid over.had.regions o.region over.had.there over.had.found in
    let regions : regions_of (entry new.spaces.processes o.pid) ≡ over.had.regions = ap (λ (s : AddressSpaces). regions_of (entry s.processes o.pid)) over.spaces ∙ ap regions_of over.had.there in
    let live : c.make_live.new.kernel ≡ lively end o.pid o.region.id.0 over.had.regions = c.make_live.ensures ∙ (λ i. lively (over.ends.only i) o.pid o.region.id.0 (regions i)) in
    let ended = moved_landed c.end_laws.ensures c.buffers_show.ensures c.buffers_are_released.ensures.ends c.buffers_are_released.ensures.shows k n is.pid t c.requires.good c.requires.accepted ready x.found is.input.inward is.input.outboard weak F x.lands new over.ends is.owner o.region over.had.names there c.change_laws.ensures is.input.class_is o.pid over.had.regions over.had.there over.had.found in
    subst (λ (j : Kernel). EndsLanded k n j (reply.Input (Some (o.region.start * c.get-page.result)) u.stored u.note)) (sym live)
    (subst (λ (z : ℕ). EndsLanded k n (lively end o.pid o.region.id.0 over.had.regions) (reply.Input (Some (o.region.start * z)) u.stored u.note)) (sym page)
    (subst (λ (v : Transfer). EndsLanded k n (lively end o.pid o.region.id.0 over.had.regions) (reply.Input (Some (o.region.start * k.config.page)) v.stored v.note)) (sym over.same) ended))
