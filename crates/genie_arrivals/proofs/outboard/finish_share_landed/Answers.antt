use Rattle.std.proofs.Common.{ap, subst, sym}
use Rattle.std.specs.Prelude.{None}
use Rattle.genie_base.specs.Transfers.{is_strong}
use Rattle.genie_base.specs.declared.reply.Reply.TheVariants as reply
use Rattle.genie_base.specs.declared.semantics.Class.TheVariants.{Share}
use Rattle.genie_kernel.specs.declared.kernel.Kernel.{Kernel}
use Rattle.genie_kernel.specs.declared.transfer.Transfer.{Transfer}
use Rattle.genie_kernel.specs.Good.{IsGood}
use Rattle.genie_arrivals.specs.Outboard.{EndsLanded, LandsThere}
use Rattle.genie_arrivals.specs.Waiting.{EndsWaiting}
use Rattle.genie_arrivals.proofs.EndLanded.{between_good, names_region, same_call, share_landed}
use Rattle.genie_arrivals.proofs.Found.{found_case, found_over}
use Rattle.genie_arrivals.proofs.outboard.finish_share_landed.Goals as goal

pub end_waiting-transfer-requires-clause-good : goal.end_waiting-transfer-requires-clause-good
end_waiting-transfer-requires-clause-good c =
    let k : Kernel = c.args.kernel.now in
    let n = c.args.id.0 in
    let x = c.land_pending.ensures in
    let t : Transfer = x.transfer in
    let is : LandsThere Share k t = found_case (LandsThere Share k) k n t c.requires.case x.found in
    let weak = ap is_strong is.input.class_is in
    subst IsGood (sym x.only) (between_good c.end_laws.ensures c.buffers_show.ensures c.buffers_are_released.ensures.ends c.buffers_are_released.ensures.shows k n is.pid t c.requires.good c.requires.accepted (found_over k n t c.requires.accepted x.found) x.found is.input.inward is.input.outboard weak c.land_pending.new.kernel.memory.frames x.lands)

pub returns : goal.returns
returns c =
    let k : Kernel = c.args.kernel.now in
    let n = c.args.id.0 in
    let x = c.land_pending.ensures in
    let t : Transfer = x.transfer in
    let is : LandsThere Share k t = found_case (LandsThere Share k) k n t c.requires.case x.found in
    let weak = ap is_strong is.input.class_is in
    let u : Transfer = c.end_waiting-transfer.result in
    let region = names_region k t is.there in
    let ends : EndsWaiting n (record k { memory = record (k.memory) { frames = c.land_pending.new.kernel.memory.frames } }) c.end_waiting-transfer.new.kernel u = subst (λ (j : Kernel). EndsWaiting n j c.end_waiting-transfer.new.kernel u) x.only c.end_waiting-transfer.ensures in
    let same = same_call k n t u x.found ends.found in
    let here : EndsWaiting n (record k { memory = record (k.memory) { frames = c.land_pending.new.kernel.memory.frames } }) c.end_waiting-transfer.new.kernel t = subst (λ (v : Transfer). EndsWaiting n (record k { memory = record (k.memory) { frames = c.land_pending.new.kernel.memory.frames } }) c.end_waiting-transfer.new.kernel v) same ends in
    subst (λ (v : Transfer). EndsLanded k n c.end_waiting-transfer.new.kernel (reply.Input None v.stored v.note)) (sym same)
    (share_landed c.end_laws.ensures c.buffers_show.ensures c.buffers_are_released.ensures.ends c.buffers_are_released.ensures.shows k n is.pid t c.requires.good c.requires.accepted (found_over k n t c.requires.accepted x.found) x.found is.input.inward is.input.outboard weak c.land_pending.new.kernel.memory.frames x.lands c.end_waiting-transfer.new.kernel here is.owner region.region region.names region.there is.input.class_is)
