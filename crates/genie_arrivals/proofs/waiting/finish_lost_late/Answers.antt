use Rattle.std.proofs.Common.{refl}
use Rattle.std.specs.Prelude.{find}
use Rattle.genie_base.specs.declared.reply.Reply.TheVariants as reply
use Rattle.genie_kernel.specs.declared.kernel.Kernel.{Kernel}
use Rattle.genie_kernel.specs.declared.transfer.Transfer.{Transfer}
use Rattle.genie_kernel.specs.Calls.{has_number}
use Rattle.genie_arrivals.specs.Waiting.{IsLostWaiting}
use Rattle.genie_arrivals.proofs.Buffered.{if_some, ends_waiting, lost_finish}
use Rattle.genie_arrivals.proofs.Found.{found_case, found_over}
use Rattle.genie_arrivals.proofs.waiting.finish_lost_late.Goals as goal

pub returns-clause-ends : goal.returns-clause-ends
returns-clause-ends c =
    let k : Kernel = c.args.kernel.now in
    let x = c.end_waiting-transfer.ensures in
    let t : Transfer = c.end_waiting-transfer.result in
    let is : IsLostWaiting k t = found_case (IsLostWaiting k) k c.args.id.0 t c.requires.case x.found in
    ends_waiting c.end_laws.ensures c.buffers_show.ensures c.buffers_are_released.ensures.ends c.buffers_are_released.ensures.shows k c.args.id.0 t c.end_waiting-transfer.new.kernel c.requires.good c.requires.accepted (found_over k c.args.id.0 t c.requires.accepted x.found) x reply.Lost refl (λ b. lost_finish k b c.args.id.0 t x.found is)

pub end_waiting-transfer-requires-clause-case : goal.end_waiting-transfer-requires-clause-case
end_waiting-transfer-requires-clause-case c = if_some (λ (t : Transfer) (is : IsLostWaiting c.args.kernel.now t). is.waiting) (find (has_number c.args.id.0) c.args.kernel.now.transfers) c.requires.case
