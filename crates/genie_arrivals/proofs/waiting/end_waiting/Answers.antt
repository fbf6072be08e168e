use Rattle.std.proofs.Common.{◌≡◌, true, false, sym, ap, ◌∙◌}
use Rattle.std.specs.Prelude.{is_some}
use Rattle.genie_arrivals.specs.Waiting.{IsWaiting}
use Rattle.genie_arrivals.proofs.Buffered.{device_number, has_some, waits_in}
use Rattle.genie_arrivals.proofs.Found.{found_case, found_over, found_some}
use Rattle.genie_arrivals.proofs.Lent.{can_give_back}
use Rattle.genie_arrivals.proofs.waiting.end_waiting.Goals as goal

pub remove-transfer-requires : goal.remove-transfer-requires
remove-transfer-requires c = found_some c.args.kernel.now c.args.id.0 c.requires.accepted

pub give_back-requires : goal.give_back-requires
give_back-requires c = can_give_back c.args.kernel.now c.args.id.0 c.remove-transfer.result c.requires.good c.remove-transfer.ensures.removed (found_case (IsWaiting c.args.kernel.now.devices) c.args.kernel.now c.args.id.0 c.remove-transfer.result c.requires.case c.remove-transfer.ensures.removed).inward

pub release-requires-clause-number : goal.release-requires-clause-number
release-requires-clause-number c = device_number c.args.kernel.now c.args.id.0 c.remove-transfer.result c.requires.good c.remove-transfer.ensures.removed

pub release-requires-clause-waiting : goal.release-requires-clause-waiting
release-requires-clause-waiting c = waits_in c.args.kernel.now c.args.id.0 c.remove-transfer.result c.requires.good c.remove-transfer.ensures.removed c.in-Some.buffer c.in-Some.is

pub unreachable-requires : goal.unreachable-requires
unreachable-requires c =
    let found = c.remove-transfer.ensures.removed in
    let some = has_some c.args.kernel.now c.args.id.0 c.remove-transfer.result c.requires.good found (found_over c.args.kernel.now c.args.id.0 c.remove-transfer.result c.requires.accepted found) (found_case (IsWaiting c.args.kernel.now.devices) c.args.kernel.now c.args.id.0 c.remove-transfer.result c.requires.case found) in
    let none : false ≡ true = sym (ap is_some c.in-None.is) ∙ some in
    absurd (cc)
