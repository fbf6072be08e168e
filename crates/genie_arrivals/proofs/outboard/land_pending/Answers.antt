use Rattle.std.proofs.Common.{◌≡◌, sym, ap, ◌∙◌}
use Rattle.std.specs.Prelude.{Some, find, is_some}
use Rattle.std.specs.Option.{option_copied}
use Rattle.genie_kernel.specs.Calls.{has_number}
use Rattle.genie_kernel.specs.declared.transfer.Transfer.{Transfer}
use Rattle.genie_arrivals.specs.Outboard.{IsWeakOutboard}
use Rattle.genie_arrivals.proofs.Found.{found_case, found_over, found_some}
use Rattle.genie_arrivals.proofs.WeakPlan.{weak_can_fetch, weak_may_land}
use Rattle.genie_arrivals.proofs.outboard.land_pending.Goals as goal

pub land_waiting-requires-clause-waiting : goal.land_waiting-requires-clause-waiting
land_waiting-requires-clause-waiting c =
    let k = c.args.kernel.now in
    let t : Transfer = c.in-Some.transfer.now in
    let found : find (has_number c.args.id.0) k.transfers ≡ Some t = sym c.find.ensures ∙ ap option_copied c.in-Some.is in
    let is : IsWeakOutboard k.devices t = found_case (IsWeakOutboard k.devices) k c.args.id.0 t c.requires.case found in
    weak_can_fetch k c.args.id.0 t c.requires.good found is.inward is.outboard is.weak (found_over k c.args.id.0 t c.requires.accepted found)

pub land_waiting-requires-clause-ready : goal.land_waiting-requires-clause-ready
land_waiting-requires-clause-ready c =
    let k = c.args.kernel.now in
    let t : Transfer = c.in-Some.transfer.now in
    let found : find (has_number c.args.id.0) k.transfers ≡ Some t = sym c.find.ensures ∙ ap option_copied c.in-Some.is in
    let is : IsWeakOutboard k.devices t = found_case (IsWeakOutboard k.devices) k c.args.id.0 t c.requires.case found in
    weak_may_land k c.args.id.0 t c.requires.good found is.inward is.outboard is.weak

pub unreachable-requires : goal.unreachable-requires
unreachable-requires c =
    let none = sym c.find.ensures ∙ ap option_copied c.in-None.is in
    let some = sym (found_some c.args.kernel.now c.args.id.0 c.requires.accepted) ∙ ap is_some none in
    absurd (cc)
