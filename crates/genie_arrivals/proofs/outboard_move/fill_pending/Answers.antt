use Rattle.std.proofs.Common.{◌≡◌, refl, sym, ap, ◌∙◌, length}
use Rattle.std.specs.Prelude.{Some, find, is_some}
use Rattle.std.specs.Option.{option_copied}
use Rattle.genie_base.specs.declared.semantics.Class.TheVariants.{Move}
use Rattle.genie_model.specs.Tables.{entry}
use Rattle.genie_kernel.specs.Calls.{has_number}
use Rattle.genie_kernel.specs.declared.transfer.Transfer.{Transfer}
use Rattle.genie_arrivals.specs.Outboard.{IsOutboardInput, waiting_bytes}
use Rattle.genie_arrivals.specs.Pooled.{GoesToRegion}
use Rattle.genie_arrivals.proofs.Buffered.{device_number}
use Rattle.genie_arrivals.proofs.Found.{found_case, found_over, found_some}
use Rattle.genie_arrivals.proofs.LateAim.{fetched_all, late_fetch}
use Rattle.genie_arrivals.proofs.MoveAim.{aim_region, aim_there, aim_unheld, move_aim}
use Rattle.genie_arrivals.proofs.outboard_move.fill_pending.Goals as goal

pub fill_waiting-requires-clause-number : goal.fill_waiting-requires-clause-number
fill_waiting-requires-clause-number c =
    let k = c.args.kernel.now in
    let t : Transfer = c.in-Some.transfer.now in
    let found : find (has_number c.args.id.0) k.transfers ≡ Some t = sym c.find.ensures ∙ ap option_copied c.in-Some.is in
    device_number k c.args.id.0 t c.requires.good found

pub fill_waiting-requires-clause-waiting : goal.fill_waiting-requires-clause-waiting
fill_waiting-requires-clause-waiting c =
    let k = c.args.kernel.now in
    let t : Transfer = c.in-Some.transfer.now in
    let found : find (has_number c.args.id.0) k.transfers ≡ Some t = sym c.find.ensures ∙ ap option_copied c.in-Some.is in
    late_fetch k c.args.id.0 t c.requires.good found (found_case (IsOutboardInput Move k.devices) k c.args.id.0 t c.requires.case found) (found_over k c.args.id.0 t c.requires.accepted found)

pub fill_waiting-requires-clause-there : goal.fill_waiting-requires-clause-there
fill_waiting-requires-clause-there c = aim_there c.args.kernel.now c.args.id.0 c.args.range.now c.requires.good (aim_region c.args.kernel.now c.args.id.0 c.args.range.now (move_aim c.args.kernel.now c.args.id.0 c.args.range.now c.requires.accepted c.requires.case c.requires.place))

pub fill_waiting-requires-clause-unheld : goal.fill_waiting-requires-clause-unheld
fill_waiting-requires-clause-unheld c = aim_unheld c.args.kernel.now c.args.id.0 c.args.range.now c.requires.good (aim_region c.args.kernel.now c.args.id.0 c.args.range.now (move_aim c.args.kernel.now c.args.id.0 c.args.range.now c.requires.accepted c.requires.case c.requires.place))

pub fill_waiting-requires-clause-size : goal.fill_waiting-requires-clause-size
fill_waiting-requires-clause-size c =
    let k = c.args.kernel.now in
    let t : Transfer = c.in-Some.transfer.now in
    let found : find (has_number c.args.id.0) k.transfers ≡ Some t = sym c.find.ensures ∙ ap option_copied c.in-Some.is in
    let to : GoesToRegion k t c.args.range.now = found_case (λ u. GoesToRegion k u c.args.range.now) k c.args.id.0 t c.requires.place found in
    to.size ∙ fetched_all t.stored (entry k.devices t.dev) t.buffer (late_fetch k c.args.id.0 t c.requires.good found (found_case (IsOutboardInput Move k.devices) k c.args.id.0 t c.requires.case found) (found_over k c.args.id.0 t c.requires.accepted found))

pub unreachable-requires : goal.unreachable-requires
unreachable-requires c =
    let none = sym c.find.ensures ∙ ap option_copied c.in-None.is in
    let some = sym (found_some c.args.kernel.now c.args.id.0 c.requires.accepted) ∙ ap is_some none in
    absurd (cc)

pub returns-clause-fills : goal.returns-clause-fills
returns-clause-fills c =
    let k = c.args.kernel.now in
    let t : Transfer = c.in-Some.transfer.now in
    let found : find (has_number c.args.id.0) k.transfers ≡ Some t = sym c.find.ensures ∙ ap option_copied c.in-Some.is in
    let to : GoesToRegion k t c.args.range.now = found_case (λ u. GoesToRegion k u c.args.range.now) k c.args.id.0 t c.requires.place found in
    let size : c.args.range.now.len ≡ length (waiting_bytes k.devices t) = to.size ∙ fetched_all t.stored (entry k.devices t.dev) t.buffer (late_fetch k c.args.id.0 t c.requires.good found (found_case (IsOutboardInput Move k.devices) k c.args.id.0 t c.requires.case found) (found_over k c.args.id.0 t c.requires.accepted found)) in
    record { transfer = t; found = found; size = size; fills = c.fill_waiting.ensures.fills; only = refl }
