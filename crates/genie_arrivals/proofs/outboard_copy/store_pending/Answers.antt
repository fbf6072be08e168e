use Rattle.std.proofs.Common.{subst, ℕ, Option, IfSome, ◌≡◌, refl, sym, ap, ◌∙◌, length}
use Rattle.std.specs.Prelude.{Some, find, is_some}
use Rattle.std.specs.Option.{option_copied}
use Rattle.genie_model.specs.Tables.{entry}
use Rattle.genie_kernel.specs.Calls.{has_number}
use Rattle.genie_kernel.specs.declared.transfer.Transfer.{Transfer}
use Rattle.genie_arrivals.specs.Outboard.{IsOutboardInput, waiting_bytes}
use Rattle.genie_arrivals.specs.Targets.{IsTarget}
use Rattle.genie_base.specs.declared.semantics.Class.TheVariants.{Copy}
use Rattle.genie_arrivals.proofs.Buffered.{device_number}
use Rattle.genie_arrivals.proofs.Found.{found_case, found_over, found_some}
use Rattle.genie_arrivals.proofs.LateAim.{fetched_all, late_fetch}
use Rattle.genie_arrivals.proofs.outboard_copy.store_pending.Goals as goal
use Rattle.genie_copying.specs.Spending.{CopiesAtMost}
use Rattle.genie_arrivals.specs.EarlyCosts.{few_of, store_work}

pub few_for-few-requires : goal.few_for-few-requires
few_for-few-requires c = record { pending = found_some c.args.kernel.now c.args.id.0 c.requires.accepted }

pub store_waiting-requires-clause-number : goal.store_waiting-requires-clause-number
store_waiting-requires-clause-number c =
    let k = c.args.kernel.now in
    let t : Transfer = c.in-Some.transfer.now in
    let found : find (has_number c.args.id.0) k.transfers ≡ Some t = sym c.find.ensures ∙ ap option_copied c.in-Some.is in
    device_number k c.args.id.0 t c.requires.good found

pub store_waiting-requires-clause-waiting : goal.store_waiting-requires-clause-waiting
store_waiting-requires-clause-waiting c =
    let k = c.args.kernel.now in
    let t : Transfer = c.in-Some.transfer.now in
    let found : find (has_number c.args.id.0) k.transfers ≡ Some t = sym c.find.ensures ∙ ap option_copied c.in-Some.is in
    late_fetch k c.args.id.0 t c.requires.good found (found_case (IsOutboardInput Copy k.devices) k c.args.id.0 t c.requires.case found) (found_over k c.args.id.0 t c.requires.accepted found)

pub store_waiting-requires-clause-size : goal.store_waiting-requires-clause-size
store_waiting-requires-clause-size c =
    let k = c.args.kernel.now in
    let t : Transfer = c.in-Some.transfer.now in
    let found : find (has_number c.args.id.0) k.transfers ≡ Some t = sym c.find.ensures ∙ ap option_copied c.in-Some.is in
    let target : IsTarget k t c.args.range.now = found_case (λ u. IsTarget k u c.args.range.now) k c.args.id.0 t c.requires.target found in
    target.size ∙ fetched_all t.stored (entry k.devices t.dev) t.buffer (late_fetch k c.args.id.0 t c.requires.good found (found_case (IsOutboardInput Copy k.devices) k c.args.id.0 t c.requires.case found) (found_over k c.args.id.0 t c.requires.accepted found))

pub unreachable-requires : goal.unreachable-requires
unreachable-requires c =
    let none = sym c.find.ensures ∙ ap option_copied c.in-None.is in
    let some = sym (found_some c.args.kernel.now c.args.id.0 c.requires.accepted) ∙ ap is_some none in
    absurd (cc)

pub returns-clause-stores : goal.returns-clause-stores
returns-clause-stores c =
    let k = c.args.kernel.now in
    let t : Transfer = c.in-Some.transfer.now in
    let found : find (has_number c.args.id.0) k.transfers ≡ Some t = sym c.find.ensures ∙ ap option_copied c.in-Some.is in
    let target : IsTarget k t c.args.range.now = found_case (λ u. IsTarget k u c.args.range.now) k c.args.id.0 t c.requires.target found in
    let size : c.args.range.now.len ≡ length (waiting_bytes k.devices t) = target.size ∙ fetched_all t.stored (entry k.devices t.dev) t.buffer (late_fetch k c.args.id.0 t c.requires.good found (found_case (IsOutboardInput Copy k.devices) k c.args.id.0 t c.requires.case found) (found_over k c.args.id.0 t c.requires.accepted found)) in
    record { transfer = t; found = found; size = size; stores = c.store_waiting.ensures.stores; only = refl }

pub store_waiting-requires-clause-can : goal.store_waiting-requires-clause-can
store_waiting-requires-clause-can c = c.requires.can c.few_for-few.result

pub returns-clause-copies : goal.returns-clause-copies
returns-clause-copies c =
    let k = c.args.kernel.now in
    let t : Transfer = c.in-Some.transfer.now in
    let found : find (has_number c.args.id.0) k.transfers ≡ Some t = sym c.find.ensures ∙ ap option_copied c.in-Some.is in
    let few : c.few_for-few.result ≡ few_of k.config t.sem = subst (λ (o : Option Transfer). IfSome o (λ (u : Transfer). c.few_for-few.result ≡ few_of k.config u.sem)) found c.few_for-few.ensures in
    let range = c.args.range.now in
    subst (λ (o : Option Transfer). IfSome o (λ (u : Transfer). CopiesAtMost (store_work k.memory range.object.0 range.off range.len (few_of k.config u.sem)) k.memory c.store_waiting.new.memory)) (sym found) (subst (λ (f : ℕ). CopiesAtMost (store_work k.memory range.object.0 range.off range.len f) k.memory c.store_waiting.new.memory) few c.store_waiting.ensures.copies)
