use Rattle.std.proofs.Common.{◌≡◌, refl, ap, ◌∙◌}
use Rattle.std.specs.Prelude.{Some, None}
use Rattle.genie_model.specs.State.{State, Region, Transfer}
use Rattle.genie_model.specs.Regions.{fresh}
use Rattle.genie_model.specs.Pending.{add_transfer}
use Rattle.genie_model.specs.Space.{zeros_at_place, add_region}
use Rattle.genie_model.specs.Inputs.{input_of, pages_for}
use Rattle.genie_tables.specs.Targets.{address_of}
use Rattle.genie_tables.specs.Lemmas.Succeeding.{on_ok}
use Rattle.genie_flat.proofs.machine.Machine.input_into_zeros.Goals as goal

pub returns : goal.returns
returns c =
    let s : State = c.args.self.now in
    let p = c.args.pid in
    let made : Region = zeros_at_place s c.args.state p (pages_for s c.args.len) in
    let call : Transfer = input_of s p c.args.class (address_of c.args.target) c.args.len None (Some (fresh s)) 0 in
    let region : c.in_ok-region.region ≡ made = c.in_ok-region.ensures ∙ ap (zeros_at_place s c.args.state p) c.pages_for-pages.ensures.pages in
    let number = c.number.ensures ∙ ap (λ (r : Region). r.number) region in
    let transfer : c.input-transfer.result ≡ call = rw (c.input-transfer.ensures, c.call-call.ensures, number) refl in
    let placed = c.in_ok-add_region.ensures ∙ ap (add_region s p) region in
    on_ok c.add_transfer.result (λ e. e ∙ ap (λ (t : State). add_transfer t c.input-transfer.result) placed ∙ ap (add_transfer (add_region s p made)) transfer) c.add_transfer.ensures
