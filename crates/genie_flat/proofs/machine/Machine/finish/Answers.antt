use Rattle.std.proofs.Common.{◌≡◌, sym, ap, ◌∙◌}
use Rattle.std.specs.Prelude.{Some}
use Rattle.genie_model.specs.State.{State}
use Rattle.genie_model.specs.Pending.{pending}
use Rattle.genie_model.specs.Ending.{finish_found, finish_for}
use Rattle.genie_flat.proofs.machine.Machine.finish.Goals as goal

pub returns : goal.returns
returns c =
    let found : pending c.args.self.now c.args.id ≡ Some c.in-Some.transfer = sym c.in-Some.ensures.found in
    let ended : finish_for c.take.new.self c.in-Some.transfer c.in-Some.transfer.owner ≡ (c.finish_for.new.self, c.finish_for.result) = c.finish_for.ensures in
    ap (finish_found c.args.self.now c.args.id) found ∙ ap (λ (s : State). finish_for s c.in-Some.transfer c.in-Some.transfer.owner) (sym c.take.ensures.rest) ∙ ended
