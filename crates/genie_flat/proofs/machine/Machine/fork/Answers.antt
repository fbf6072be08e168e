use Rattle.std.proofs.Common.{◌≡◌, ap, ◌∙◌}
use Rattle.genie_model.specs.State.{State}
use Rattle.genie_model.specs.Regions.{regions_at}
use Rattle.genie_model.specs.Space.{spawned, accessible, add_copies}
use Rattle.genie_flat.proofs.Copies.{copies_live}
use Rattle.genie_tables.specs.Lemmas.Succeeding.{on_ok}
use Rattle.genie_flat.proofs.machine.Machine.fork.Goals as goal

pub returns : goal.returns
returns c =
    let s = c.args.self.now in
    let q = c.args.child in
    let start = spawned s q in
    let copies = accessible (regions_at s c.args.parent) in
    let same : add_copies c.spawn.new.self q c.as_slice.result.now ≡ add_copies start q copies =
    ap (λ (t : State). add_copies t q c.as_slice.result.now) c.spawn.ensures ∙ ap (add_copies start q) (c.as_slice.ensures.value ∙ c.in_ok-copies.ensures.copies) ∙ copies_live start q copies in
    on_ok c.add_copies.result (λ e. e ∙ same) c.add_copies.ensures
