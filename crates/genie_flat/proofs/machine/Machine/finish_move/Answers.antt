use Rattle.std.proofs.Common.{◌≡◌, refl, sym, ap, ◌∙◌}
use Rattle.std.specs.Prelude.{Some}
use Rattle.genie_model.specs.Ending.{finish_move, region_of}
use Rattle.genie_flat.proofs.machine.Machine.finish_move.Goals as goal

pub returns : goal.returns
returns c =
    let found : region_of c.args.self.now c.args.transfer.now ≡ Some c.in-Some.region.now = sym c.in-Some.ensures in
    ap (finish_move c.args.self.now c.args.transfer.now) found ∙ rw (c.arrived.ensures, c.address_of-addr.ensures, c.change_region.ensures, c.number-number.ensures, c.payload.ensures) refl
