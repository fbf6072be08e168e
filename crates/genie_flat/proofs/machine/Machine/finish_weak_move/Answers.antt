use Rattle.std.proofs.Common.{◌≡◌, refl, sym, ap, ◌∙◌}
use Rattle.std.specs.Prelude.{Some}
use Rattle.genie_model.specs.Ending.{finish_weak_move, region_of, after_landing}
use Rattle.genie_flat.proofs.machine.Machine.finish_weak_move.Goals as goal

pub returns : goal.returns
returns c =
    let found : region_of c.args.self.now c.args.transfer.now ≡ Some c.in-Some.region.now = sym c.in-Some.ensures in
    let landed : c.land_late.new.self ≡ after_landing c.args.self.now c.args.transfer.now c.in-Some.region.now = c.land_late.ensures c.in-Some.region.now (sym c.number-number.ensures) in
    ap (finish_weak_move c.args.self.now c.args.transfer.now) found ∙ rw (c.arrived.ensures, c.address_of-addr.ensures, c.change_region.ensures, landed, c.number-number.ensures) refl
