use Rattle.std.proofs.Common.{◌≡◌, Some, sym, ap, ◌∙◌}
use Rattle.std.specs.Prelude.{slice_get}
use Rattle.genie_space.specs.Spaces.{regions_of}
use Rattle.genie_spaces.proofs.Exiting.{exits_removed, first_found, first_got, regions_fewer, rest_of}
use Rattle.genie_spaces.proofs.exit.remove_first.Goals as goal

pub remove_region-requires-clause-there : goal.remove_region-requires-clause-there
remove_region-requires-clause-there c =
    let rs = regions_of c.args.pid c.args.kernel.now.spaces in
    let got : slice_get rs 0 ≡ Some c.at-region.result = ap (λ l. slice_get l 0) (sym c.regions.ensures) ∙ c.at-region.ensures in
    first_found rs c.at-region.result got

pub returns-clause-exits : goal.returns-clause-exits
returns-clause-exits c =
    let rs = regions_of c.args.pid c.args.kernel.now.spaces in
    let got : slice_get rs 0 ≡ Some c.at-region.result = ap (λ l. slice_get l 0) (sym c.regions.ensures) ∙ c.at-region.ensures in
    exits_removed c.exit_laws.ensures c.args.pid c.at-region.result (rest_of rs) c.args.kernel.now c.remove_region.new.kernel c.requires.settled (first_got rs c.at-region.result got) c.remove_region.ensures

pub returns-clause-fewer : goal.returns-clause-fewer
returns-clause-fewer c =
    let rs = regions_of c.args.pid c.args.kernel.now.spaces in
    let got : slice_get rs 0 ≡ Some c.at-region.result = ap (λ l. slice_get l 0) (sym c.regions.ensures) ∙ c.at-region.ensures in
    regions_fewer c.exit_laws.ensures c.args.pid c.at-region.result (rest_of rs) c.args.kernel.now c.remove_region.new.kernel c.requires.settled (first_got rs c.at-region.result got) c.remove_region.ensures
