use Rattle.std.proofs.Common.{◌≡◌, true, false, sym, ap, ◌∙◌}
use Rattle.std.specs.Prelude.{is_some}
use Rattle.genie_base.specs.Regions.{reach}
use Rattle.genie_region.specs.Layouts.{extent}
use Rattle.genie_model.specs.Tables.{entry}
use Rattle.genie_kernel.specs.Regions.{regions_of}
use Rattle.genie_outputs.proofs.Reached.{may_output}
use Rattle.genie_outputs.proofs.reach.region_reached.Goals as goal

pub regions-requires : goal.regions-requires
regions-requires c = (may_output c.args.kernel.now c.args.call.now c.requires.accepted).alive

pub unreachable-requires : goal.unreachable-requires
unreachable-requires c =
    let found : c.find.result ≡ reach extent c.args.kernel.now.config.page c.args.call.now.addr c.args.call.now.len (regions_of (entry c.args.kernel.now.spaces.processes c.args.call.now.pid)) = c.find.ensures ∙ (λ i. reach extent ((c.page-page.ensures ∙ c.requires.good.spaced.page) i) c.args.call.now.addr c.args.call.now.len (c.regions.ensures i)) in
    let bad : true ≡ false = sym (may_output c.args.kernel.now c.args.call.now c.requires.accepted).reached ∙ sym (ap is_some found) ∙ ap is_some c.in-None.is in
    cc

pub returns : goal.returns
returns c =
    let found : c.find.result ≡ reach extent c.args.kernel.now.config.page c.args.call.now.addr c.args.call.now.len (regions_of (entry c.args.kernel.now.spaces.processes c.args.call.now.pid)) = c.find.ensures ∙ (λ i. reach extent ((c.page-page.ensures ∙ c.requires.good.spaced.page) i) c.args.call.now.addr c.args.call.now.len (c.regions.ensures i)) in
    sym found ∙ c.in-Some.is
