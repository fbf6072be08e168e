use Rattle.std.proofs.Common.{◌≡◌, ◌*◌, ◌≤◌, ◌-◌, ℕ, true, false, sym, ap, subst, ◌∙◌}
use Rattle.std.specs.Prelude.{is_some}
use Rattle.genie_base.specs.Regions.{reach}
use Rattle.genie_region.specs.Layouts.{extent}
use Rattle.genie_model.specs.Tables.{entry}
use Rattle.genie_kernel.specs.Regions.{regions_of}
use Rattle.genie_access.proofs.Led.{may_read, leads_to, region_inside}
use Rattle.genie_access.proofs.reading.find_place.Goals as goal

pub regions-requires : goal.regions-requires
regions-requires c = (may_read c.args.kernel.now c.args.pid c.args.addr c.args.len c.requires.accepted).alive

pub unreachable-requires : goal.unreachable-requires
unreachable-requires c =
    let found : c.find.result ≡ reach extent c.args.kernel.now.config.page c.args.addr c.args.len (regions_of (entry c.args.kernel.now.spaces.processes c.args.pid)) = c.find.ensures ∙ (λ i. reach extent ((c.page-page.ensures ∙ c.requires.good.spaced.page) i) c.args.addr c.args.len (c.regions.ensures i)) in
    let bad : true ≡ false = sym (may_read c.args.kernel.now c.args.pid c.args.addr c.args.len c.requires.accepted).reached ∙ sym (ap is_some found) ∙ ap is_some c.in_default.is in
    cc

pub place_in-requires : goal.place_in-requires
place_in-requires c =
    let found : c.find.result ≡ reach extent c.args.kernel.now.config.page c.args.addr c.args.len (regions_of (entry c.args.kernel.now.spaces.processes c.args.pid)) = c.find.ensures ∙ (λ i. reach extent ((c.page-page.ensures ∙ c.requires.good.spaced.page) i) c.args.addr c.args.len (c.regions.ensures i)) in
    let page : c.get.result ≡ c.args.kernel.now.config.page = c.get.ensures.number ∙ c.page-page.ensures ∙ c.requires.good.spaced.page in
    subst (λ (z : ℕ). c.in-Some.region.start * z ≤ c.args.addr) (sym page) (region_inside c.args.kernel.now.config.page c.args.addr c.args.len (regions_of (entry c.args.kernel.now.spaces.processes c.args.pid)) c.in-Some.region (sym found ∙ c.in-Some.is)).low

pub returns : goal.returns
returns c =
    let found : c.find.result ≡ reach extent c.args.kernel.now.config.page c.args.addr c.args.len (regions_of (entry c.args.kernel.now.spaces.processes c.args.pid)) = c.find.ensures ∙ (λ i. reach extent ((c.page-page.ensures ∙ c.requires.good.spaced.page) i) c.args.addr c.args.len (c.regions.ensures i)) in
    let page : c.get.result ≡ c.args.kernel.now.config.page = c.get.ensures.number ∙ c.page-page.ensures ∙ c.requires.good.spaced.page in
    leads_to c.args.kernel.now c.args.pid c.args.addr c.args.len _ c.in-Some.region c.requires.accepted (sym found ∙ c.in-Some.is) (c.place_in.ensures ∙ ap (λ (z : ℕ). c.args.addr - c.in-Some.region.start * z) page)
