use Rattle.std.proofs.Common.{◌≡◌, ◌≤◌, ◌*◌, ◌-◌, ℕ, ◌∙◌, sym, ap, subst}
use Rattle.std.specs.Prelude.{Some}
use Rattle.genie_base.specs.Regions.{reach}
use Rattle.genie_region.specs.Layouts.{extent}
use Rattle.genie_model.specs.Tables.{entry}
use Rattle.genie_kernel.specs.Regions.{regions_of}
use Rattle.genie_inputs.proofs.Accepted.{may_input}
use Rattle.genie_inputs.proofs.Targeting.{reaches, share_found, target_low}
use Rattle.genie_inputs.proofs.target.find_target.Goals as goal

pub regions-requires : goal.regions-requires
regions-requires c = (may_input c.args.kernel.now c.args.call (Some c.args.addr) c.requires.good c.requires.accepted).alive

pub unreachable-requires : goal.unreachable-requires
unreachable-requires c =
    let found : c.find.result ≡ reach extent c.args.kernel.now.config.page c.args.addr c.args.call.len (regions_of (entry c.args.kernel.now.spaces.processes c.args.call.pid)) = c.find.ensures ∙ (λ i. reach extent ((c.page-page.ensures ∙ c.requires.good.spaced.page) i) c.args.addr c.args.call.len (c.regions.ensures i)) in
    share_found c.args.kernel.now c.args.call c.args.addr c.requires.class c.requires.accepted (sym found ∙ c.in_default.is)

pub place_in-requires : goal.place_in-requires
place_in-requires c =
    let found : c.find.result ≡ reach extent c.args.kernel.now.config.page c.args.addr c.args.call.len (regions_of (entry c.args.kernel.now.spaces.processes c.args.call.pid)) = c.find.ensures ∙ (λ i. reach extent ((c.page-page.ensures ∙ c.requires.good.spaced.page) i) c.args.addr c.args.call.len (c.regions.ensures i)) in
    let page : c.get.result ≡ c.args.kernel.now.config.page = c.get.ensures.number ∙ c.page-page.ensures ∙ c.requires.good.spaced.page in
    subst (λ (z : ℕ). c.in-Some.region.start * z ≤ c.args.addr) (sym page) (target_low c.args.kernel.now c.args.call c.args.addr c.in-Some.region (sym found ∙ c.in-Some.is))

pub returns : goal.returns
returns c =
    let found : c.find.result ≡ reach extent c.args.kernel.now.config.page c.args.addr c.args.call.len (regions_of (entry c.args.kernel.now.spaces.processes c.args.call.pid)) = c.find.ensures ∙ (λ i. reach extent ((c.page-page.ensures ∙ c.requires.good.spaced.page) i) c.args.addr c.args.call.len (c.regions.ensures i)) in
    let page : c.get.result ≡ c.args.kernel.now.config.page = c.get.ensures.number ∙ c.page-page.ensures ∙ c.requires.good.spaced.page in
    reaches c.args.kernel.now c.args.call c.args.addr c.in-Some.region _ c.requires.class c.requires.accepted (sym found ∙ c.in-Some.is) (c.place_in.ensures ∙ ap (λ (z : ℕ). c.args.addr - c.in-Some.region.start * z) page)
