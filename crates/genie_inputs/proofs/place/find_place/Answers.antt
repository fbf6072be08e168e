use Rattle.std.proofs.Common.{◌≡◌, ℕ, ◌+◌, ◌-◌, ◌/◌, ◌∙◌, sym, ap, arith}
use Rattle.genie_base.specs.Regions.{place}
use Rattle.genie_region.specs.Layouts.{extent}
use Rattle.std.specs.Prelude.{None}
use Rattle.genie_inputs.proofs.Accepted.{may_input, page_high}
use Rattle.genie_inputs.proofs.Placing.{may_place}
use Rattle.genie_inputs.proofs.place.find_place.Goals as goal

pub pages_for-pages-requires-clause-fits : goal.pages_for-pages-requires-clause-fits
pages_for-pages-requires-clause-fits c =
    let page : c.get.result ≡ c.args.kernel.now.config.page = c.get.ensures.number ∙ c.page.ensures ∙ c.requires.good.spaced.page in
    let short = (may_input c.args.kernel.now c.args.call None c.requires.good c.requires.accepted).short in
    let high = page_high c.args.kernel.now.config.page c.requires.good.fits.page in
    omega (arith, page, short, high)

pub regions-requires : goal.regions-requires
regions-requires c = (may_input c.args.kernel.now c.args.call None c.requires.good c.requires.accepted).alive

pub unreachable-requires : goal.unreachable-requires
unreachable-requires c =
    let page : c.get.result ≡ c.args.kernel.now.config.page = c.get.ensures.number ∙ c.page.ensures ∙ c.requires.good.spaced.page in
    let pages = sym (c.pages_for-pages.ensures ∙ ap (λ (z : ℕ). (c.args.call.len + z - 1) / z) page) in
    (may_place c.args.kernel.now c.args.call c.requires.good c.requires.accepted c.requires.made).there ((λ i. place extent (pages i) (sym c.regions.ensures i)) ∙ sym c.place.ensures ∙ c.in_default.is)

pub returns : goal.returns
returns c =
    let page : c.get.result ≡ c.args.kernel.now.config.page = c.get.ensures.number ∙ c.page.ensures ∙ c.requires.good.spaced.page in
    record {
      number = c.fresh_number.ensures;
      pages = c.pages_for-pages.ensures ∙ ap (λ (z : ℕ). (c.args.call.len + z - 1) / z) page;
      lowest = ap (place extent c.pages_for-pages.result) (sym c.regions.ensures) ∙ sym c.place.ensures ∙ c.in-Some.is;
    }
