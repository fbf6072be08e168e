use Rattle.std.proofs.Common.{◌≡◌, ℕ, ◌+◌, ◌-◌, ◌/◌, ◌∙◌, ap, subst, arith, List, []}
use Rattle.std.specs.Prelude.{None, slice_index_or, unwrap_or}
use Rattle.genie_region.specs.declared.region.Region.{Region}
use Rattle.genie_model.specs.Tables.{entry}
use Rattle.genie_inputs.specs.Reusing.{FindsIn}
use Rattle.genie_inputs.proofs.Accepted.{may_input, page_high}
use Rattle.genie_inputs.proofs.Finding.{finds_for, queue_there}
use Rattle.genie_inputs.proofs.reuse.find_reusable.Goals as goal

pub pages_for-pages-requires-clause-fits : goal.pages_for-pages-requires-clause-fits
pages_for-pages-requires-clause-fits c =
    let page : c.get.result ≡ c.args.kernel.now.config.page = c.get.ensures.number ∙ c.page.ensures ∙ c.requires.good.spaced.page in
    let short = (may_input c.args.kernel.now c.args.call None c.requires.good c.requires.accepted).short in
    let high = page_high c.args.kernel.now.config.page c.requires.good.fits.page in
    omega (arith, page, short, high)

pub regions-regions-requires : goal.regions-regions-requires
regions-regions-requires c = (may_input c.args.kernel.now c.args.call None c.requires.good c.requires.accepted).alive

pub returns : goal.returns
returns c =
    let page : c.get.result ≡ c.args.kernel.now.config.page = c.get.ensures.number ∙ c.page.ensures ∙ c.requires.good.spaced.page in
    let pages = c.pages_for-pages.ensures ∙ ap (λ (z : ℕ). (c.args.call.len + z - 1) / z) page in
    finds_for c.args.kernel.now c.args.call c.oldest.result
    (subst (λ (n : ℕ). FindsIn (slice_index_or c.args.kernel.now.queues c.args.call.pid []) (unwrap_or (entry c.args.kernel.now.spaces.processes c.args.call.pid) []) c.args.kernel.now.transfers n c.oldest.result) pages
    (subst (λ (rs : List Region). FindsIn (slice_index_or c.args.kernel.now.queues c.args.call.pid []) rs c.args.kernel.now.transfers c.pages_for-pages.result c.oldest.result) c.regions-regions.ensures (subst (λ (q : List ℕ). FindsIn q c.regions-regions.result.now c.args.kernel.now.transfers c.pages_for-pages.result c.oldest.result) (queue_there c.args.kernel.now c.args.call c.index-kernel-call.result c.requires.good c.requires.accepted) c.oldest.ensures)))
