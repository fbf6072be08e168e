use Rattle.std.proofs.Common.{◌≡◌, ap, sym, arith, ◌∙◌, get_or}
use Rattle.genie_kernel.specs.Asked.{counted_pages}
use Rattle.genie_kernel.specs.Lemmas.Searching.{got_at}
use Rattle.genie_kernel.specs.Lemmas.Summing.{sum_left}
use Rattle.genie_kernel.proofs.asked.sum_pages.Goals as goal

pub each-preserved : goal.each-preserved
each-preserved c =
    let at = got_at c.args.regions.now c.each.i c.at.result c.at.ensures in
    let one : counted_pages c.args.forked (get_or c.args.regions.now c.each.i c.at.result) ≡ c.from-total.result = ap (counted_pages c.args.forked) (at.1 c.at.result) ∙ sym c.counted_pages.ensures ∙ sym c.from-total.ensures in
    let next = sum_left (counted_pages c.args.forked) c.args.regions.now c.each.i c.at.result at.0 in
    let before = c.each.invariant in
    let same = c.from-total.ensures in
    let small = c.counted_pages.type_inv in
    (omega (arith, one, next, before.0), omega (arith, before.1, same, small))
