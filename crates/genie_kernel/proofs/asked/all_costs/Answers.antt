use Rattle.std.proofs.Common.{◌≡◌, ◌<◌, length, ap, ap₂, sym, arith, ◌∙◌, get_or}
use Rattle.genie_base.specs.Counts.{cost, span}
use Rattle.genie_kernel.specs.Asked.{cost_of}
use Rattle.genie_kernel.specs.Lemmas.Summing.{sum_left}
use Rattle.genie_kernel.proofs.asked.all_costs.Goals as goal

pub each-preserved : goal.each-preserved
each-preserved c =
    let t = c.at-transfer.result.now in
    let number = c.len-i-end.ensures.number in
    let least = c.each-test.true in
    let within : c.each.i < length c.args.transfers.now = omega (arith, number, least) in
    let one : cost_of c.args.page (get_or c.args.transfers.now c.each.i t) ≡ c.cost_of_span-total.result = ap (cost_of c.args.page) (c.at-transfer.ensures t) ∙ sym (c.cost_of_span-total.ensures.cost ∙ ap₂ (λ class pages. cost class t.dir pages) c.class.ensures (c.span-touched.ensures ∙ ap (λ at. span c.args.page at t.len) c.begins_at.ensures)) in
    let next = sum_left (cost_of c.args.page) c.args.transfers.now c.each.i t within in
    let before = c.each.invariant in
    let small = c.cost_of_span-total.ensures.most in
    (omega (arith, one, next, before.0), omega (arith, before.1, small))
