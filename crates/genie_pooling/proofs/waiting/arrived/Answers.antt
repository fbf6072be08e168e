use Rattle.std.proofs.Common.{◌+◌, arith, sym, ap, ◌∙◌}
use Rattle.std.proofs.lemmas.List.Sums.{count_by_more_no, count_by_more_yes}
use Rattle.genie_kernel.specs.Calls.{has_arrived}
use Rattle.genie_pooling.proofs.waiting.arrived.Goals.{then-has_arrived, else-has_arrived}
use Rattle.genie_pooling.proofs.waiting.arrived.Goals as goal

pub each-preserved : goal.each-preserved
each-preserved c =
    let number = c.len-len.ensures.number in
    let within = c.each-test.true in
    let before = c.each.invariant in
    elim c.if-has_arrived.branch [
      | then-has_arrived w ↦ let more = count_by_more_yes (has_arrived c.args.dev) c.args.transfers.now c.each.i c.at.result.now (omega (arith, number, within)) (ap (has_arrived c.args.dev) (c.at.ensures c.at.result.now) ∙ sym c.has_arrived.ensures ∙ w.if-has_arrived.true) in w.count-is ∙ ap (λ n. n + 1) before ∙ sym more
      | else-has_arrived w ↦ let more = count_by_more_no (has_arrived c.args.dev) c.args.transfers.now c.each.i c.at.result.now (omega (arith, number, within)) (ap (has_arrived c.args.dev) (c.at.ensures c.at.result.now) ∙ sym c.has_arrived.ensures ∙ w.if-has_arrived.false) in w.count-is ∙ before ∙ sym more
    ]
