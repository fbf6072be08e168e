use Rattle.std.proofs.Common.{subst, ◌<◌, ap, sym, ◌∙◌, length, take, drop}
use Rattle.genie_plan.specs.Plans.{output_frames, range_bytes}
use Rattle.genie_plan.specs.Lemmas.Ranges.{piece_lent}
use Rattle.genie_plan.proofs.source.piece_at.Goals as goal

pub dma_out-requires-clause-there : goal.dma_out-requires-clause-there
dma_out-requires-clause-there c =
    let e = rw c.page-page.ensures.size at c.min-count.ensures in
    rw c.page-page.ensures.size ((piece_lent _ _ _ c.args.at _ _ _ c.page-page.ensures.shaped c.requires.ready c.if-at-len.false e).there)

pub dma_out-requires-clause-out : goal.dma_out-requires-clause-out
dma_out-requires-clause-out c =
    let e = rw c.page-page.ensures.size at c.min-count.ensures in
    rw c.page-page.ensures.size ((piece_lent _ _ _ c.args.at _ _ _ c.page-page.ensures.shaped c.requires.ready c.if-at-len.false e).out)

pub returns-clause-front : goal.returns-clause-front
returns-clause-front c =
    let e = rw c.page-page.ensures.size at c.min-count.ensures in
    let is = rw c.page-page.ensures.size at c.dma_out.ensures in
    let x = piece_lent _ _ _ c.args.at _ _ _ c.page-page.ensures.shaped c.requires.ready c.if-at-len.false e in
    is ∙ x.is ∙ ap (λ n. take n (drop c.args.at (range_bytes c.args.frames.now (output_frames c.args.loans.now) c.args.first c.args.len))) (sym x.size ∙ ap length (sym is))

pub returns-clause-some : goal.returns-clause-some
returns-clause-some c h =
    let e = rw c.page-page.ensures.size at c.min-count.ensures in
    let is = rw c.page-page.ensures.size at c.dma_out.ensures in
    let x = piece_lent _ _ _ c.args.at _ _ _ c.page-page.ensures.shaped c.requires.ready c.if-at-len.false e in
    subst (λ n. 0 < n) (sym (ap length is ∙ x.size)) x.some
