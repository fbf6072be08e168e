use Rattle.genie_plan.specs.Lemmas.Ranges.{piece_fits}
use Rattle.genie_plan.proofs.landing.land_piece.Goals as goal

pub dma_in-requires-clause-there : goal.dma_in-requires-clause-there
dma_in-requires-clause-there c =
    let e = rw c.page-page.ensures.size at c.min-room.ensures in
    rw c.page-page.ensures.size ((piece_fits _ _ _ c.args.at _ _ c.args.bytes.now _ _ c.page-page.ensures.shaped c.requires.ready c.requires.inside e c.min-count.ensures).there)

pub dma_in-requires-clause-out : goal.dma_in-requires-clause-out
dma_in-requires-clause-out c =
    let e = rw c.page-page.ensures.size at c.min-room.ensures in
    rw c.page-page.ensures.size ((piece_fits _ _ _ c.args.at _ _ c.args.bytes.now _ _ c.page-page.ensures.shaped c.requires.ready c.requires.inside e c.min-count.ensures).out)

pub returns-clause-content : goal.returns-clause-content
returns-clause-content c =
    let e = rw c.page-page.ensures.size at c.min-room.ensures in
    let is = rw c.page-page.ensures.size at c.dma_in.ensures in
    rw is ((piece_fits _ _ _ c.args.at _ _ c.args.bytes.now _ _ c.page-page.ensures.shaped c.requires.ready c.requires.inside e c.min-count.ensures).stored.content)

pub returns-clause-only : goal.returns-clause-only
returns-clause-only c =
    let e = rw c.page-page.ensures.size at c.min-room.ensures in
    let is = rw c.page-page.ensures.size at c.dma_in.ensures in
    rw is ((piece_fits _ _ _ c.args.at _ _ c.args.bytes.now _ _ c.page-page.ensures.shaped c.requires.ready c.requires.inside e c.min-count.ensures).stored.only)
