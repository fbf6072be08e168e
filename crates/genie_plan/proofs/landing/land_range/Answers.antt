use Rattle.std.proofs.Common.{◌+◌, refl, inr}
use Rattle.genie_plan.specs.Plans.{input_frames}
use Rattle.genie_plan.specs.Lemmas.Ranges.{rest_is, landed_none, landed_more, landed_whole}
use Rattle.genie_plan.proofs.landing.land_range.Goals as goal

pub pieces-init : goal.pieces-init
pieces-init c = landed_none _ _ _ _ _ _ c.requires.ready

pub pieces-preserved : goal.pieces-preserved
pieces-preserved c =
    let piece = c.land_piece-done.ensures in
    let whole = rest_is c.args.bytes.now c.pieces.done in
    landed_more (input_frames c.args.loans.now) c.args.first c.args.len c.args.at (c.args.at + c.pieces.done) c.args.bytes.now c.args.frames.now c.pieces.frames c.land_piece-done.new.frames c.pieces.done c.land_piece-done.result
    c.pieces.invariant refl (rw whole at piece.within) (rw whole at piece.content) piece.landed piece.ready piece.only

pub returns-else-at-done-clause-content : goal.returns-else-at-done-clause-content
returns-else-at-done-clause-content c = landed_whole _ _ _ _ _ _ _ _ c.pieces.invariant (inr c.if-at-done.false)
