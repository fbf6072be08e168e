use Rattle.genie_device.proofs.Sending.{appended_more, taken_short, taken_within, count_fits}
use Rattle.genie_device.proofs.send.send_part.Goals as goal

pub pieces-preserved : goal.pieces-preserved
pieces-preserved g c =
    let short = taken_short c.piece_of-piece.result.now c.min-count.result c.in-Ok.taken c.in-Ok.ensures.bound in
    appended_more _ _ _ _ _ _ _ _ _ _ _ c.pieces.invariant c.piece_of-piece.ensures.front (count_fits _ _ _ c.min-count.ensures) short (taken_within _ _ _ _ _ c.min-count.ensures c.pieces-test.true short) c.in-Ok.ensures.step
