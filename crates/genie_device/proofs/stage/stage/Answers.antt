use Rattle.std.proofs.Common.{◌≡◌, length, arith, rules}
use Rattle.genie_device.proofs.Sending.{count_fits, taken_within}
use Rattle.genie_device.proofs.Staging.{staged_more}
use Rattle.genie_device.proofs.stage.stage.Goals as goal

pub pieces-preserved : goal.pieces-preserved
pieces-preserved g c =
    let size : c.len.result ≡ length c.pieces.staged.items = search rules in
    let room = c.append.ensures.room in
    record {
      so = staged_more _ _ _ _ _ _ _ _ c.pieces.invariant.so (rw size at c.piece-piece.ensures.front) (count_fits _ _ _ c.min-count.ensures) (taken_within _ _ _ _ _ c.min-count.ensures c.pieces-test.true (omega arith)) c.append.ensures.bytes;
      room = omega arith;
    }
