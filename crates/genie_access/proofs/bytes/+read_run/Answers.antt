use Rattle.std.proofs.Common.{arith, ◌∙◌, ap, ◌+◌, ◌-◌}
use Rattle.genie_base.specs.Bytes.{part}
use Rattle.std.proofs.Common.{◌++◌}
use Rattle.genie_frame.specs.FrameTable.{FrameTable, bytes_at}
use Rattle.genie_access.proofs.Pieces.{run_on}
use Rattle.genie_access.proofs.bytes.+read_run.Goals as goal

pub returns-clause-bytes : goal.returns-clause-bytes
returns-clause-bytes t c = run_on c.args.off c.args.n c.args.into.now _ _ (bytes_at c.args.frames.now c.args.f.0) (omega (arith, c.if-n-le-PIECE.false)) c.read_piece-2.ensures.bytes (c.read_run.ensures.bytes ∙ ap (λ (z : FrameTable). c.read_piece-2.new.into ++ part (c.args.off + 64) (c.args.n - 64) (bytes_at z c.args.f.0)) c.read_piece-2.ensures.frames)
