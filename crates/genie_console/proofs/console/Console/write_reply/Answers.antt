use Rattle.std.proofs.Common.{sym}
use Rattle.genie_console.specs.Console.{Flushed}
use Rattle.genie_console.proofs.Told.{full_ok, full_err}
use Rattle.genie_console.proofs.console.Console.write_reply.Goals as goal

pub returns-in-Ok : goal.returns-in-Ok
returns-in-Ok g c = Flushed (sym c.if-has_failed.ensures) (c.is_full.ensures.full c.if-not-is_full.false) (full_ok _ _ c.flush.new.self.replies _ _ c.args.from.now c.in-Ok.ensures.flushes c.in-Ok.ensures.rest c.gather-in-Ok.ensures.count c.gather-in-Ok.ensures.waits)

pub returns-in-Err : goal.returns-in-Err
returns-in-Err g c = Flushed (sym c.if-has_failed.ensures) (c.is_full.ensures.full c.if-not-is_full.false) (full_err _ _ c.flush.new.self.replies _ _ _ c.args.from.now c.in-Err.ensures.flushes c.in-Err.ensures.rest c.fail-in-Err.ensures.counted c.fail-in-Err.ensures.later)
