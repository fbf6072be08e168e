use Rattle.std.specs.Prelude.{Ok, Err}
use Rattle.genie_console.proofs.Told.{remembers_none, remembers_failure}
use Rattle.genie_console.proofs.console.Console.flush_first.Goals as goal

pub returns-in-Ok : goal.returns-in-Ok
returns-in-Ok g c = (Ok tt, remembers_none _ _ _ c.in-Ok.ensures.flushes c.in-Ok.ensures.rest)

pub returns-in-Err : goal.returns-in-Err
returns-in-Err g c = (Err (record {}), remembers_failure _ _ _ _ _ c.in-Err.ensures.flushes c.in-Err.ensures.rest c.remember_failure.ensures)
