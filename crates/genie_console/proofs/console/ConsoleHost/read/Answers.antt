use Rattle.genie_console.proofs.Told.{reads_behind, reading_inside}
use Rattle.genie_console.proofs.console.ConsoleHost.read.Goals as goal

pub returns-clause-step : goal.returns-clause-step
returns-clause-step g c =
    let f = c.flush_first.ensures.1 in
    rw c.read_flushed.ensures.rest (reads_behind c.args.handle _ _ _ c.args.self.now.replies c.flush_first.new.self.replies _ _ c.flush_first.ensures.0 c.read_flushed.result c.read_flushed.new.into (reading_inside c.args.handle (g.H.Host.view c.args.self.now.inner) c.args.self.now.replies c.requires) f.flushes f.faults c.read_flushed.ensures.reads)

pub returns-clause-first : goal.returns-clause-first
returns-clause-first g c =
    let f = c.flush_first.ensures.1 in
    record { middle = g.H.Host.view c.flush_first.new.self.inner; flushed = c.flush_first.ensures.0; first = rw c.read_flushed.ensures.rest f; reads = c.read_flushed.ensures.reads }
