use Rattle.std.proofs.Common.{refl, true, false}
use Rattle.genie_console.proofs.Told.{finished}
use Rattle.genie_console.proofs.console.Console.finish.Goals as goal

pub returns-then-take_failure-clause-finishes : goal.returns-then-take_failure-clause-finishes
returns-then-take_failure-clause-finishes g c = finished _ _ c.flush-flushed.new.self.replies _ true c.flush-flushed.result _ c.flush-flushed.ensures.flushes c.flush-flushed.ensures.rest c.if-take_failure.ensures.failed c.take_failure.ensures.taken refl

pub returns-clause-finishes : goal.returns-clause-finishes
returns-clause-finishes g c = finished _ _ c.flush-flushed.new.self.replies _ false c.flush-flushed.result c.flush-flushed.result c.flush-flushed.ensures.flushes c.flush-flushed.ensures.rest c.if-take_failure.ensures.failed c.take_failure.ensures.taken refl
