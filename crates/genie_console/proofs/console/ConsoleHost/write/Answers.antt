use Rattle.genie_console.proofs.Told.{shows}
use Rattle.genie_console.proofs.console.ConsoleHost.write.Goals as goal

pub returns-then-handle-eq-REPLIES-clause-bound : goal.returns-then-handle-eq-REPLIES-clause-bound
returns-then-handle-eq-REPLIES-clause-bound g c = (shows _ _ c.write_reply.result c.args.from.now c.write_reply.ensures).bound

pub returns-then-handle-eq-REPLIES-clause-some : goal.returns-then-handle-eq-REPLIES-clause-some
returns-then-handle-eq-REPLIES-clause-some g c = (shows _ _ c.write_reply.result c.args.from.now c.write_reply.ensures).some

pub returns-then-handle-eq-REPLIES-clause-step : goal.returns-then-handle-eq-REPLIES-clause-step
returns-then-handle-eq-REPLIES-clause-step g c = rw c.if-handle-eq-REPLIES.true (shows _ _ c.write_reply.result c.args.from.now c.write_reply.ensures).step

pub returns-then-handle-eq-REPLIES-clause-cause : goal.returns-then-handle-eq-REPLIES-clause-cause
returns-then-handle-eq-REPLIES-clause-cause g c is = (shows _ _ c.write_reply.result c.args.from.now c.write_reply.ensures).cause
