use Rattle.std.proofs.Common.{sym}
use Rattle.genie_changes.proofs.Forgetting.{unlisted_same}
use Rattle.genie_changes.proofs.removal.unlist.Goals as goal

pub returns-else-lists : goal.returns-else-lists
returns-else-lists c = unlisted_same c.args.id.0 c.args.queue.now (sym c.if-lists.ensures)
