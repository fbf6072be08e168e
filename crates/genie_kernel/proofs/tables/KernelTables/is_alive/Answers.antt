use Rattle.std.proofs.Common.{sym, ◌∙◌}
use Rattle.genie_kernel.specs.View.{no_bytes}
use Rattle.genie_kernel.specs.Lemmas.Asking.{ask_alive}
use Rattle.genie_kernel.proofs.tables.KernelTables.is_alive.Goals as goal

pub returns : goal.returns
returns c = c.alive.ensures.alive ∙ sym (ask_alive c.args.self.now (no_bytes c.args.self.now.config.page) c.args.pid)
