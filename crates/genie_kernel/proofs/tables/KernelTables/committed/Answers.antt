use Rattle.std.proofs.Common.{sym, ◌∙◌}
use Rattle.genie_kernel.specs.View.{no_bytes}
use Rattle.genie_kernel.specs.Lemmas.Asking.{ask_committed}
use Rattle.genie_kernel.proofs.tables.KernelTables.committed.Goals as goal

pub returns-clause-pages : goal.returns-clause-pages
returns-clause-pages c = c.all_pages.ensures.pages ∙ sym (ask_committed c.args.self.now (no_bytes c.args.self.now.config.page))
