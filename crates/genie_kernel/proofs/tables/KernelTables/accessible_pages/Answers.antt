use Rattle.std.proofs.Common.{sym, ◌∙◌}
use Rattle.genie_kernel.specs.View.{no_bytes}
use Rattle.genie_kernel.specs.Lemmas.Asking.{ask_accessible}
use Rattle.genie_kernel.proofs.tables.KernelTables.accessible_pages.Goals as goal

pub returns-clause-pages : goal.returns-clause-pages
returns-clause-pages c = c.pages_of.ensures.pages ∙ sym (ask_accessible c.args.self.now (no_bytes c.args.self.now.config.page) c.args.pid)
