use Rattle.std.proofs.Common.{sym, ◌∙◌}
use Rattle.genie_kernel.specs.View.{no_bytes}
use Rattle.genie_kernel.specs.Lemmas.Asking.{ask_free}
use Rattle.genie_kernel.proofs.tables.KernelTables.is_free.Goals as goal

pub returns : goal.returns
returns c = c.is_free.ensures ∙ sym (ask_free c.args.self.now (no_bytes c.args.self.now.config.page) c.args.pid c.args.start c.args.pages)
