use Rattle.std.proofs.Common.{sym, ◌∙◌}
use Rattle.genie_kernel.specs.View.{no_bytes}
use Rattle.genie_kernel.specs.Lemmas.Asking.{ask_count}
use Rattle.genie_kernel.proofs.tables.KernelTables.count_regions.Goals as goal

pub returns : goal.returns
returns c = c.count_regions.ensures ∙ sym (ask_count c.args.self.now (no_bytes c.args.self.now.config.page) c.args.pid)
