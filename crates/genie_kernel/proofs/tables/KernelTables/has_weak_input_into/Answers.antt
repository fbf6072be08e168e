use Rattle.std.proofs.Common.{sym, ◌∙◌}
use Rattle.genie_kernel.specs.View.{no_bytes}
use Rattle.genie_kernel.specs.Lemmas.Asking.{ask_weak}
use Rattle.genie_kernel.proofs.tables.KernelTables.has_weak_input_into.Goals as goal

pub returns : goal.returns
returns c = c.any.ensures ∙ sym (ask_weak c.args.self.now (no_bytes c.args.self.now.config.page) c.args.number)
