use Rattle.std.proofs.Common.{sym, ap, ◌∙◌}
use Rattle.std.specs.Prelude.{is_some}
use Rattle.genie_kernel.specs.View.{no_bytes}
use Rattle.genie_kernel.specs.Lemmas.Asking.{ask_place}
use Rattle.genie_kernel.proofs.tables.KernelTables.has_place.Goals as goal

pub returns : goal.returns
returns c = c.is_some.ensures ∙ ap is_some (c.place_of.ensures ∙ sym (ask_place c.args.self.now (no_bytes c.args.self.now.config.page) c.args.pid c.args.pages))
