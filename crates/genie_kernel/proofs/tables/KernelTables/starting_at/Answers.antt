use Rattle.std.proofs.Common.{sym, ap, ◌∙◌}
use Rattle.std.specs.Option.{option_map}
use Rattle.genie_kernel.specs.Asked.{found_as}
use Rattle.genie_kernel.specs.View.{no_bytes}
use Rattle.genie_kernel.specs.Lemmas.Asking.{ask_start}
use Rattle.genie_kernel.proofs.tables.KernelTables.starting_at.Goals as goal

pub returns : goal.returns
returns c = c.found_region.ensures ∙ ap (option_map found_as) c.region_from.ensures ∙ sym (ask_start c.args.self.now (no_bytes c.args.self.now.config.page) c.args.pid c.args.page)
