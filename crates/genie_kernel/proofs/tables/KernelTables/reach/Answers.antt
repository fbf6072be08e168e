use Rattle.std.proofs.Common.{sym, ap, ◌∙◌}
use Rattle.std.specs.Option.{option_map}
use Rattle.genie_base.specs.Regions.{reach}
use Rattle.genie_region.specs.Layouts.{extent}
use Rattle.genie_space.specs.Spaces.{regions_of}
use Rattle.genie_kernel.specs.Asked.{found_as}
use Rattle.genie_kernel.specs.View.{no_bytes}
use Rattle.genie_kernel.specs.Lemmas.Asking.{ask_reach}
use Rattle.genie_kernel.proofs.tables.KernelTables.reach.Goals as goal

pub returns : goal.returns
returns c = c.found_region.ensures ∙ ap (option_map found_as) (c.region_reached.ensures ∙ ap (λ page. reach extent page c.args.addr c.args.len (regions_of c.args.pid c.args.self.now.spaces)) c.requires.spaced.page) ∙ sym (ask_reach c.args.self.now (no_bytes c.args.self.now.config.page) c.args.pid c.args.addr c.args.len)
