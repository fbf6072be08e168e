use Rattle.std.proofs.Common.{◌≡◌, ℕ, ◌<◌, false, get_or}
use Rattle.genie_region.specs.declared.region.Region.{Region}
use Rattle.genie_kernel.specs.Asked.{has_pages}
use Rattle.genie_inputs.proofs.reuse.sized_region.Given as goal

abbrev pub invariant-each : goal.invariant-each
invariant-each l = (j : ℕ) (d : Region) → j < l.i → has_pages l.id l.pages (get_or l.regions j d) ≡ false
