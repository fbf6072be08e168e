use Rattle.std.proofs.Common.{take}
use Rattle.std.specs.List.{list_any}
use Rattle.genie_kernel.specs.Regions.{has_id}
use Rattle.genie_spaces.specs.Marks.{Marks}
use Rattle.genie_spaces.proofs.number.mark_regions.Given as goal

abbrev pub invariant-regions : goal.invariant-regions
invariant-regions l = Marks (λ n. list_any (has_id n) (take l.i l.regions)) l.fn.marks l.marks
