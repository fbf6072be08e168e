use Rattle.std.specs.Prelude.{take}
use Rattle.std.specs.List.{list_any}
use Rattle.genie_hiding.specs.Discarding.{Discards}
use Rattle.genie_sharing.specs.Regions.{has_object}
use Rattle.genie_sharing.proofs.regions.drop_objects.Given as goal

abbrev pub invariant-regions : goal.invariant-regions
invariant-regions l = Discards (λ o. list_any (has_object o) (take l.i l.regions)) l.fn.memory l.memory
