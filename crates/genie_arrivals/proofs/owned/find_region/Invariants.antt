use Rattle.std.proofs.Common.{◌≡◌, ℕ, ◌<◌, false}
use Rattle.std.specs.List.{list_any}
use Rattle.genie_model.specs.Tables.{entry}
use Rattle.genie_kernel.specs.Regions.{has_id, regions_of}
use Rattle.genie_arrivals.proofs.owned.find_region.Given as goal

abbrev pub invariant-processes : goal.invariant-processes
invariant-processes l = (p : ℕ) → p < l.pid → list_any (has_id l.id.0) (regions_of (entry l.spaces.processes p)) ≡ false
