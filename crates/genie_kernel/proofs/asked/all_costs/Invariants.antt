use Rattle.std.proofs.Common.{◌≡◌, ◌+◌, ◌*◌, ◌^◌, ◌≤◌, drop}
use Rattle.std.specs.Prelude.{sum_by}
use Rattle.genie_kernel.specs.Asked.{cost_of}
use Rattle.genie_kernel.proofs.asked.all_costs.Given as goal

abbrev pub invariant-each : goal.invariant-each
invariant-each l = (l.total + sum_by (cost_of l.page) (drop l.i l.transfers) ≡ sum_by (cost_of l.page) l.transfers) × (l.total ≤ 2 ^ 33 * l.i)
