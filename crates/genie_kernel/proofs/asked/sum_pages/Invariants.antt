use Rattle.std.proofs.Common.{◌≡◌, ◌+◌, ◌*◌, ◌^◌, ◌≤◌, drop}
use Rattle.std.specs.Prelude.{sum_by}
use Rattle.genie_kernel.specs.Asked.{counted_pages}
use Rattle.genie_kernel.proofs.asked.sum_pages.Given as goal

abbrev pub invariant-each : goal.invariant-each
invariant-each l = (l.total + sum_by (counted_pages l.forked) (drop l.i l.regions) ≡ sum_by (counted_pages l.forked) l.regions) × (l.total ≤ 2 ^ 32 * l.i)
