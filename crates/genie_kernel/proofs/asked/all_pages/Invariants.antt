use Rattle.std.proofs.Common.{◌≡◌, ◌+◌, ◌*◌, ◌^◌, ◌≤◌, drop}
use Rattle.std.specs.Prelude.{sum_by}
use Rattle.genie_kernel.specs.Asked.{pages_in}
use Rattle.genie_kernel.proofs.asked.all_pages.Given as goal

abbrev pub invariant-each : goal.invariant-each
invariant-each l = (l.total + sum_by pages_in (drop l.pid l.spaces.processes) ≡ sum_by pages_in l.spaces.processes) × (l.total ≤ 2 ^ 40 * l.pid)
