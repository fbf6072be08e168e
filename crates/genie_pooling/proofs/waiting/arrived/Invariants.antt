use Rattle.std.proofs.Common.{◌≡◌, take}
use Rattle.std.specs.Prelude.{count_by}
use Rattle.genie_kernel.specs.Calls.{has_arrived}
use Rattle.genie_pooling.proofs.waiting.arrived.Given as goal

abbrev pub invariant-each : goal.invariant-each
invariant-each l = l.count ≡ count_by (has_arrived l.dev) (take l.i l.transfers)
