use Rattle.std.proofs.Common.{◌≡◌}
use Rattle.std.specs.Prelude.{replicate, None}
use Rattle.genie_flat.proofs.flat.no_processes.Given as goal

abbrev pub invariant-loop : goal.invariant-loop
invariant-loop l = l.processes.items ≡ replicate l.counter None
