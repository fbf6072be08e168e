use Rattle.std.proofs.Common.{◌≡◌}
use Rattle.genie_rows.proofs.tests.add_files.Given as goal

abbrev pub invariant-inputs : goal.invariant-inputs
invariant-inputs l = l.host.opened ≡ l.fn.host.opened

abbrev pub invariant-outputs : goal.invariant-outputs
invariant-outputs l = l.host.opened ≡ l.fn.host.opened
