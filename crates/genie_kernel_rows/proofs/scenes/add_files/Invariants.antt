use Rattle.std.proofs.Common.{◌≡◌}
use Rattle.genie_kernel_rows.proofs.scenes.add_files.Given as goal

abbrev pub invariant-inputs : goal.invariant-inputs
invariant-inputs l = l.host.opened ≡ l.fn.host.opened

abbrev pub invariant-failing : goal.invariant-failing
invariant-failing l = l.host.opened ≡ l.fn.host.opened
