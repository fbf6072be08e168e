use Rattle.std.proofs.Common.{◌≡◌, ℕ, ◌<◌, false, get_or}
use Rattle.genie_kernel.specs.declared.transfer.Transfer.{Transfer}
use Rattle.genie_spaces.specs.Exiting.{is_posted_by}
use Rattle.genie_spaces.proofs.exit.first_posted.Given as goal

abbrev pub invariant-each : goal.invariant-each
invariant-each l = (j : ℕ) (d : Transfer) → j < l.i → is_posted_by l.pid (get_or l.transfers j d) ≡ false
