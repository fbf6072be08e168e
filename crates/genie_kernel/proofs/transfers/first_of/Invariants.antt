use Rattle.std.proofs.Common.{◌≡◌, ℕ, ◌<◌, false, get_or}
use Rattle.genie_kernel.specs.declared.transfer.Transfer.{Transfer}
use Rattle.genie_kernel.specs.Searches.{passes}
use Rattle.genie_kernel.proofs.transfers.first_of.Given as goal

abbrev pub invariant-each : goal.invariant-each
invariant-each l = (j : ℕ) (d : Transfer) → j < l.i → passes l.search (get_or l.transfers j d) ≡ false
