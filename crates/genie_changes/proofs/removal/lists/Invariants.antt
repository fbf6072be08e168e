use Rattle.std.proofs.Common.{◌≡◌, ℕ, ◌<◌, false, get_or}
use Rattle.genie_hiding.specs.Queues.{is_number}
use Rattle.genie_changes.proofs.removal.lists.Given as goal

abbrev pub invariant-places : goal.invariant-places
invariant-places l = (j : ℕ) (d : ℕ) → j < l.i → is_number l.id.0 (get_or l.queue j d) ≡ false
