use Rattle.std.proofs.Common.{◌≡◌, ◌≤◌, ℕ, false, length}
use Rattle.genie_hiding.specs.Queues.{is_in}
use Rattle.genie_hiding.proofs.weak_queue.tests.push_all.Given as goal

abbrev pub invariant-loop-id : goal.invariant-loop-id
invariant-loop-id l = (length l.queue ≡ l.id) × ((id : ℕ) → l.id ≤ id → is_in id l.queue ≡ false)
