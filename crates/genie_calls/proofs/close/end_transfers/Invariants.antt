use Rattle.std.proofs.Common.{◌≡◌, ◌+◌, length}
use Rattle.genie_calls.specs.Closing.{IsLent, KeepsRest}
use Rattle.genie_calls.proofs.close.end_transfers.Given as goal

abbrev pub invariant-transfers : goal.invariant-transfers
invariant-transfers l = IsLent l.kernel × KeepsRest l.fn.kernel l.kernel × (length l.kernel.transfers + l._done ≡ l.pending)
