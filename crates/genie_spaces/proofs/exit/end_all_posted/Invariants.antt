use Rattle.std.proofs.Common.{◌≡◌, ◌+◌, ◌≤◌, length}
use Rattle.genie_spaces.specs.Exiting.{Exits}
use Rattle.genie_spaces.proofs.exit.end_all_posted.Given as goal

abbrev pub invariant-inputs : goal.invariant-inputs
invariant-inputs l = Exits l.pid l.fn.kernel l.kernel × (l.kernel.spaces ≡ l.fn.kernel.spaces) × (length l.kernel.transfers + l._done ≤ 64)
