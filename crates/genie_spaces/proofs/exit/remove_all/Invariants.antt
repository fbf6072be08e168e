use Rattle.std.proofs.Common.{◌≡◌, ◌+◌, ◌≤◌, length}
use Rattle.genie_space.specs.Spaces.{regions_of}
use Rattle.genie_spaces.specs.Exiting.{Exits}
use Rattle.genie_spaces.proofs.exit.remove_all.Given as goal

abbrev pub invariant-regions : goal.invariant-regions
invariant-regions l = Exits l.pid l.fn.kernel l.kernel × (l.kernel.transfers ≡ l.fn.kernel.transfers) × (length (regions_of l.pid l.kernel.spaces) + l._done ≤ 32)
