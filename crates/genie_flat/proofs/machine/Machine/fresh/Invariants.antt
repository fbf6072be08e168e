use Rattle.std.proofs.Common.{◌≡◌, ℕ, ◌+◌}
use Rattle.genie_model.specs.Regions.{least_unused, fresh}
use Rattle.genie_flat.proofs.machine.Machine.fresh.Given as goal

abbrev pub invariant-loop-number : goal.invariant-loop-number
invariant-loop-number l = (tries : ℕ) → tries + l.number ≡ 577 → least_unused l.self tries l.number ≡ fresh l.self
