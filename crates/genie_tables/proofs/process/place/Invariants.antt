use Rattle.std.proofs.Common.{◌≡◌, ℕ, ◌<◌, ◌≤◌, false}
use Rattle.genie_base.specs.Regions.{is_free}
use Rattle.genie_model.specs.Regions.{extent_of}
use Rattle.genie_tables.proofs.process.place.Given as goal

abbrev pub invariant-loop-start : goal.invariant-loop-start
invariant-loop-start l = (t : ℕ) → 512 ≤ t → t < l.start → is_free extent_of t l.pages l.regions ≡ false
