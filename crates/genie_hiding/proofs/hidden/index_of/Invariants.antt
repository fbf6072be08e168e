use Rattle.std.proofs.Common.{◌≡◌, ℕ, ◌<◌, false}
use Rattle.genie_object.specs.Objects.{entry_at, names}
use Rattle.genie_hiding.proofs.hidden.index_of.Given as goal

abbrev pub invariant-loop-index : goal.invariant-loop-index
invariant-loop-index l = (j : ℕ) → j < l.index → names l.page.0 (entry_at l.objects l.object.0 j) ≡ false
