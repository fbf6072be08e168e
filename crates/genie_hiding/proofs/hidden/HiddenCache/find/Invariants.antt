use Rattle.std.proofs.Common.{◌≡◌, ℕ, ◌<◌, get_or}
use Rattle.std.specs.Prelude.{count_by}
use Rattle.genie_object.specs.Objects.{object_at, names}
use Rattle.genie_hiding.specs.Hidden.{objects_of}
use Rattle.genie_hiding.proofs.hidden.HiddenCache.find.Given as goal

abbrev pub invariant-loop-k : goal.invariant-loop-k
invariant-loop-k l = (j : ℕ) → j < l.k → count_by (names l.page.0) (object_at l.objects (get_or (objects_of l.self) j 0)) ≡ 0
