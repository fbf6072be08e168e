use Rattle.std.proofs.Common.{◌≡◌, ◌++◌, take, drop}
use Rattle.genie_model.specs.State.{Orphan}
use Rattle.genie_model.specs.Tables.{put_in}
use Rattle.genie_tables.proofs.orphan.place_for.Given as goal

abbrev pub invariant-loop-i : goal.invariant-loop-i
invariant-loop-i l = (o : Orphan) → o.number ≡ l.number → take l.i l.orphans ++ put_in (λ (q : Orphan). q.number) o (drop l.i l.orphans) ≡ put_in (λ (q : Orphan). q.number) o l.orphans
