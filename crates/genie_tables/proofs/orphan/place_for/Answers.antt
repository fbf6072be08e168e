use Rattle.std.proofs.Common.{◌≡◌, ◌<◌, get_or, length, ap, arith}
use Rattle.genie_model.specs.State.{Orphan}
use Rattle.genie_tables.proofs.Placed.{put_here, put_last}
use Rattle.genie_tables.proofs.orphan.place_for.Goals as goal

pub returns-then-number-clause-place : goal.returns-then-number-clause-place
returns-then-number-clause-place c = λ o e.
    let d : Orphan = c.index-orphans-i.result in
    let is : d.number ≡ (get_or c.args.orphans.now c.loop-i.i d).number = ap (λ (q : Orphan). q.number) c.index-orphans-i.is in
    let below : o.number < (get_or c.args.orphans.now c.loop-i.i d).number = omega (arith, c.number.ensures) in
    put_here (λ (q : Orphan). q.number) o c.args.orphans.now c.loop-i.i d c.loop-i-test.true (c.loop-i.invariant o e) below

pub returns-clause-place : goal.returns-clause-place
returns-clause-place c = λ o e.
    let end : c.loop-i.i ≡ length c.args.orphans.now = omega arith in
    put_last (λ (q : Orphan). q.number) o c.args.orphans.now (length c.args.orphans.now) (omega arith) (rw end at (c.loop-i.invariant o e))
