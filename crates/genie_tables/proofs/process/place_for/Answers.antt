use Rattle.std.proofs.Common.{◌≡◌, ◌+◌, length, ap, sym, ◌∙◌, arith}
use Rattle.std.specs.Prelude.{nat_le, false}
use Rattle.genie_model.specs.State.{Region}
use Rattle.genie_model.specs.Regions.{extent_of}
use Rattle.genie_tables.proofs.Placed.{placed_here, placed_last}
use Rattle.genie_tables.proofs.process.place_for.Goals as goal

pub returns-then-not-ends_by-clause-place : goal.returns-then-not-ends_by-clause-place
returns-then-not-ends_by-clause-place c = λ r e.
    let d : Region = c.index-regions-i.result in
    let here : nat_le (d.start + d.pages) r.start ≡ false = ap (λ n. nat_le (d.start + d.pages) n) e ∙ sym c.ends_by.ensures ∙ c.if-not-ends_by.true in
    placed_here extent_of r c.args.regions.now c.loop-i.i d c.loop-i-test.true (c.loop-i.invariant r e) (ap (λ (q : Region). nat_le (q.start + q.pages) r.start) (sym c.index-regions-i.is) ∙ here)

pub returns-clause-place : goal.returns-clause-place
returns-clause-place c = λ r e.
    let end : c.loop-i.i ≡ length c.args.regions.now = omega arith in
    placed_last extent_of r c.args.regions.now (length c.args.regions.now) (omega arith) (rw end at (c.loop-i.invariant r e))
