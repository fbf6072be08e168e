use Rattle.std.proofs.Common.{◌≡◌, get_or, true, sym, ◌∙◌, eq-eqb, arith}
use Rattle.genie_model.specs.State.{Transfer}
use Rattle.genie_model.specs.Pending.{is_numbered}
use Rattle.genie_tables.specs.Changes.{turn_of}
use Rattle.genie_tables.proofs.FirstPassing.{passed_changed, passed_unchanged}
use Rattle.genie_tables.specs.Lemmas.Succeeding.{on_ok}
use Rattle.genie_tables.proofs.transfers.turn_first.Goals as goal

pub returns-then-number : goal.returns-then-number
returns-then-number c =
    let d : Transfer = c.index-transfers-i.result in
    let same = c.loop-i.invariant.same in
    let number : (get_or c.args.transfers.now c.loop-i.i d).number ≡ c.args.number = rw same at (sym c.number.ensures ∙ c.if-number.true) in
    let here : is_numbered c.args.number (get_or c.args.transfers.now c.loop-i.i d) ≡ true = eq-eqb (get_or c.args.transfers.now c.loop-i.i d).number c.args.number number in
    on_ok c.turn.result (λ made.
    let turned : c.turn.new.self ≡ turn_of c.args.turn.now (get_or c.args.transfers.now c.loop-i.i d) = rw same at made in
    rw (same, turned) (passed_changed (is_numbered c.args.number) c.args.transfers.now c.loop-i.i d (omega arith) c.loop-i.invariant.passed here (turn_of c.args.turn.now)))
    c.turn.ensures

pub returns : goal.returns
returns c = rw c.loop-i.invariant.same (passed_unchanged (is_numbered c.args.number) (turn_of c.args.turn.now) c.args.transfers.now c.loop-i.i (omega arith) c.loop-i.invariant.passed)
