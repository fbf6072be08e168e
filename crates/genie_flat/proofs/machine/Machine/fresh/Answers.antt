use Rattle.std.proofs.Common.{◌≡◌, zero, suc, ◌-◌, true, false, sym, ◌∙◌, arith}
use Rattle.genie_model.specs.Regions.{is_used}
use Rattle.genie_model.specs.Lemmas.FreshNumbers.{fresh_begins, fresh_found, fresh_goes_on, fresh_ends}
use Rattle.genie_flat.proofs.machine.Machine.fresh.Goals as goal

pub loop-number-init : goal.loop-number-init
loop-number-init c = fresh_begins c.args.self.now

pub returns-then-not-is_used : goal.returns-then-not-is_used
returns-then-not-is_used c =
    let n = c.loop-number.number in
    let free : is_used c.args.self.now n ≡ false = sym c.is_used.ensures ∙ c.if-not-is_used.true in
    sym (fresh_found c.args.self.now (577 - n) n (omega arith) free) ∙ c.loop-number.invariant (577 - n) (omega arith)

pub loop-number-preserved : goal.loop-number-preserved
loop-number-preserved c = λ tries e.
    let n = c.loop-number.number in
    let used : is_used c.args.self.now n ≡ true = sym c.is_used.ensures ∙ c.if-not-is_used.false in
    sym (fresh_goes_on c.args.self.now tries n used) ∙ c.loop-number.invariant (suc tries) (omega arith)

pub returns : goal.returns
returns c =
    let end : c.loop-number.number ≡ 577 = omega arith in
    sym end ∙ sym (fresh_ends c.args.self.now c.loop-number.number) ∙ c.loop-number.invariant zero (omega arith)
