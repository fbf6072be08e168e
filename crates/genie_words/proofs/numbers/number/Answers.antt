use Rattle.std.proofs.Common.{Some, decimal, ap, sym, ◌∙◌, rules}
use Rattle.genie_words.proofs.Decimals.{is_read, unread, differ}
use Rattle.genie_words.proofs.numbers.number.Goals as goal

pub returns-in-Err-clause-every : goal.returns-in-Err-clause-every
returns-in-Err-clause-every c n lt is = absurd (unread (Unit {0}) c.args.word.now n tt lt is c.in-Err.ensures.value.0)

pub returns-then-eq-clause-every : goal.returns-then-eq-clause-every
returns-then-eq-clause-every c n lt is = ap Some (is_read (Unit {0}) c.args.word.now n c.in-Ok.number lt is c.in-Ok.ensures.value.0)

pub returns-else-eq-clause-every : goal.returns-else-eq-clause-every
returns-else-eq-clause-every c n lt is =
    let same = is_read (Unit {0}) c.args.word.now n c.in-Ok.number lt is c.in-Ok.ensures.value.0 in
    absurd (differ c.format.result.now c.args.word.now (let e = c.eq.ensures in search rules) (c.format.ensures.text ∙ ap decimal same ∙ sym is))
