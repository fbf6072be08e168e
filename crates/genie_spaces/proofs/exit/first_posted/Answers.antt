use Rattle.std.proofs.Common.{arith, subst, sym, refl}
use Rattle.genie_kernel.specs.declared.transfer.Transfer.{Transfer}
use Rattle.genie_kernel.specs.Lemmas.Searching.{none_passes}
use Rattle.genie_model.specs.Lemmas.Lists.{Has, has_at}
use Rattle.genie_spaces.specs.Exiting.{is_posted_by}
use Rattle.genie_spaces.proofs.exit.first_posted.Goals as goal

pub returns-then-is_posted_by-clause-found : goal.returns-then-is_posted_by-clause-found
returns-then-is_posted_by-clause-found c =
    let t : Transfer = c.at-transfer.result.now in
    let below = c.each-test.true in
    let number = c.len-i-end.ensures.number in
    record {
      transfer = t;
      there = subst (λ (u : Transfer). Has u c.args.transfers.now) (c.at-transfer.ensures t) (has_at c.args.transfers.now c.each.i t (omega (arith, below, number)));
      posted = sym c.if-is_posted_by.ensures;
      number = refl;
    }

pub returns-clause-none : goal.returns-clause-none
returns-clause-none c = λ e.
    let past = c.each-test.false in
    let number = c.len-i-end.ensures.number in
    none_passes (is_posted_by c.args.pid) c.args.transfers.now c.each.i (omega (arith, past, number)) c.each.invariant
