use Rattle.std.proofs.Common.{subst, sym, arith}
use Rattle.genie_kernel.specs.declared.transfer.Transfer.{Transfer}
use Rattle.genie_kernel.specs.Calls.{names_weakly}
use Rattle.genie_spaces.specs.Marks.{Marks}
use Rattle.genie_spaces.proofs.Marking.{marks_begin, marks_next, marks_all}
use Rattle.genie_spaces.proofs.number.mark_transfers.Goals as goal

pub transfers-init : goal.transfers-init
transfers-init c = marks_begin names_weakly c.args.transfers.now c.args.marks.now

pub transfers-preserved : goal.transfers-preserved
transfers-preserved c =
    let t : Transfer = c.at.result.now in
    marks_next names_weakly c.args.transfers.now c.transfers.i t c.args.marks.now c.transfers.marks c.mark_named.new.marks (let size = c.len-i-end.ensures.number in omega (arith, size, c.transfers-test.true)) c.transfers.invariant (subst (λ (u : Transfer). Marks (λ n. names_weakly n u) c.transfers.marks c.mark_named.new.marks) (sym (c.at.ensures t)) c.mark_named.ensures)

pub returns : goal.returns
returns c = marks_all names_weakly c.args.transfers.now c.transfers.i c.args.marks.now c.transfers.marks (let size = c.len-i-end.ensures.number in omega (arith, size, c.transfers-test.false)) c.transfers.invariant
