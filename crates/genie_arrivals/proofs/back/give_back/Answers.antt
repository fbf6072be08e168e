use Rattle.std.proofs.Common.{List, subst, sym}
use Rattle.genie_frame.specs.declared.frame.InLoan.{InLoan}
use Rattle.genie_plan.specs.Loans.{AreOut, input_loans}
use Rattle.genie_plan.specs.Plans.{input_frames}
use Rattle.genie_kernel.specs.declared.transfer.Loans.{Loans}
use Rattle.genie_kernel.specs.Loans.{loans_of}
use Rattle.genie_arrivals.specs.Backing.{wires_of}
use Rattle.genie_arrivals.proofs.Lent.{nothing_back, out_unwired}
use Rattle.genie_arrivals.proofs.back.give_back.Goals as goal

pub end_inputs-requires : goal.end_inputs-requires
end_inputs-requires c =
    let out = subst (λ (l : Loans). AreOut c.args.frames.now (loans_of l)) c.in-Inward.is c.requires.out in
    out_unwired (wires_of c.args.transfer.now.sem (input_frames c.as_slice.result.now)) (input_loans c.as_slice-in-Inward.result.now) c.args.frames.now c.unwire.new.frames c.unwire.ensures (subst (λ (l : List InLoan). AreOut c.args.frames.now (input_loans l)) (sym c.as_slice-in-Inward.ensures.value) out)

pub returns-in-Nothing : goal.returns-in-Nothing
returns-in-Nothing c = nothing_back c.args.transfer.now c.args.frames.now c.in-Nothing.is
