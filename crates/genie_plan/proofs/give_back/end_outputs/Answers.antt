use Rattle.genie_plan.specs.Loans.{output_loan}
use Rattle.genie_plan.specs.Lemmas.Ending.{ending_none, output_out, loan_more, loan_last}
use Rattle.genie_plan.proofs.give_back.end_outputs.Goals as goal

pub each-init : goal.each-init
each-init c = ending_none _ _ c.len.ensures.shaped c.requires

pub end_output-requires : goal.end_output-requires
end_output-requires c = output_out c.args.loans.now c.args.frames.now c.each.frames c.each.loan-index _ c.each.invariant c.each-test.true

pub each-preserved : goal.each-preserved
each-preserved c = loan_more output_loan c.args.loans.now c.args.frames.now c.each.frames c.each.loan-index _ c.each.invariant c.each-test.true c.end_output.new.frames c.end_output.ensures

pub returns : goal.returns
returns c = loan_last output_loan c.args.loans.now c.args.frames.now c.each.frames c.each.loan-index c.len.ensures.shaped c.requires c.each-test.false c.each.invariant
