use Rattle.genie_plan.specs.Loans.{input_loan}
use Rattle.genie_plan.specs.Lemmas.Ending.{ending_none, loan_out, loan_more, loan_last}
use Rattle.genie_plan.proofs.give_back.end_inputs.Goals as goal

pub each-init : goal.each-init
each-init c = ending_none _ _ c.len.ensures.shaped c.requires

pub end_input-requires : goal.end_input-requires
end_input-requires c = loan_out input_loan c.args.loans.now c.args.frames.now c.each.frames c.each.loan-index _ c.each.invariant c.each-test.true

pub each-preserved : goal.each-preserved
each-preserved c = loan_more input_loan c.args.loans.now c.args.frames.now c.each.frames c.each.loan-index _ c.each.invariant c.each-test.true c.end_input.new.frames c.end_input.ensures

pub returns : goal.returns
returns c = loan_last input_loan c.args.loans.now c.args.frames.now c.each.frames c.each.loan-index c.len.ensures.shaped c.requires c.each-test.false c.each.invariant
