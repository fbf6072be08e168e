use Rattle.genie_plan.specs.Loans.{input_loans}
use Rattle.genie_plan.specs.Lemmas.Ending.{Ending}
use Rattle.genie_plan.proofs.give_back.end_inputs.Given as goal

abbrev pub invariant-each : goal.invariant-each
invariant-each l = Ending (input_loans l.loans) l.initial.frames l.frames l.loan-index
