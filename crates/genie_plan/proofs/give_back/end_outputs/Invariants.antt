use Rattle.genie_plan.specs.Loans.{output_loans}
use Rattle.genie_plan.specs.Lemmas.Ending.{Ending}
use Rattle.genie_plan.proofs.give_back.end_outputs.Given as goal

abbrev pub invariant-each : goal.invariant-each
invariant-each l = Ending (output_loans l.loans) l.initial.frames l.frames l.loan-index
