use Rattle.genie_plan.specs.Loans.{Input, input_loans}
use Rattle.genie_object.specs.Touching.{is_in_range}
use Rattle.genie_input.specs.Lending.{LendsSoFar}
use Rattle.genie_input.proofs.lending.lend_pages.Given as goal

abbrev pub invariant-each : goal.invariant-each
invariant-each g l = LendsSoFar Input (is_in_range l.object.0 l.first l.n) l.object.0 l.first (input_loans l.loans.items) l.i l.initial.memory l.memory (g.S.Store.view l.initial.store) (g.S.Store.view l.store)
