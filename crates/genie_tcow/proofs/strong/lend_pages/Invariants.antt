use Rattle.genie_plan.specs.Loans.{output_loans}
use Rattle.genie_object.specs.Touching.{is_in_range}
use Rattle.genie_tcow.proofs.LentStrongly.{LentStrongSoFar}
use Rattle.genie_tcow.proofs.strong.lend_pages.Given as goal

abbrev pub invariant-each : goal.invariant-each
invariant-each g l = LentStrongSoFar l.id.0 (is_in_range l.object.0 l.first l.n) l.object.0 l.first (output_loans l.loans.items) l.i l.initial.memory l.memory (g.S.Store.view l.initial.store) (g.S.Store.view l.store)
