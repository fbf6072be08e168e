use Rattle.genie_plan.specs.Loans.{output_loans}
use Rattle.genie_tcow.proofs.CopiedPages.{CopiedSoFar}
use Rattle.genie_tcow.proofs.copied.copy_pages.Given as goal

abbrev pub invariant-each : goal.invariant-each
invariant-each g l = CopiedSoFar l.id.0 l.object.0 l.first l.place l.len (output_loans l.loans.items) l.i l.off l.left l.initial.memory l.memory (g.S.Store.view l.initial.store) (g.S.Store.view l.store)
