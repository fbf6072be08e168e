use Rattle.genie_kernel_rows.specs.Runs.{IsReady}
use Rattle.genie_kernel_rows.proofs.stepping.play.Given as goal

abbrev pub invariant-lines : goal.invariant-lines
invariant-lines g l = IsReady l.kernel (g.H.Host.view l.host) (g.S.Store.view l.store)
