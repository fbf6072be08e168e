use Rattle.genie_sharing.proofs.Looping.{IsCopying}
use Rattle.genie_sharing.proofs.copies.copy_object.Given as goal

abbrev pub invariant-entries : goal.invariant-entries
invariant-entries g l = IsCopying l.fn.hidden l.hidden l.from.0 l.to.0 l.index l.fn.memory l.memory (g.S.Store.view l.fn.store) (g.S.Store.view l.store)
