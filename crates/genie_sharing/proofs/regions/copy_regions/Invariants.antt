use Rattle.genie_sharing.proofs.EachRegion.{AreCopying}
use Rattle.genie_sharing.proofs.regions.copy_regions.Given as goal

abbrev pub invariant-copies : goal.invariant-copies
invariant-copies g l = AreCopying l.fn.hidden l.hidden l.regions l.copies l.i l.fn.memory l.memory (g.S.Store.view l.fn.store) (g.S.Store.view l.store)
