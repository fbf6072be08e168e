use Rattle.genie_arrivals.proofs.PooledOwn.{OwnSoFar}
use Rattle.genie_arrivals.proofs.pooled_room.own_pages.Given as goal

abbrev pub invariant-pages : goal.invariant-pages
invariant-pages g l = OwnSoFar l.fn.memory l.memory (g.S.Store.view l.fn.store) (g.S.Store.view l.store) l.object.0 l.first l.k
