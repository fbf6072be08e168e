use Rattle.std.proofs.Common.{◌+◌, ◌*◌, ◌-◌, ◌^◌, arith}
use Rattle.genie_object.specs.Lemmas.Works.{below_more}
use Rattle.genie_arrivals.proofs.PooledOwn.{own_more, own_next, own_none, own_wider}
use Rattle.genie_arrivals.proofs.pooled_room.own_pages.Goals as goal

pub pages-init : goal.pages-init
pages-init g c = own_none c.args.memory.now (g.S.Store.view c.args.store.now) c.args.object.0 c.args.first c.requires.sound c.requires.sized

pub resolve_write-requires-clause-meters : goal.resolve_write-requires-clause-meters
resolve_write-requires-clause-meters g c = below_more (2 ^ 63 + 2 ^ 20 + 8192 * c.pages.k) (2 ^ 64 - 2 ^ 20) c.pages.memory.frames.meters (omega (arith, c.pages-test.true, c.requires.most)) (c.pages.invariant.owns.rises.meters (2 ^ 63 + 2 ^ 20) c.requires.meters)

pub resolve_write-requires-clause-there : goal.resolve_write-requires-clause-there
resolve_write-requires-clause-there g c = omega (arith, c.pages-test.true, c.requires.within, c.pages.invariant.owns.moves.keeps.entries c.args.object.0)

pub pages-preserved : goal.pages-preserved
pages-preserved g c =
    let v = g.S.Store.view in
    let e = c.resolve_write.ensures in
    own_more c.args.memory.now c.pages.memory c.resolve_write.new.memory (v c.args.store.now) (v c.pages.store) (v c.resolve_write.new.store) c.args.object.0 c.args.first c.pages.k _ c.pages.invariant e.moves e.takes e.meters c.in-Ok.ensures.ready c.in-Ok.ensures.cause.kept

pub returns-in-Err-clause-owns : goal.returns-in-Err-clause-owns
returns-in-Err-clause-owns g c =
    let v = g.S.Store.view in
    let e = c.resolve_write.ensures in
    own_wider c.args.memory.now c.resolve_write.new.memory (v c.args.store.now) (v c.resolve_write.new.store) c.args.object.0 c.args.first (c.pages.k + 1) c.args.count (omega (arith, c.pages-test.true)) (own_next c.args.memory.now c.pages.memory c.resolve_write.new.memory (v c.args.store.now) (v c.pages.store) (v c.resolve_write.new.store) c.args.object.0 c.args.first c.pages.k c.pages.invariant.owns e.moves e.takes e.meters)

pub returns-clause-owns : goal.returns-clause-owns
returns-clause-owns g c = own_wider c.args.memory.now c.pages.memory (g.S.Store.view c.args.store.now) (g.S.Store.view c.pages.store) c.args.object.0 c.args.first c.pages.k c.args.count (omega (arith, c.pages.auto.k-end)) c.pages.invariant.owns

pub returns-clause-own : goal.returns-clause-own
returns-clause-own g c j l = c.pages.invariant.own j (omega (arith, l, c.pages-test.false))
