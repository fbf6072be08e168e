use Rattle.std.proofs.Common.{arith}
use Rattle.genie_finish.proofs.Readying.{ready_none, ready_one, ready_private}
use Rattle.genie_finish.proofs.ready.ready_page.Goals as goal

pub returns-then-n-page-clause-ready : goal.returns-then-n-page-clause-ready
returns-then-n-page-clause-ready g c = ready_none c.args.memory.now (g.S.Store.view c.args.store.now) c.args.at.object.0 c.args.at.index 1 _ c.requires.sound c.requires.sized

pub returns-in-Ok-clause-ready : goal.returns-in-Ok-clause-ready
returns-in-Ok-clause-ready g c =
    let e = c.resolve_write.ensures in
    ready_one c.args.memory.now c.resolve_write.new.memory (g.S.Store.view c.args.store.now) (g.S.Store.view c.resolve_write.new.store) c.args.at.object.0 c.args.at.index c.args.n (omega (arith, c.if-n-page.false, c.page.ensures.size)) e.moves e.takes e.meters

pub returns-in-Err-clause-ready : goal.returns-in-Err-clause-ready
returns-in-Err-clause-ready g c =
    let e = c.resolve_write.ensures in
    ready_one c.args.memory.now c.resolve_write.new.memory (g.S.Store.view c.args.store.now) (g.S.Store.view c.resolve_write.new.store) c.args.at.object.0 c.args.at.index c.args.n (omega (arith, c.if-n-page.false, c.page.ensures.size)) e.moves e.takes e.meters

pub returns-in-Ok-clause-own : goal.returns-in-Ok-clause-own
returns-in-Ok-clause-own g c l = ready_private c.resolve_write.new.memory c.args.at.object.0 c.args.at.index _ c.in-Ok.ensures.ready
