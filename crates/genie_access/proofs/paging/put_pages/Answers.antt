use Rattle.genie_access.proofs.Alike.{room_seen}
use Rattle.std.proofs.Common.{arith, ◌^◌}
use Rattle.genie_kernel.specs.Lemmas.Rising.{rises_moved}
use Rattle.genie_access.proofs.paging.put_pages.Goals as goal

pub returns-in-Ok-clause-seen : goal.returns-in-Ok-clause-seen
returns-in-Ok-clause-seen g c = room_seen c.args.kernel.now c.pageout.new.memory (g.S.Store.view c.args.store.now) (g.S.Store.view c.pageout.new.store) c.requires.good c.requires.sized c.pageout.ensures.room

pub returns-in-Err-clause-seen : goal.returns-in-Err-clause-seen
returns-in-Err-clause-seen g c = room_seen c.args.kernel.now c.pageout.new.memory (g.S.Store.view c.args.store.now) (g.S.Store.view c.pageout.new.store) c.requires.good c.requires.sized c.pageout.ensures.room

pub returns-in-Ok-clause-rises : goal.returns-in-Ok-clause-rises
returns-in-Ok-clause-rises g c = rises_moved 0 0 8192 0 (2 ^ 36) c.args.kernel.now.memory.frames c.pageout.new.memory.frames c.pageout.ensures.meters c.pageout.ensures.room.landed (omega arith)

pub returns-in-Err-clause-rises : goal.returns-in-Err-clause-rises
returns-in-Err-clause-rises g c = rises_moved 0 0 8192 0 (2 ^ 36) c.args.kernel.now.memory.frames c.pageout.new.memory.frames c.pageout.ensures.meters c.pageout.ensures.room.landed (omega arith)

pub returns-in-Ok-clause-gets : goal.returns-in-Ok-clause-gets
returns-in-Ok-clause-gets g c = omega (arith, c.pageout.ensures.meters.gets, c.pageout.ensures.meters.most_gets)

pub returns-in-Err-clause-gets : goal.returns-in-Err-clause-gets
returns-in-Err-clause-gets g c = omega (arith, c.pageout.ensures.meters.gets, c.pageout.ensures.meters.most_gets)
