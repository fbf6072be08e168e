use Rattle.genie_access.proofs.Alike.{room_seen}
use Rattle.genie_copying.specs.Lemmas.Making.{room_no_dearer}
use Rattle.genie_hiding.specs.Hidden.{objects_of}
use Rattle.std.proofs.Common.{arith, ◌^◌}
use Rattle.genie_kernel.specs.Lemmas.Rising.{rises_moved}
use Rattle.genie_access.proofs.reading.make_two.Goals as goal

pub returns-in-Ok-clause-seen : goal.returns-in-Ok-clause-seen
returns-in-Ok-clause-seen g c = room_seen c.args.kernel.now c.make_room.new.memory (g.S.Store.view c.args.store.now) (g.S.Store.view c.make_room.new.store) c.requires.good c.requires.sized c.make_room.ensures.room

pub returns-in-Err-clause-seen : goal.returns-in-Err-clause-seen
returns-in-Err-clause-seen g c = room_seen c.args.kernel.now c.make_room.new.memory (g.S.Store.view c.args.store.now) (g.S.Store.view c.make_room.new.store) c.requires.good c.requires.sized c.make_room.ensures.room

pub returns-in-Ok-clause-costs : goal.returns-in-Ok-clause-costs
returns-in-Ok-clause-costs g c = room_no_dearer (objects_of c.args.kernel.now.hidden) c.args.kernel.now.memory c.make_room.new.memory (g.S.Store.view c.args.store.now) (g.S.Store.view c.make_room.new.store) c.requires.good.sound c.make_room.ensures.room

pub returns-in-Err-clause-costs : goal.returns-in-Err-clause-costs
returns-in-Err-clause-costs g c = room_no_dearer (objects_of c.args.kernel.now.hidden) c.args.kernel.now.memory c.make_room.new.memory (g.S.Store.view c.args.store.now) (g.S.Store.view c.make_room.new.store) c.requires.good.sound c.make_room.ensures.room

pub returns-in-Ok-clause-rises : goal.returns-in-Ok-clause-rises
returns-in-Ok-clause-rises g c = rises_moved 0 0 8192 0 (2 ^ 13) c.args.kernel.now.memory.frames c.make_room.new.memory.frames c.make_room.ensures.meters c.make_room.ensures.room.landed (omega arith)

pub returns-in-Err-clause-rises : goal.returns-in-Err-clause-rises
returns-in-Err-clause-rises g c = rises_moved 0 0 8192 0 (2 ^ 13) c.args.kernel.now.memory.frames c.make_room.new.memory.frames c.make_room.ensures.meters c.make_room.ensures.room.landed (omega arith)

pub returns-in-Ok-clause-gets : goal.returns-in-Ok-clause-gets
returns-in-Ok-clause-gets g c = omega (arith, c.make_room.ensures.meters.gets, c.make_room.ensures.meters.most_gets)

pub returns-in-Err-clause-gets : goal.returns-in-Err-clause-gets
returns-in-Err-clause-gets g c = omega (arith, c.make_room.ensures.meters.gets, c.make_room.ensures.meters.most_gets)
