use Rattle.genie_access.proofs.Getting.{got_reached}
use Rattle.std.proofs.Common.{arith, ◌^◌, refl, length}
use Rattle.genie_access.proofs.Led.{led_inside}
use Rattle.genie_access.proofs.Wrote.{wrote_at, wrote_seen}
use Rattle.genie_access.proofs.Copied.{writes_bound}
use Rattle.genie_kernel.specs.Lemmas.Rising.{rises_most, rises_twice}
use Rattle.genie_access.proofs.writing.write_from.Goals as goal

pub write_range-requires-clause-inside : goal.write_range-requires-clause-inside
write_range-requires-clause-inside g c = led_inside c.args.kernel.now c.make_two.new.kernel.memory (g.S.Store.view c.args.store.now) (g.S.Store.view c.make_two.new.store) c.args.pid c.args.addr (length c.args.bytes.now) c.find_place-off.result.0 c.find_place-off.result.1 c.requires.good c.make_two.ensures.seen c.find_place-off.ensures

pub returns-in-Ok-write_range-clause-stored : goal.returns-in-Ok-write_range-clause-stored
returns-in-Ok-write_range-clause-stored g c = wrote_at c.args.kernel.now c.make_two.new.kernel.memory c.write_range.new.memory (g.S.Store.view c.args.store.now) (g.S.Store.view c.make_two.new.store) (g.S.Store.view c.write_range.new.store) c.args.pid c.args.addr (length c.args.bytes.now) c.args.bytes.now c.find_place-off.result.0 c.find_place-off.result.1 c.requires.good c.requires.accepted refl c.find_place-off.ensures c.make_two.ensures.seen c.in-Ok-write_range.ensures.stored

pub returns-in-Err-write_range-clause-failed : goal.returns-in-Err-write_range-clause-failed
returns-in-Err-write_range-clause-failed g c = wrote_seen c.args.kernel.now c.make_two.new.kernel.memory c.write_range.new.memory (g.S.Store.view c.args.store.now) (g.S.Store.view c.make_two.new.store) (g.S.Store.view c.write_range.new.store) c.args.pid c.args.addr c.args.bytes.now c.find_place-off.result.0 c.find_place-off.result.1 c.requires.good c.requires.accepted c.find_place-off.ensures c.make_two.ensures.seen c.in-Err-write_range.ensures.failed

pub returns-in-Ok-write_range-clause-copies : goal.returns-in-Ok-write_range-clause-copies
returns-in-Ok-write_range-clause-copies g c = writes_bound c.args.kernel.now c.make_two.new.kernel.memory c.write_range.new.memory c.args.pid c.args.addr c.args.bytes.now c.find_place-off.result.0 c.find_place-off.result.1 c.requires.good c.find_place-off.ensures c.make_two.ensures.costs c.make_two.ensures.copies c.write_range.ensures.copies

pub returns-in-Err-write_range-clause-copies : goal.returns-in-Err-write_range-clause-copies
returns-in-Err-write_range-clause-copies g c = writes_bound c.args.kernel.now c.make_two.new.kernel.memory c.write_range.new.memory c.args.pid c.args.addr c.args.bytes.now c.find_place-off.result.0 c.find_place-off.result.1 c.requires.good c.find_place-off.ensures c.make_two.ensures.costs c.make_two.ensures.copies c.write_range.ensures.copies

pub returns-in-Err-clause-rises : goal.returns-in-Err-clause-rises
returns-in-Err-clause-rises g c = rises_most (2 ^ 13) (2 ^ 36) c.args.kernel.now.memory.frames c.make_two.new.kernel.memory.frames (omega arith) c.make_two.ensures.rises

pub returns-in-Ok-write_range-clause-rises : goal.returns-in-Ok-write_range-clause-rises
returns-in-Ok-write_range-clause-rises g c = rises_twice (2 ^ 13) (2 ^ 16) (2 ^ 36) c.args.kernel.now.memory.frames c.make_two.new.kernel.memory.frames c.write_range.new.memory.frames (omega arith) c.make_two.ensures.rises c.write_range.ensures.rises

pub returns-in-Err-write_range-clause-rises : goal.returns-in-Err-write_range-clause-rises
returns-in-Err-write_range-clause-rises g c = rises_twice (2 ^ 13) (2 ^ 16) (2 ^ 36) c.args.kernel.now.memory.frames c.make_two.new.kernel.memory.frames c.write_range.new.memory.frames (omega arith) c.make_two.ensures.rises c.write_range.ensures.rises

pub returns-in-Err-clause-gets : goal.returns-in-Err-clause-gets
returns-in-Err-clause-gets g c = omega (arith, c.make_two.ensures.gets)

pub returns-in-Ok-write_range-clause-gets : goal.returns-in-Ok-write_range-clause-gets
returns-in-Ok-write_range-clause-gets g c = got_reached c.args.kernel.now c.make_two.new.kernel.memory c.write_range.new.memory c.args.pid c.args.addr (length c.args.bytes.now) c.find_place-off.result.0 c.find_place-off.result.1 c.requires.good c.find_place-off.ensures c.make_two.ensures.costs.page c.make_two.ensures.gets c.write_range.ensures.gets

pub returns-in-Err-write_range-clause-gets : goal.returns-in-Err-write_range-clause-gets
returns-in-Err-write_range-clause-gets g c = got_reached c.args.kernel.now c.make_two.new.kernel.memory c.write_range.new.memory c.args.pid c.args.addr (length c.args.bytes.now) c.find_place-off.result.0 c.find_place-off.result.1 c.requires.good c.find_place-off.ensures c.make_two.ensures.costs.page c.make_two.ensures.gets c.write_range.ensures.gets
