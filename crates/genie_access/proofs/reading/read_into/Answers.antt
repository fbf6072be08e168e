use Rattle.genie_access.proofs.Getting.{got_reached}
use Rattle.std.proofs.Common.{arith, ◌^◌, subst, List, ℕ}
use Rattle.genie_kernel.specs.Lemmas.Keeping.{hidden_kept}
use Rattle.genie_access.specs.Reading.{ReadsObject}
use Rattle.genie_access.proofs.Led.{led_inside, led_outside, seen_on, reads_at}
use Rattle.genie_access.proofs.Copied.{reads_bound}
use Rattle.genie_kernel.specs.Lemmas.Rising.{rises_most, rises_twice}
use Rattle.genie_access.proofs.reading.read_into.Goals as goal

pub read_range-requires-clause-inside : goal.read_range-requires-clause-inside
read_range-requires-clause-inside g c = led_inside c.args.kernel.now c.make_two.new.kernel.memory (g.S.Store.view c.args.store.now) (g.S.Store.view c.make_two.new.store) c.args.pid c.args.addr c.args.len c.find_place-off.result.0 c.find_place-off.result.1 c.requires.good c.make_two.ensures.seen c.find_place-off.ensures

pub returns-in-Ok-read_range-clause-seen : goal.returns-in-Ok-read_range-clause-seen
returns-in-Ok-read_range-clause-seen g c = seen_on hidden_kept c.args.kernel.now c.make_two.new.kernel.memory c.read_range.new.memory (g.S.Store.view c.args.store.now) (g.S.Store.view c.make_two.new.store) (g.S.Store.view c.read_range.new.store) c.find_place-off.result.0.0 (led_outside c.args.kernel.now c.args.pid c.args.addr c.args.len c.find_place-off.result.0 c.find_place-off.result.1 c.requires.good c.find_place-off.ensures) c.make_two.ensures.seen c.read_range.ensures.moves c.read_range.ensures.narrow

pub returns-in-Err-read_range-clause-seen : goal.returns-in-Err-read_range-clause-seen
returns-in-Err-read_range-clause-seen g c = seen_on hidden_kept c.args.kernel.now c.make_two.new.kernel.memory c.read_range.new.memory (g.S.Store.view c.args.store.now) (g.S.Store.view c.make_two.new.store) (g.S.Store.view c.read_range.new.store) c.find_place-off.result.0.0 (led_outside c.args.kernel.now c.args.pid c.args.addr c.args.len c.find_place-off.result.0 c.find_place-off.result.1 c.requires.good c.find_place-off.ensures) c.make_two.ensures.seen c.read_range.ensures.moves c.read_range.ensures.narrow

pub returns-in-Ok-read_range-clause-bytes : goal.returns-in-Ok-read_range-clause-bytes
returns-in-Ok-read_range-clause-bytes g c = reads_at c.args.kernel.now c.make_two.new.kernel.memory (g.S.Store.view c.args.store.now) (g.S.Store.view c.make_two.new.store) c.args.pid c.args.addr c.args.len c.find_place-off.result.0 c.find_place-off.result.1 c.read_range.new.into c.requires.good c.make_two.ensures.seen c.find_place-off.ensures (subst (λ (z : List ℕ). ReadsObject c.make_two.new.kernel.memory (g.S.Store.view c.make_two.new.store) c.find_place-off.result.0.0 c.find_place-off.result.1 c.args.len z c.read_range.new.into) c.requires.empty c.in-Ok-read_range.ensures.bytes)

pub returns-in-Ok-read_range-clause-copies : goal.returns-in-Ok-read_range-clause-copies
returns-in-Ok-read_range-clause-copies g c = reads_bound c.args.kernel.now c.make_two.new.kernel.memory c.read_range.new.memory c.args.pid c.args.addr c.args.len c.find_place-off.result.0 c.find_place-off.result.1 c.requires.good c.find_place-off.ensures c.make_two.ensures.costs c.make_two.ensures.copies c.read_range.ensures.copies

pub returns-in-Err-read_range-clause-copies : goal.returns-in-Err-read_range-clause-copies
returns-in-Err-read_range-clause-copies g c = reads_bound c.args.kernel.now c.make_two.new.kernel.memory c.read_range.new.memory c.args.pid c.args.addr c.args.len c.find_place-off.result.0 c.find_place-off.result.1 c.requires.good c.find_place-off.ensures c.make_two.ensures.costs c.make_two.ensures.copies c.read_range.ensures.copies

pub returns-in-Err-clause-rises : goal.returns-in-Err-clause-rises
returns-in-Err-clause-rises g c = rises_most (2 ^ 13) (2 ^ 36) c.args.kernel.now.memory.frames c.make_two.new.kernel.memory.frames (omega arith) c.make_two.ensures.rises

pub returns-in-Ok-read_range-clause-rises : goal.returns-in-Ok-read_range-clause-rises
returns-in-Ok-read_range-clause-rises g c = rises_twice (2 ^ 13) (2 ^ 15) (2 ^ 36) c.args.kernel.now.memory.frames c.make_two.new.kernel.memory.frames c.read_range.new.memory.frames (omega arith) c.make_two.ensures.rises c.read_range.ensures.rises

pub returns-in-Err-read_range-clause-rises : goal.returns-in-Err-read_range-clause-rises
returns-in-Err-read_range-clause-rises g c = rises_twice (2 ^ 13) (2 ^ 15) (2 ^ 36) c.args.kernel.now.memory.frames c.make_two.new.kernel.memory.frames c.read_range.new.memory.frames (omega arith) c.make_two.ensures.rises c.read_range.ensures.rises

pub returns-in-Err-clause-gets : goal.returns-in-Err-clause-gets
returns-in-Err-clause-gets g c = omega (arith, c.make_two.ensures.gets)

pub returns-in-Ok-read_range-clause-gets : goal.returns-in-Ok-read_range-clause-gets
returns-in-Ok-read_range-clause-gets g c = got_reached c.args.kernel.now c.make_two.new.kernel.memory c.read_range.new.memory c.args.pid c.args.addr c.args.len c.find_place-off.result.0 c.find_place-off.result.1 c.requires.good c.find_place-off.ensures c.make_two.ensures.costs.page c.make_two.ensures.gets c.read_range.ensures.gets

pub returns-in-Err-read_range-clause-gets : goal.returns-in-Err-read_range-clause-gets
returns-in-Err-read_range-clause-gets g c = got_reached c.args.kernel.now c.make_two.new.kernel.memory c.read_range.new.memory c.args.pid c.args.addr c.args.len c.find_place-off.result.0 c.find_place-off.result.1 c.requires.good c.find_place-off.ensures c.make_two.ensures.costs.page c.make_two.ensures.gets c.read_range.ensures.gets
