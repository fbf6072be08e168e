use Rattle.genie_frame.specs.FrameTable.{FrameTable}
use Rattle.genie_access.proofs.Getting.{got_one, got_two}
use Rattle.std.proofs.Common.{arith, refl, ap, ◌≡◌, ◌∙◌, ◌/◌, ◌+◌, ◌-◌, ◌^◌, length, length-drop, drop, take}
use Rattle.genie_object.specs.Lemmas.Works.{below_more}
use Rattle.genie_access.proofs.Joined.{gets_one, moves_twice}
use Rattle.genie_access.proofs.Stored.{meter_put, meters_on, ready_there, taken_rest, taken_size, there_put, write_small, wrote_one, wrote_two}
use Rattle.genie_access.proofs.Copied.{copies_less, put_one, put_two, write_one, write_two}
use Rattle.genie_access.proofs.Rising.{rises_page, rises_put}
use Rattle.genie_kernel.specs.Lemmas.Rising.{rises_most, rises_twice}
use Rattle.genie_access.proofs.storing.write_range.Goals as goal

pub returns-then-first-n-clause-stored : goal.returns-then-first-n-clause-stored
returns-then-first-n-clause-stored g c = wrote_one c.args.memory.now c.resolve_write.new.memory (g.S.Store.view c.args.store.now) (g.S.Store.view c.resolve_write.new.store) c.args.object.0 c.args.off c.page-page.result (length c.args.bytes.now) c.min-first.result c.in-Ok.f c.args.bytes.now c.write.new.self (length c.args.bytes.now) c.page-page.ensures.size refl c.requires.some c.requires.most c.requires.inside (omega (arith, c.min-first.ensures)) (omega (arith, c.if-first-n.true)) (g.met.S.Store.paged c.resolve_write.new.store) c.in-Ok.ensures.moves c.in-Ok.ensures.ready c.write.ensures

pub resolve_write-requires-2-clause-meters : goal.resolve_write-requires-2-clause-meters
resolve_write-requires-2-clause-meters g c = below_more (2 ^ 63 + 2 ^ 20 + 8192) (2 ^ 64 - 2 ^ 20) c.resolve_write.new.memory.frames.meters (omega arith) (meters_on (2 ^ 63 + 2 ^ 20) _ _ c.args.memory.now.frames.meters c.resolve_write.new.memory.frames.meters c.requires.meters c.in-Ok.ensures.meters (write_small c.args.memory.now c.args.object.0 (c.args.off / c.page-page.result) c.requires.sound) (gets_one _))

pub returns-in-Err-resolve_write-clause-failed : goal.returns-in-Err-resolve_write-clause-failed
returns-in-Err-resolve_write-clause-failed g c = moves_twice c.args.object.0 (c.args.off / c.page-page.result) (c.args.off / c.page-page.result + 1) c.args.memory.now c.resolve_write.new.memory c.resolve_write-2.new.memory (g.S.Store.view c.args.store.now) (g.S.Store.view c.resolve_write.new.store) (g.S.Store.view c.resolve_write-2.new.store) c.in-Ok.ensures.moves c.in-Err-resolve_write.ensures.moves

pub write-requires-2-clause-there : goal.write-requires-2-clause-there
write-requires-2-clause-there g c =
    let there = ready_there c.resolve_write.new.memory c.args.object.0 (c.args.off / c.page-page.result) c.in-Ok.f c.in-Ok.ensures.moves.sound c.in-Ok.ensures.ready in
    omega (arith, there, c.in-Ok-resolve_write.ensures.moves.keeps.number)

pub write-requires-2-clause-meter : goal.write-requires-2-clause-meter
write-requires-2-clause-meter g c =
    let one = meters_on (2 ^ 63 + 2 ^ 20) _ _ c.args.memory.now.frames.meters c.resolve_write.new.memory.frames.meters c.requires.meters c.in-Ok.ensures.meters (write_small c.args.memory.now c.args.object.0 (c.args.off / c.page-page.result) c.requires.sound) (gets_one _) in
    let two = meters_on (2 ^ 63 + 2 ^ 20 + 8192) _ _ c.resolve_write.new.memory.frames.meters c.resolve_write-2.new.memory.frames.meters one c.in-Ok-resolve_write.ensures.meters (write_small c.resolve_write.new.memory c.args.object.0 (c.args.off / c.page-page.result + 1) c.in-Ok.ensures.moves.sound) (gets_one _) in
    let below = two.written in
    let size : length (take c.min-first.result c.args.bytes.now) ≡ c.min-first.result = taken_size c.min-first.result c.args.bytes.now (omega (arith, c.min-first.ensures)) in
    omega (arith, below, size, c.min-first.ensures, c.requires.short)

pub write-requires-3-clause-there : goal.write-requires-3-clause-there
write-requires-3-clause-there g c =
    let there = ready_there c.resolve_write-2.new.memory c.args.object.0 (c.args.off / c.page-page.result + 1) c.in-Ok-resolve_write.g c.in-Ok-resolve_write.ensures.moves.sound c.in-Ok-resolve_write.ensures.ready in
    let same : length c.write-2.new.self.owners ≡ length c.resolve_write-2.new.memory.frames.owners = there_put c.write-2.new.self c.resolve_write-2.new.memory.frames _ _ _ _ c.write-2.ensures in
    omega (arith, there, same)

pub write-requires-3-clause-meter : goal.write-requires-3-clause-meter
write-requires-3-clause-meter g c =
    let one = meters_on (2 ^ 63 + 2 ^ 20) _ _ c.args.memory.now.frames.meters c.resolve_write.new.memory.frames.meters c.requires.meters c.in-Ok.ensures.meters (write_small c.args.memory.now c.args.object.0 (c.args.off / c.page-page.result) c.requires.sound) (gets_one _) in
    let two = meters_on (2 ^ 63 + 2 ^ 20 + 8192) _ _ c.resolve_write.new.memory.frames.meters c.resolve_write-2.new.memory.frames.meters one c.in-Ok-resolve_write.ensures.meters (write_small c.resolve_write.new.memory c.args.object.0 (c.args.off / c.page-page.result + 1) c.in-Ok.ensures.moves.sound) (gets_one _) in
    let below = two.written in
    let size : length (take c.min-first.result c.args.bytes.now) ≡ c.min-first.result = taken_size c.min-first.result c.args.bytes.now (omega (arith, c.min-first.ensures)) in
    let first : c.write-2.new.self.meters.written ≡ c.resolve_write-2.new.memory.frames.meters.written + length (take c.min-first.result c.args.bytes.now) = meter_put c.write-2.new.self c.resolve_write-2.new.memory.frames _ _ _ _ c.write-2.ensures in
    let rest : length (take (length c.args.bytes.now - c.min-first.result) (drop c.min-first.result c.args.bytes.now)) ≡ length c.args.bytes.now - c.min-first.result = ap length (taken_rest c.min-first.result c.args.bytes.now) ∙ length-drop c.min-first.result c.args.bytes.now in
    omega (arith, below, size, first, rest, c.min-first.ensures, c.requires.short)

pub returns-clause-stored : goal.returns-clause-stored
returns-clause-stored g c = wrote_two c.args.memory.now c.resolve_write.new.memory c.resolve_write-2.new.memory (g.S.Store.view c.args.store.now) (g.S.Store.view c.resolve_write.new.store) (g.S.Store.view c.resolve_write-2.new.store) c.args.object.0 c.args.off c.page-page.result (length c.args.bytes.now) c.min-first.result c.in-Ok.f c.in-Ok-resolve_write.g c.args.bytes.now (take c.min-first.result c.args.bytes.now) (take (length c.args.bytes.now - c.min-first.result) (drop c.min-first.result c.args.bytes.now)) c.write-2.new.self c.write-3.new.self (length (take c.min-first.result c.args.bytes.now)) (length (take (length c.args.bytes.now - c.min-first.result) (drop c.min-first.result c.args.bytes.now))) c.page-page.ensures.size refl c.requires.some c.requires.most c.requires.inside (omega (arith, c.min-first.ensures, c.if-first-n.false)) (omega (arith, c.min-first.ensures, c.if-first-n.false)) (g.met.S.Store.paged c.resolve_write-2.new.store) c.in-Ok.ensures.moves c.in-Ok.ensures.ready c.in-Ok-resolve_write.ensures.moves c.in-Ok-resolve_write.ensures.ready refl (taken_rest c.min-first.result c.args.bytes.now) c.write-2.ensures c.write-3.ensures

pub returns-in-Err-clause-copies : goal.returns-in-Err-clause-copies
returns-in-Err-clause-copies g c = copies_less _ _ c.args.memory.now c.resolve_write.new.memory (omega arith) (write_one c.args.memory.now c.resolve_write.new.memory c.args.object.0 c.args.off (length c.args.bytes.now) c.page-page.result _ c.page-page.ensures.size c.requires.some c.in-Err.ensures.meters)

pub returns-then-first-n-clause-copies : goal.returns-then-first-n-clause-copies
returns-then-first-n-clause-copies g c = put_one _ (length c.args.bytes.now) c.args.memory.now c.resolve_write.new.memory c.write.new.self _ _ _ (write_one c.args.memory.now c.resolve_write.new.memory c.args.object.0 c.args.off (length c.args.bytes.now) c.page-page.result _ c.page-page.ensures.size c.requires.some c.in-Ok.ensures.meters) c.write.ensures

pub returns-in-Err-resolve_write-clause-copies : goal.returns-in-Err-resolve_write-clause-copies
returns-in-Err-resolve_write-clause-copies g c = copies_less _ _ c.args.memory.now c.resolve_write-2.new.memory (omega arith) (write_two c.args.memory.now c.resolve_write.new.memory c.resolve_write-2.new.memory c.args.object.0 c.args.off (length c.args.bytes.now) c.page-page.result _ _ c.page-page.ensures.size (omega (arith, c.requires.some, c.requires.most, c.page-page.ensures.size)) (omega (arith, c.min-first.ensures, c.if-first-n.false)) c.in-Ok.ensures.meters c.in-Ok.ensures.moves.costs c.in-Ok.ensures.moves.keeps.page c.in-Err-resolve_write.ensures.meters)

pub returns-clause-copies : goal.returns-clause-copies
returns-clause-copies g c =
    let size : length (take c.min-first.result c.args.bytes.now) ≡ c.min-first.result = taken_size c.min-first.result c.args.bytes.now (omega (arith, c.min-first.ensures)) in
    let rest : length (take (length c.args.bytes.now - c.min-first.result) (drop c.min-first.result c.args.bytes.now)) ≡ length c.args.bytes.now - c.min-first.result = ap length (taken_rest c.min-first.result c.args.bytes.now) ∙ length-drop c.min-first.result c.args.bytes.now in
    put_two _ (length (take c.min-first.result c.args.bytes.now)) (length (take (length c.args.bytes.now - c.min-first.result) (drop c.min-first.result c.args.bytes.now))) (length c.args.bytes.now) c.args.memory.now c.resolve_write-2.new.memory c.write-2.new.self c.write-3.new.self _ _ _ _ _ _ (omega (arith, size, rest, c.min-first.ensures)) (write_two c.args.memory.now c.resolve_write.new.memory c.resolve_write-2.new.memory c.args.object.0 c.args.off (length c.args.bytes.now) c.page-page.result _ _ c.page-page.ensures.size (omega (arith, c.requires.some, c.requires.most, c.page-page.ensures.size)) (omega (arith, c.min-first.ensures, c.if-first-n.false)) c.in-Ok.ensures.meters c.in-Ok.ensures.moves.costs c.in-Ok.ensures.moves.keeps.page c.in-Ok-resolve_write.ensures.meters) c.write-2.ensures c.write-3.ensures

pub returns-in-Err-clause-rises : goal.returns-in-Err-clause-rises
returns-in-Err-clause-rises g c = rises_most (2 ^ 14) (2 ^ 16) c.args.memory.now.frames c.resolve_write.new.memory.frames (omega arith) (rises_page _ _ c.args.memory.now.frames c.resolve_write.new.memory.frames c.in-Err.ensures.meters c.in-Err.ensures.moves.landed (let most = write_small c.args.memory.now c.args.object.0 (c.args.off / c.page-page.result) c.requires.sound in omega (arith, most)) (gets_one _))

pub returns-then-first-n-clause-rises : goal.returns-then-first-n-clause-rises
returns-then-first-n-clause-rises g c = rises_twice (2 ^ 14) (2 ^ 12) (2 ^ 16) c.args.memory.now.frames c.resolve_write.new.memory.frames c.write.new.self (omega arith) (rises_page _ _ c.args.memory.now.frames c.resolve_write.new.memory.frames c.in-Ok.ensures.meters c.in-Ok.ensures.moves.landed (let most = write_small c.args.memory.now c.args.object.0 (c.args.off / c.page-page.result) c.requires.sound in omega (arith, most)) (gets_one _)) (rises_put c.resolve_write.new.memory.frames c.write.new.self _ _ _ _ c.write.ensures (omega (arith, c.requires.short)))

pub returns-in-Err-resolve_write-clause-rises : goal.returns-in-Err-resolve_write-clause-rises
returns-in-Err-resolve_write-clause-rises g c = rises_twice (2 ^ 14) (2 ^ 14) (2 ^ 16) c.args.memory.now.frames c.resolve_write.new.memory.frames c.resolve_write-2.new.memory.frames (omega arith) (rises_page _ _ c.args.memory.now.frames c.resolve_write.new.memory.frames c.in-Ok.ensures.meters c.in-Ok.ensures.moves.landed (let most = write_small c.args.memory.now c.args.object.0 (c.args.off / c.page-page.result) c.requires.sound in omega (arith, most)) (gets_one _)) (rises_page _ _ c.resolve_write.new.memory.frames c.resolve_write-2.new.memory.frames c.in-Err-resolve_write.ensures.meters c.in-Err-resolve_write.ensures.moves.landed (let most = write_small c.resolve_write.new.memory c.args.object.0 (c.args.off / c.page-page.result + 1) c.in-Ok.ensures.moves.sound in omega (arith, most)) (gets_one _))

pub returns-clause-rises : goal.returns-clause-rises
returns-clause-rises g c =
    let size : length (take c.min-first.result c.args.bytes.now) ≡ c.min-first.result = taken_size c.min-first.result c.args.bytes.now (omega (arith, c.min-first.ensures)) in
    let rest : length (take (length c.args.bytes.now - c.min-first.result) (drop c.min-first.result c.args.bytes.now)) ≡ length c.args.bytes.now - c.min-first.result = ap length (taken_rest c.min-first.result c.args.bytes.now) ∙ length-drop c.min-first.result c.args.bytes.now in
    let ready = rises_twice (2 ^ 14) (2 ^ 14) (2 ^ 15) c.args.memory.now.frames c.resolve_write.new.memory.frames c.resolve_write-2.new.memory.frames (omega arith) (rises_page _ _ c.args.memory.now.frames c.resolve_write.new.memory.frames c.in-Ok.ensures.meters c.in-Ok.ensures.moves.landed (let most = write_small c.args.memory.now c.args.object.0 (c.args.off / c.page-page.result) c.requires.sound in omega (arith, most)) (gets_one _)) (rises_page _ _ c.resolve_write.new.memory.frames c.resolve_write-2.new.memory.frames c.in-Ok-resolve_write.ensures.meters c.in-Ok-resolve_write.ensures.moves.landed (let most = write_small c.resolve_write.new.memory c.args.object.0 (c.args.off / c.page-page.result + 1) c.in-Ok.ensures.moves.sound in omega (arith, most)) (gets_one _)) in
    let first = rises_put c.resolve_write-2.new.memory.frames c.write-2.new.self _ _ _ _ c.write-2.ensures (omega (arith, size, c.min-first.ensures, c.requires.short)) in
    let second = rises_put c.write-2.new.self c.write-3.new.self _ _ _ _ c.write-3.ensures (omega (arith, rest, c.requires.short)) in
    let stored = rises_twice (2 ^ 12) (2 ^ 12) (2 ^ 13) c.resolve_write-2.new.memory.frames c.write-2.new.self c.write-3.new.self (omega arith) first second in
    rises_twice (2 ^ 15) (2 ^ 13) (2 ^ 16) c.args.memory.now.frames c.resolve_write-2.new.memory.frames c.write-3.new.self (omega arith) ready stored

pub returns-in-Err-clause-gets : goal.returns-in-Err-clause-gets
returns-in-Err-clause-gets g c = got_one c.args.memory.now.frames.page c.args.off (length c.args.bytes.now) _ _ c.args.memory.now.frames.meters c.resolve_write.new.memory.frames.meters c.requires.some c.in-Err.ensures.meters (gets_one _)

pub returns-then-first-n-clause-gets : goal.returns-then-first-n-clause-gets
returns-then-first-n-clause-gets g c =
    let most = got_one c.args.memory.now.frames.page c.args.off (length c.args.bytes.now) _ _ c.args.memory.now.frames.meters c.resolve_write.new.memory.frames.meters c.requires.some c.in-Ok.ensures.meters (gets_one _) in
    let same : c.write.new.self.meters.gets ≡ c.resolve_write.new.memory.frames.meters.gets = ap (λ (t : FrameTable). t.meters.gets) c.write.ensures in
    omega (arith, most, same)

pub returns-in-Err-resolve_write-clause-gets : goal.returns-in-Err-resolve_write-clause-gets
returns-in-Err-resolve_write-clause-gets g c = got_two c.page-page.result c.args.memory.now.frames.page c.args.off (length c.args.bytes.now) _ _ _ _ c.args.memory.now.frames.meters c.resolve_write.new.memory.frames.meters c.resolve_write-2.new.memory.frames.meters c.page-page.ensures.size (omega (arith, c.requires.some, c.requires.most, c.page-page.ensures.size)) (omega (arith, c.min-first.ensures, c.if-first-n.false)) c.in-Ok.ensures.meters (gets_one _) c.in-Err-resolve_write.ensures.meters (gets_one _)

pub returns-clause-gets : goal.returns-clause-gets
returns-clause-gets g c =
    let most = got_two c.page-page.result c.args.memory.now.frames.page c.args.off (length c.args.bytes.now) _ _ _ _ c.args.memory.now.frames.meters c.resolve_write.new.memory.frames.meters c.resolve_write-2.new.memory.frames.meters c.page-page.ensures.size (omega (arith, c.requires.some, c.requires.most, c.page-page.ensures.size)) (omega (arith, c.min-first.ensures, c.if-first-n.false)) c.in-Ok.ensures.meters (gets_one _) c.in-Ok-resolve_write.ensures.meters (gets_one _) in
    let same : c.write-2.new.self.meters.gets ≡ c.resolve_write-2.new.memory.frames.meters.gets = ap (λ (t : FrameTable). t.meters.gets) c.write-2.ensures in
    let last : c.write-3.new.self.meters.gets ≡ c.write-2.new.self.meters.gets = ap (λ (t : FrameTable). t.meters.gets) c.write-3.ensures in
    omega (arith, most, same, last)
