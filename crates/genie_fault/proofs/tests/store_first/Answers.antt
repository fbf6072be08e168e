use Rattle.genie_object.specs.Lemmas.Lookup.{frame_known}
use Rattle.genie_fault.proofs.Benches.{bench_moved, bench_stored}
use Rattle.genie_fault.proofs.tests.store_first.Goals as goal

pub returns : goal.returns
returns g c =
    let y = c.resolve_write.ensures in
    let m = c.resolve_write.new.memory in
    let moved = bench_moved c.args.at.object.0 c.args.at.index c.args.left c.args.memory.now m _ _ c.requires.some c.requires.bench y.moves y.takes in
    let ready = c.in-Ok.ensures.ready in
    record { bench = bench_stored c.args.at.object.0 _ c.in-Ok.f c.args.bytes.now _ m c.write.new.self _ moved (frame_known m ready.number.0 c.in-Ok.f y.moves.sound ready.is_place) c.write.ensures }
