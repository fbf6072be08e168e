use Rattle.std.proofs.Common.{arith}
use Rattle.genie_object.specs.Touching.{is_entry}
use Rattle.genie_access.proofs.Pieces.{entry_read, moves_read, meter_room, most_work}
use Rattle.genie_object.specs.Lemmas.Works.{page_most}
use Rattle.genie_access.proofs.bytes.read_page.Goals as goal

pub read_run-requires-clause-meter : goal.read_run-requires-clause-meter
read_run-requires-clause-meter g c = meter_room _ _ _ _ c.args.n c.args.memory.now.frames.meters c.resolve_read.new.memory.frames.meters c.requires.meters c.resolve_read.ensures.meters (most_work _ c.args.memory.now.frames.page (page_most c.args.memory.now.frames.page c.requires.sound.shaped.size)) (omega (arith, c.requires.buffer))

pub returns-in-Ok-clause-moves : goal.returns-in-Ok-clause-moves
returns-in-Ok-clause-moves g c = moves_read (is_entry c.args.at.object.0 c.args.at.index) c.args.memory.now c.resolve_read.new.memory (g.S.Store.view c.args.store.now) (g.S.Store.view c.resolve_read.new.store) c.read_run.new.frames c.args.n c.read_run.ensures.frames c.in-Ok.ensures.moves

pub returns-in-Ok-clause-bytes : goal.returns-in-Ok-clause-bytes
returns-in-Ok-clause-bytes g c = entry_read c.args.memory.now c.resolve_read.new.memory (g.S.Store.view c.args.store.now) (g.S.Store.view c.resolve_read.new.store) c.args.at.object.0 c.args.at.index c.in-Ok.f.0 c.args.off c.args.n c.args.into.now c.read_run.new.into c.in-Ok.ensures.moves.seen c.in-Ok.ensures.framed c.read_run.ensures.bytes
