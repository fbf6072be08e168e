use Rattle.genie_access.proofs.Getting.{got_one, got_two}
use Rattle.std.proofs.Common.{arith, ◌/◌, ◌+◌, ◌^◌}
use Rattle.genie_object.specs.Costs.{is_untouched}
use Rattle.genie_object.specs.Lemmas.Works.{page_most}
use Rattle.genie_access.proofs.Pieces.{most_work}
use Rattle.genie_access.proofs.Joined.{narrow_one, range_one, range_two, moves_twice, meters_left, gets_one, moves_object}
use Rattle.genie_access.proofs.Copied.{read_one, read_two}
use Rattle.genie_access.proofs.Rising.{rises_page}
use Rattle.genie_kernel.specs.Lemmas.Rising.{rises_most, rises_twice}
use Rattle.genie_access.proofs.ranges.read_range.Goals as goal

pub returns-then-first-n-clause-bytes : goal.returns-then-first-n-clause-bytes
returns-then-first-n-clause-bytes g c = range_one c.args.memory.now (g.S.Store.view c.args.store.now) c.args.object.0 c.args.off c.args.n c.page-page.result c.min-first.result c.args.into.now c.read_page.new.into c.requires.sound c.requires.sized.count c.requires.sized.page (g.met.S.Store.paged c.args.store.now) c.page-page.ensures.size c.requires.some c.requires.most c.requires.inside (omega (arith, c.min-first.ensures)) (omega (arith, c.if-first-n.true)) c.in-Ok.ensures.bytes

pub read_page-requires-2-clause-meters : goal.read_page-requires-2-clause-meters
read_page-requires-2-clause-meters g c = meters_left _ _ c.min-first.result c.args.memory.now.frames.meters c.read_page.new.memory.frames.meters c.requires.meters c.in-Ok.ensures.meters (most_work _ c.args.memory.now.frames.page (page_most c.args.memory.now.frames.page c.requires.sound.shaped.size)) (omega (arith, c.requires.buffer, c.min-first.ensures)) (gets_one _)

pub returns-in-Ok-read_page-clause-moves : goal.returns-in-Ok-read_page-clause-moves
returns-in-Ok-read_page-clause-moves g c = moves_twice c.args.object.0 (c.args.off / c.page-page.result) (c.args.off / c.page-page.result + 1) c.args.memory.now c.read_page.new.memory _ (g.S.Store.view c.args.store.now) (g.S.Store.view c.read_page.new.store) _ c.in-Ok.ensures.moves c.in-Ok-read_page.ensures.moves

pub returns-in-Err-read_page-clause-moves : goal.returns-in-Err-read_page-clause-moves
returns-in-Err-read_page-clause-moves g c = moves_twice c.args.object.0 (c.args.off / c.page-page.result) (c.args.off / c.page-page.result + 1) c.args.memory.now c.read_page.new.memory _ (g.S.Store.view c.args.store.now) (g.S.Store.view c.read_page.new.store) _ c.in-Ok.ensures.moves c.in-Err-read_page.ensures.moves

pub returns-in-Ok-read_page-clause-bytes : goal.returns-in-Ok-read_page-clause-bytes
returns-in-Ok-read_page-clause-bytes g c = range_two c.args.memory.now c.read_page.new.memory (g.S.Store.view c.args.store.now) (g.S.Store.view c.read_page.new.store) c.args.object.0 c.args.off c.args.n c.page-page.result c.min-first.result c.args.into.now c.read_page.new.into c.read_page-2.new.into c.requires.sound c.requires.sized.count c.requires.sized.page (g.met.S.Store.paged c.args.store.now) c.page-page.ensures.size c.requires.some c.requires.most c.requires.inside (omega (arith, c.min-first.ensures, c.if-first-n.false)) (omega (arith, c.min-first.ensures, c.if-first-n.false)) c.in-Ok.ensures.moves.seen c.in-Ok.ensures.bytes c.in-Ok-read_page.ensures.bytes

pub returns-in-Err-clause-narrow : goal.returns-in-Err-clause-narrow
returns-in-Err-clause-narrow g c = narrow_one c.args.object.0 (c.args.off / c.page-page.result) c.args.memory.now c.read_page.new.memory (g.S.Store.view c.args.store.now) (g.S.Store.view c.read_page.new.store) c.in-Err.ensures.moves c.in-Err.ensures.narrow

pub returns-then-first-n-clause-narrow : goal.returns-then-first-n-clause-narrow
returns-then-first-n-clause-narrow g c = narrow_one c.args.object.0 (c.args.off / c.page-page.result) c.args.memory.now c.read_page.new.memory (g.S.Store.view c.args.store.now) (g.S.Store.view c.read_page.new.store) c.in-Ok.ensures.moves c.in-Ok.ensures.narrow

pub returns-in-Ok-read_page-clause-narrow : goal.returns-in-Ok-read_page-clause-narrow
returns-in-Ok-read_page-clause-narrow g c = λ i h. narrow_one c.args.object.0 (c.args.off / c.page-page.result) c.args.memory.now c.read_page.new.memory (g.S.Store.view c.args.store.now) (g.S.Store.view c.read_page.new.store) c.in-Ok.ensures.moves c.in-Ok.ensures.narrow i (narrow_one c.args.object.0 (c.args.off / c.page-page.result + 1) c.read_page.new.memory c.read_page-2.new.memory (g.S.Store.view c.read_page.new.store) (g.S.Store.view c.read_page-2.new.store) c.in-Ok-read_page.ensures.moves c.in-Ok-read_page.ensures.narrow i h)

pub returns-in-Err-read_page-clause-narrow : goal.returns-in-Err-read_page-clause-narrow
returns-in-Err-read_page-clause-narrow g c = λ i h. narrow_one c.args.object.0 (c.args.off / c.page-page.result) c.args.memory.now c.read_page.new.memory (g.S.Store.view c.args.store.now) (g.S.Store.view c.read_page.new.store) c.in-Ok.ensures.moves c.in-Ok.ensures.narrow i (narrow_one c.args.object.0 (c.args.off / c.page-page.result + 1) c.read_page.new.memory c.read_page-2.new.memory (g.S.Store.view c.read_page.new.store) (g.S.Store.view c.read_page-2.new.store) c.in-Err-read_page.ensures.moves c.in-Err-read_page.ensures.narrow i h)

pub returns-in-Err-clause-copies : goal.returns-in-Err-clause-copies
returns-in-Err-clause-copies g c = read_one c.args.memory.now c.read_page.new.memory c.args.object.0 c.args.off c.args.n c.page-page.result c.min-first.result _ c.page-page.ensures.size c.requires.some (omega (arith, c.min-first.ensures)) c.in-Err.ensures.meters

pub returns-then-first-n-clause-moves : goal.returns-then-first-n-clause-moves
returns-then-first-n-clause-moves g c = moves_object c.args.object.0 (c.args.off / c.page-page.result) c.args.memory.now c.read_page.new.memory (g.S.Store.view c.args.store.now) (g.S.Store.view c.read_page.new.store) c.in-Ok.ensures.moves

pub returns-then-first-n-clause-copies : goal.returns-then-first-n-clause-copies
returns-then-first-n-clause-copies g c = read_one c.args.memory.now c.read_page.new.memory c.args.object.0 c.args.off c.args.n c.page-page.result c.min-first.result _ c.page-page.ensures.size c.requires.some (omega (arith, c.min-first.ensures)) c.in-Ok.ensures.meters

pub returns-in-Ok-read_page-clause-copies : goal.returns-in-Ok-read_page-clause-copies
returns-in-Ok-read_page-clause-copies g c = read_two c.args.memory.now c.read_page.new.memory c.read_page-2.new.memory c.args.object.0 c.args.off c.args.n c.page-page.result c.min-first.result _ _ c.page-page.ensures.size (omega (arith, c.requires.some, c.requires.most, c.page-page.ensures.size)) (omega (arith, c.min-first.ensures)) (omega (arith, c.min-first.ensures, c.if-first-n.false)) c.in-Ok.ensures.meters c.in-Ok.ensures.moves.costs c.in-Ok.ensures.moves.keeps.page c.in-Ok-read_page.ensures.meters

pub returns-in-Err-read_page-clause-copies : goal.returns-in-Err-read_page-clause-copies
returns-in-Err-read_page-clause-copies g c = read_two c.args.memory.now c.read_page.new.memory c.read_page-2.new.memory c.args.object.0 c.args.off c.args.n c.page-page.result c.min-first.result _ _ c.page-page.ensures.size (omega (arith, c.requires.some, c.requires.most, c.page-page.ensures.size)) (omega (arith, c.min-first.ensures)) (omega (arith, c.min-first.ensures, c.if-first-n.false)) c.in-Ok.ensures.meters c.in-Ok.ensures.moves.costs c.in-Ok.ensures.moves.keeps.page c.in-Err-read_page.ensures.meters

pub returns-in-Err-clause-rises : goal.returns-in-Err-clause-rises
returns-in-Err-clause-rises g c = rises_most (2 ^ 14) (2 ^ 15) c.args.memory.now.frames c.read_page.new.memory.frames (omega arith) (rises_page _ _ c.args.memory.now.frames c.read_page.new.memory.frames c.in-Err.ensures.meters c.in-Err.ensures.moves.landed (let most = most_work (is_untouched c.args.memory.now c.args.object.0 (c.args.off / c.page-page.result)) c.args.memory.now.frames.page (page_most c.args.memory.now.frames.page c.requires.sound.shaped.size) in omega (arith, most, c.requires.buffer, c.min-first.ensures)) (gets_one _))

pub returns-then-first-n-clause-rises : goal.returns-then-first-n-clause-rises
returns-then-first-n-clause-rises g c = rises_most (2 ^ 14) (2 ^ 15) c.args.memory.now.frames c.read_page.new.memory.frames (omega arith) (rises_page _ _ c.args.memory.now.frames c.read_page.new.memory.frames c.in-Ok.ensures.meters c.in-Ok.ensures.moves.landed (let most = most_work (is_untouched c.args.memory.now c.args.object.0 (c.args.off / c.page-page.result)) c.args.memory.now.frames.page (page_most c.args.memory.now.frames.page c.requires.sound.shaped.size) in omega (arith, most, c.requires.buffer, c.min-first.ensures)) (gets_one _))

pub returns-in-Ok-read_page-clause-rises : goal.returns-in-Ok-read_page-clause-rises
returns-in-Ok-read_page-clause-rises g c = rises_twice (2 ^ 14) (2 ^ 14) (2 ^ 15) c.args.memory.now.frames c.read_page.new.memory.frames c.read_page-2.new.memory.frames (omega arith) (rises_page _ _ c.args.memory.now.frames c.read_page.new.memory.frames c.in-Ok.ensures.meters c.in-Ok.ensures.moves.landed (let most = most_work (is_untouched c.args.memory.now c.args.object.0 (c.args.off / c.page-page.result)) c.args.memory.now.frames.page (page_most c.args.memory.now.frames.page c.requires.sound.shaped.size) in omega (arith, most, c.requires.buffer, c.min-first.ensures)) (gets_one _)) (rises_page _ _ c.read_page.new.memory.frames c.read_page-2.new.memory.frames c.in-Ok-read_page.ensures.meters c.in-Ok-read_page.ensures.moves.landed (let most = most_work (is_untouched c.read_page.new.memory c.args.object.0 (c.args.off / c.page-page.result + 1)) c.read_page.new.memory.frames.page (page_most c.read_page.new.memory.frames.page c.in-Ok.ensures.moves.sound.shaped.size) in omega (arith, most, c.requires.buffer)) (gets_one _))

pub returns-in-Err-read_page-clause-rises : goal.returns-in-Err-read_page-clause-rises
returns-in-Err-read_page-clause-rises g c = rises_twice (2 ^ 14) (2 ^ 14) (2 ^ 15) c.args.memory.now.frames c.read_page.new.memory.frames c.read_page-2.new.memory.frames (omega arith) (rises_page _ _ c.args.memory.now.frames c.read_page.new.memory.frames c.in-Ok.ensures.meters c.in-Ok.ensures.moves.landed (let most = most_work (is_untouched c.args.memory.now c.args.object.0 (c.args.off / c.page-page.result)) c.args.memory.now.frames.page (page_most c.args.memory.now.frames.page c.requires.sound.shaped.size) in omega (arith, most, c.requires.buffer, c.min-first.ensures)) (gets_one _)) (rises_page _ _ c.read_page.new.memory.frames c.read_page-2.new.memory.frames c.in-Err-read_page.ensures.meters c.in-Err-read_page.ensures.moves.landed (let most = most_work (is_untouched c.read_page.new.memory c.args.object.0 (c.args.off / c.page-page.result + 1)) c.read_page.new.memory.frames.page (page_most c.read_page.new.memory.frames.page c.in-Ok.ensures.moves.sound.shaped.size) in omega (arith, most, c.requires.buffer)) (gets_one _))

pub returns-in-Err-clause-gets : goal.returns-in-Err-clause-gets
returns-in-Err-clause-gets g c = got_one c.args.memory.now.frames.page c.args.off c.args.n _ _ c.args.memory.now.frames.meters c.read_page.new.memory.frames.meters c.requires.some c.in-Err.ensures.meters (gets_one _)

pub returns-then-first-n-clause-gets : goal.returns-then-first-n-clause-gets
returns-then-first-n-clause-gets g c = got_one c.args.memory.now.frames.page c.args.off c.args.n _ _ c.args.memory.now.frames.meters c.read_page.new.memory.frames.meters c.requires.some c.in-Ok.ensures.meters (gets_one _)

pub returns-in-Ok-read_page-clause-gets : goal.returns-in-Ok-read_page-clause-gets
returns-in-Ok-read_page-clause-gets g c = got_two c.page-page.result c.args.memory.now.frames.page c.args.off c.args.n _ _ _ _ c.args.memory.now.frames.meters c.read_page.new.memory.frames.meters c.read_page-2.new.memory.frames.meters c.page-page.ensures.size (omega (arith, c.requires.some, c.requires.most, c.page-page.ensures.size)) (omega (arith, c.min-first.ensures, c.if-first-n.false)) c.in-Ok.ensures.meters (gets_one _) c.in-Ok-read_page.ensures.meters (gets_one _)

pub returns-in-Err-read_page-clause-gets : goal.returns-in-Err-read_page-clause-gets
returns-in-Err-read_page-clause-gets g c = got_two c.page-page.result c.args.memory.now.frames.page c.args.off c.args.n _ _ _ _ c.args.memory.now.frames.meters c.read_page.new.memory.frames.meters c.read_page-2.new.memory.frames.meters c.page-page.ensures.size (omega (arith, c.requires.some, c.requires.most, c.page-page.ensures.size)) (omega (arith, c.min-first.ensures, c.if-first-n.false)) c.in-Ok.ensures.meters (gets_one _) c.in-Err-read_page.ensures.meters (gets_one _)
