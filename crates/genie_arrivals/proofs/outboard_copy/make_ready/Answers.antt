use Rattle.std.proofs.Common.{◌≡◌, ◌*◌, ◌^◌, ◌≤◌, ℕ, refl, sym, subst, arith, ◌∙◌}
use Rattle.genie_base.specs.Counts.{span}
use Rattle.genie_hiding.specs.Rooms.{available}
use Rattle.genie_object.specs.Lemmas.Works.{page_most}
use Rattle.genie_kernel.specs.Lemmas.Rising.{rises_most}
use Rattle.genie_arrivals.proofs.LateAim.{late_aim, late_can, late_frames, late_most, late_moved, late_places, late_roomy, late_shows, late_within}
use Rattle.genie_arrivals.proofs.Readying.{ready_meters}
use Rattle.genie_arrivals.proofs.Rising.{rises_ready}
use Rattle.genie_arrivals.proofs.outboard_copy.make_ready.Goals as goal
use Rattle.genie_arrivals.proofs.Readying.{range_unhidden, ready_meters}
use Rattle.genie_arrivals.proofs.EarlyCostsHeld.{holds_no_more, holds_none_more_on}
use Rattle.genie_arrivals.proofs.EarlyCostsBound.{copies_more, ready_copies}
use Rattle.genie_hiding.specs.Hidden.{objects_of}

pub page_count-count-requires-clause-fits : goal.page_count-count-requires-clause-fits
page_count-count-requires-clause-fits g c =
    (late_roomy c.copy_laws.ensures c.args.kernel.now c.args.id.0 c.args.range.now c.requires.good (late_aim c.args.kernel.now c.args.id.0 c.args.range.now c.requires.pending c.requires.case c.requires.target)).fits

pub make_frames-requires-clause-frames : goal.make_frames-requires-clause-frames
make_frames-requires-clause-frames g c =
    let frames = late_frames c.copy_laws.ensures c.args.kernel.now c.args.id.0 c.args.range.now c.requires.good (late_aim c.args.kernel.now c.args.id.0 c.args.range.now c.requires.pending c.requires.case c.requires.target) c.pending_are_available.ensures in
    let page : c.get-page.result ≡ c.args.kernel.now.config.page = c.get-page.ensures.number ∙ c.page.ensures ∙ c.requires.good.spaced.page in
    let pages = subst (λ (z : ℕ). 2 * span z c.args.range.now.off c.args.range.now.len ≤ available c.args.kernel.now.memory.frames) (sym page) frames in
    omega (arith, pages, c.page_count-count.ensures.number)

pub ready_range-requires-clause-fits : goal.ready_range-requires-clause-fits
ready_range-requires-clause-fits g c =
    (late_roomy c.copy_laws.ensures c.args.kernel.now c.args.id.0 c.args.range.now c.requires.good (late_aim c.args.kernel.now c.args.id.0 c.args.range.now c.requires.pending c.requires.case c.requires.target)).fits

pub ready_range-requires-clause-within : goal.ready_range-requires-clause-within
ready_range-requires-clause-within g c =
    let k = c.make_frames.new.kernel in
    let good = c.make_frames.ensures.moved.good in
    let a = late_moved c.args.kernel.now k c.args.id.0 c.args.range.now _ _ c.make_frames.ensures.moved (late_aim c.args.kernel.now c.args.id.0 c.args.range.now c.requires.pending c.requires.case c.requires.target) in
    late_within c.copy_laws.ensures k c.args.id.0 c.args.range.now good a

pub ready_range-requires-clause-most : goal.ready_range-requires-clause-most
ready_range-requires-clause-most g c =
    let k = c.make_frames.new.kernel in
    let good = c.make_frames.ensures.moved.good in
    let a = late_moved c.args.kernel.now k c.args.id.0 c.args.range.now _ _ c.make_frames.ensures.moved (late_aim c.args.kernel.now c.args.id.0 c.args.range.now c.requires.pending c.requires.case c.requires.target) in
    late_most c.copy_laws.ensures k c.args.id.0 c.args.range.now good a

pub returns-in-Ok-ready_range-clause-moved : goal.returns-in-Ok-ready_range-clause-moved
returns-in-Ok-ready_range-clause-moved g c =
    let k = c.make_frames.new.kernel in
    let good = c.make_frames.ensures.moved.good in
    let a = late_moved c.args.kernel.now k c.args.id.0 c.args.range.now _ _ c.make_frames.ensures.moved (late_aim c.args.kernel.now c.args.id.0 c.args.range.now c.requires.pending c.requires.case c.requires.target) in
    let u = g.S.Store.view c.make_frames.new.store in
    let w = g.S.Store.view c.ready_range.new.store in
    c.copy_laws.ensures.on c.args.kernel.now k (record k { memory = c.ready_range.new.memory }) (g.S.Store.view c.args.store.now) u w c.make_frames.ensures.moved (c.copy_laws.ensures.calls k (record k { memory = c.ready_range.new.memory }) u w good refl (late_shows c.copy_laws.ensures k c.args.id.0 c.args.range.now good a c.ready_range.new.memory u w _ _ _ c.ready_range.ensures.ready))

pub returns-in-Err-ready_range-clause-moved : goal.returns-in-Err-ready_range-clause-moved
returns-in-Err-ready_range-clause-moved g c =
    let k = c.make_frames.new.kernel in
    let good = c.make_frames.ensures.moved.good in
    let a = late_moved c.args.kernel.now k c.args.id.0 c.args.range.now _ _ c.make_frames.ensures.moved (late_aim c.args.kernel.now c.args.id.0 c.args.range.now c.requires.pending c.requires.case c.requires.target) in
    let u = g.S.Store.view c.make_frames.new.store in
    let w = g.S.Store.view c.ready_range.new.store in
    c.copy_laws.ensures.on c.args.kernel.now k (record k { memory = c.ready_range.new.memory }) (g.S.Store.view c.args.store.now) u w c.make_frames.ensures.moved (c.copy_laws.ensures.calls k (record k { memory = c.ready_range.new.memory }) u w good refl (late_shows c.copy_laws.ensures k c.args.id.0 c.args.range.now good a c.ready_range.new.memory u w _ _ _ c.ready_range.ensures.ready))

pub returns-in-Ok-ready_range-clause-can : goal.returns-in-Ok-ready_range-clause-can
returns-in-Ok-ready_range-clause-can g c =
    let k = c.make_frames.new.kernel in
    let good = c.make_frames.ensures.moved.good in
    let a = late_moved c.args.kernel.now k c.args.id.0 c.args.range.now _ _ c.make_frames.ensures.moved (late_aim c.args.kernel.now c.args.id.0 c.args.range.now c.requires.pending c.requires.case c.requires.target) in
    let u = g.S.Store.view c.make_frames.new.store in
    let w = g.S.Store.view c.ready_range.new.store in
    let page : c.get-page.result ≡ k.memory.frames.page = c.get-page.ensures.number ∙ c.page.ensures ∙ c.requires.good.spaced.page ∙ (λ i. (sym c.make_frames.ensures.moved.only i).config.page) ∙ sym good.sized.page in
    let number : c.page_count-count.result ≡ span k.memory.frames.page c.args.range.now.off c.args.range.now.len = subst (λ (z : ℕ). c.page_count-count.result ≡ span z c.args.range.now.off c.args.range.now.len) page c.page_count-count.ensures.number in
    let most = late_most c.copy_laws.ensures k c.args.id.0 c.args.range.now good a in
    let after = ready_meters k.memory c.ready_range.new.memory.frames.meters c.args.range.now.object.0 _ _ c.args.range.now.len (span k.memory.frames.page c.args.range.now.off c.args.range.now.len) most (page_most k.memory.frames.page good.sound.shaped.size) c.make_frames.ensures.meters c.ready_range.ensures.ready.spends in
    λ few. late_can k.memory u w c.args.range.now few _ most (late_roomy c.copy_laws.ensures k c.args.id.0 c.args.range.now good a).fits (late_within c.copy_laws.ensures k c.args.id.0 c.args.range.now good a) (omega (arith, number, c.in-Ok.ensures.free)) (late_places c.copy_laws.ensures k c.args.id.0 c.args.range.now good a) c.make_frames.ensures.meters c.ready_range.new.memory c.ready_range.ensures.ready after (c.in-Ok-ready_range.ensures.can few)

pub returns-in-Ok-ready_range-clause-rises : goal.returns-in-Ok-ready_range-clause-rises
returns-in-Ok-ready_range-clause-rises g c =
    let k = c.make_frames.new.kernel in
    let good = c.make_frames.ensures.moved.good in
    let a = late_moved c.args.kernel.now k c.args.id.0 c.args.range.now _ _ c.make_frames.ensures.moved (late_aim c.args.kernel.now c.args.id.0 c.args.range.now c.requires.pending c.requires.case c.requires.target) in
    rises_ready c.args.kernel.now.memory.frames k.memory c.ready_range.new.memory c.args.range.now.object.0 _ _ c.args.range.now.len (span k.memory.frames.page c.args.range.now.off c.args.range.now.len) (page_most k.memory.frames.page good.sound.shaped.size) (late_most c.copy_laws.ensures k c.args.id.0 c.args.range.now good a) c.make_frames.ensures.rises c.ready_range.ensures.ready.spends c.ready_range.ensures.ready.moves.landed

pub returns-in-Err-ready_range-clause-rises : goal.returns-in-Err-ready_range-clause-rises
returns-in-Err-ready_range-clause-rises g c =
    let k = c.make_frames.new.kernel in
    let good = c.make_frames.ensures.moved.good in
    let a = late_moved c.args.kernel.now k c.args.id.0 c.args.range.now _ _ c.make_frames.ensures.moved (late_aim c.args.kernel.now c.args.id.0 c.args.range.now c.requires.pending c.requires.case c.requires.target) in
    rises_ready c.args.kernel.now.memory.frames k.memory c.ready_range.new.memory c.args.range.now.object.0 _ _ c.args.range.now.len (span k.memory.frames.page c.args.range.now.off c.args.range.now.len) (page_most k.memory.frames.page good.sound.shaped.size) (late_most c.copy_laws.ensures k c.args.id.0 c.args.range.now good a) c.make_frames.ensures.rises c.ready_range.ensures.ready.spends c.ready_range.ensures.ready.moves.landed

pub returns-in-Err-clause-rises : goal.returns-in-Err-clause-rises
returns-in-Err-clause-rises g c = rises_most (2 ^ 20) (2 ^ 22) c.args.kernel.now.memory.frames c.make_frames.new.kernel.memory.frames (omega arith) c.make_frames.ensures.rises

pub returns-in-Ok-ready_range-clause-copies : goal.returns-in-Ok-ready_range-clause-copies
returns-in-Ok-ready_range-clause-copies g c =
    let k = c.args.kernel.now in
    let a = late_aim k c.args.id.0 c.args.range.now c.requires.pending c.requires.case c.requires.target in
    let out = range_unhidden c.copy_laws.ensures k c.args.id.0 a.t c.args.range.now c.requires.good a.found a.is.class_is a.is.inward a.target in
    ready_copies (objects_of k.hidden) k.memory c.make_frames.new.kernel.memory c.ready_range.new.memory c.args.range.now.object.0 c.args.range.now.off c.args.range.now.len _ _ _ out c.make_frames.ensures.costs c.make_frames.ensures.copies c.ready_range.ensures.ready.spends

pub returns-in-Ok-ready_range-clause-held : goal.returns-in-Ok-ready_range-clause-held
returns-in-Ok-ready_range-clause-held g c =
    let mid = c.make_frames.new.kernel.memory in
    let moves = c.ready_range.ensures.ready.moves in
    holds_none_more_on c.args.kernel.now.memory mid c.ready_range.new.memory c.make_frames.ensures.held (holds_no_more mid c.ready_range.new.memory c.make_frames.ensures.moved.good.sound moves.sound moves.keeps moves.counts)

pub returns-in-Err-ready_range-clause-copies : goal.returns-in-Err-ready_range-clause-copies
returns-in-Err-ready_range-clause-copies g c =
    let k = c.args.kernel.now in
    let a = late_aim k c.args.id.0 c.args.range.now c.requires.pending c.requires.case c.requires.target in
    let out = range_unhidden c.copy_laws.ensures k c.args.id.0 a.t c.args.range.now c.requires.good a.found a.is.class_is a.is.inward a.target in
    ready_copies (objects_of k.hidden) k.memory c.make_frames.new.kernel.memory c.ready_range.new.memory c.args.range.now.object.0 c.args.range.now.off c.args.range.now.len _ _ _ out c.make_frames.ensures.costs c.make_frames.ensures.copies c.ready_range.ensures.ready.spends

pub returns-in-Err-ready_range-clause-held : goal.returns-in-Err-ready_range-clause-held
returns-in-Err-ready_range-clause-held g c =
    let mid = c.make_frames.new.kernel.memory in
    let moves = c.ready_range.ensures.ready.moves in
    holds_none_more_on c.args.kernel.now.memory mid c.ready_range.new.memory c.make_frames.ensures.held (holds_no_more mid c.ready_range.new.memory c.make_frames.ensures.moved.good.sound moves.sound moves.keeps moves.counts)

pub returns-in-Err-clause-copies : goal.returns-in-Err-clause-copies
returns-in-Err-clause-copies g c = copies_more 0 _ c.args.kernel.now.memory c.make_frames.new.kernel.memory (omega arith) c.make_frames.ensures.copies
