use Rattle.std.proofs.Common.{◌≡◌, ◌/◌, ◌+◌, ◌^◌, ◌≤◌, ℕ, length, refl, sym, subst, arith, ◌∙◌}
use Rattle.genie_base.specs.Counts.{span}
use Rattle.genie_hiding.specs.Rooms.{available}
use Rattle.genie_object.specs.Objects.{object_at}
use Rattle.genie_object.specs.Lemmas.Works.{page_most}
use Rattle.genie_kernel.specs.Lemmas.Rising.{rises_most}
use Rattle.genie_arrivals.proofs.Readying.{aim, aim_moved, aim_roomy, aim_shows, range_unhidden, ready_meters}
use Rattle.genie_arrivals.proofs.Rising.{rises_ready}
use Rattle.genie_arrivals.proofs.EarlyCostsHeld.{holds_no_more, holds_none_more_on}
use Rattle.genie_arrivals.proofs.EarlyCostsBound.{copies_more, ready_copies}
use Rattle.genie_hiding.specs.Hidden.{objects_of}
use Rattle.genie_arrivals.proofs.copy.make_ready.Goals as goal

pub page_count-requires-clause-fits : goal.page_count-requires-clause-fits
page_count-requires-clause-fits g c = (aim_roomy c.copy_laws.ensures c.args.kernel.now c.args.id.0 c.args.range.now c.requires.good (aim c.args.kernel.now c.args.id.0 c.args.range.now c.requires.pending c.requires.case c.requires.target)).fits

pub make_frames-requires-clause-frames : goal.make_frames-requires-clause-frames
make_frames-requires-clause-frames g c =
    let roomy = aim_roomy c.copy_laws.ensures c.args.kernel.now c.args.id.0 c.args.range.now c.requires.good (aim c.args.kernel.now c.args.id.0 c.args.range.now c.requires.pending c.requires.case c.requires.target) in
    let page : c.get-page.result ≡ c.args.kernel.now.config.page = c.get-page.ensures.number ∙ c.page.ensures ∙ c.requires.good.spaced.page in
    let pages = subst (λ (z : ℕ). span z c.args.range.now.off c.args.range.now.len ≤ available c.args.kernel.now.memory.frames) (sym page) roomy.frames in
    omega (arith, pages, c.page_count.ensures.number)

pub ready_range-requires-clause-fits : goal.ready_range-requires-clause-fits
ready_range-requires-clause-fits g c = (aim_roomy c.copy_laws.ensures c.args.kernel.now c.args.id.0 c.args.range.now c.requires.good (aim c.args.kernel.now c.args.id.0 c.args.range.now c.requires.pending c.requires.case c.requires.target)).fits

pub ready_range-requires-clause-within : goal.ready_range-requires-clause-within
ready_range-requires-clause-within g c =
    let k = c.make_frames.new.kernel in
    let good = c.make_frames.ensures.moved.good in
    let a = aim_moved c.args.kernel.now k c.args.id.0 c.args.range.now _ _ c.make_frames.ensures.moved (aim c.args.kernel.now c.args.id.0 c.args.range.now c.requires.pending c.requires.case c.requires.target) in
    subst (λ (z : ℕ). c.args.range.now.off / z + span z c.args.range.now.off c.args.range.now.len ≤ length (object_at k.memory.objects c.args.range.now.object.0)) (sym good.sized.page) (aim_roomy c.copy_laws.ensures k c.args.id.0 c.args.range.now good a).within

pub ready_range-requires-clause-most : goal.ready_range-requires-clause-most
ready_range-requires-clause-most g c =
    let k = c.make_frames.new.kernel in
    let good = c.make_frames.ensures.moved.good in
    let a = aim_moved c.args.kernel.now k c.args.id.0 c.args.range.now _ _ c.make_frames.ensures.moved (aim c.args.kernel.now c.args.id.0 c.args.range.now c.requires.pending c.requires.case c.requires.target) in
    subst (λ (z : ℕ). span z c.args.range.now.off c.args.range.now.len ≤ 65) (sym good.sized.page) (aim_roomy c.copy_laws.ensures k c.args.id.0 c.args.range.now good a).most

pub returns-in-Ok-ready_range-clause-moved : goal.returns-in-Ok-ready_range-clause-moved
returns-in-Ok-ready_range-clause-moved g c =
    let k = c.make_frames.new.kernel in
    let good = c.make_frames.ensures.moved.good in
    let a = aim_moved c.args.kernel.now k c.args.id.0 c.args.range.now _ _ c.make_frames.ensures.moved (aim c.args.kernel.now c.args.id.0 c.args.range.now c.requires.pending c.requires.case c.requires.target) in
    let u = g.S.Store.view c.make_frames.new.store in
    let w = g.S.Store.view c.ready_range.new.store in
    c.copy_laws.ensures.on c.args.kernel.now k (record k { memory = c.ready_range.new.memory }) (g.S.Store.view c.args.store.now) u w c.make_frames.ensures.moved (c.copy_laws.ensures.calls k (record k { memory = c.ready_range.new.memory }) u w good refl (aim_shows c.copy_laws.ensures k c.args.id.0 c.args.range.now c.ready_range.new.memory u w _ _ _ good a c.ready_range.ensures.ready))

pub returns-in-Err-ready_range-clause-moved : goal.returns-in-Err-ready_range-clause-moved
returns-in-Err-ready_range-clause-moved g c =
    let k = c.make_frames.new.kernel in
    let good = c.make_frames.ensures.moved.good in
    let a = aim_moved c.args.kernel.now k c.args.id.0 c.args.range.now _ _ c.make_frames.ensures.moved (aim c.args.kernel.now c.args.id.0 c.args.range.now c.requires.pending c.requires.case c.requires.target) in
    let u = g.S.Store.view c.make_frames.new.store in
    let w = g.S.Store.view c.ready_range.new.store in
    c.copy_laws.ensures.on c.args.kernel.now k (record k { memory = c.ready_range.new.memory }) (g.S.Store.view c.args.store.now) u w c.make_frames.ensures.moved (c.copy_laws.ensures.calls k (record k { memory = c.ready_range.new.memory }) u w good refl (aim_shows c.copy_laws.ensures k c.args.id.0 c.args.range.now c.ready_range.new.memory u w _ _ _ good a c.ready_range.ensures.ready))

pub returns-in-Ok-ready_range-clause-meters : goal.returns-in-Ok-ready_range-clause-meters
returns-in-Ok-ready_range-clause-meters g c =
    let k = c.make_frames.new.kernel in
    let good = c.make_frames.ensures.moved.good in
    let a = aim_moved c.args.kernel.now k c.args.id.0 c.args.range.now _ _ c.make_frames.ensures.moved (aim c.args.kernel.now c.args.id.0 c.args.range.now c.requires.pending c.requires.case c.requires.target) in
    let most = subst (λ (z : ℕ). span z c.args.range.now.off c.args.range.now.len ≤ 65) (sym good.sized.page) (aim_roomy c.copy_laws.ensures k c.args.id.0 c.args.range.now good a).most in
    ready_meters k.memory c.ready_range.new.memory.frames.meters c.args.range.now.object.0 _ _ c.args.range.now.len (span k.memory.frames.page c.args.range.now.off c.args.range.now.len) most (page_most k.memory.frames.page good.sound.shaped.size) c.make_frames.ensures.meters c.ready_range.ensures.ready.spends

pub returns-in-Err-ready_range-clause-meters : goal.returns-in-Err-ready_range-clause-meters
returns-in-Err-ready_range-clause-meters g c =
    let k = c.make_frames.new.kernel in
    let good = c.make_frames.ensures.moved.good in
    let a = aim_moved c.args.kernel.now k c.args.id.0 c.args.range.now _ _ c.make_frames.ensures.moved (aim c.args.kernel.now c.args.id.0 c.args.range.now c.requires.pending c.requires.case c.requires.target) in
    let most = subst (λ (z : ℕ). span z c.args.range.now.off c.args.range.now.len ≤ 65) (sym good.sized.page) (aim_roomy c.copy_laws.ensures k c.args.id.0 c.args.range.now good a).most in
    ready_meters k.memory c.ready_range.new.memory.frames.meters c.args.range.now.object.0 _ _ c.args.range.now.len (span k.memory.frames.page c.args.range.now.off c.args.range.now.len) most (page_most k.memory.frames.page good.sound.shaped.size) c.make_frames.ensures.meters c.ready_range.ensures.ready.spends

pub returns-in-Ok-ready_range-clause-rises : goal.returns-in-Ok-ready_range-clause-rises
returns-in-Ok-ready_range-clause-rises g c =
    let k = c.make_frames.new.kernel in
    let good = c.make_frames.ensures.moved.good in
    let a = aim_moved c.args.kernel.now k c.args.id.0 c.args.range.now _ _ c.make_frames.ensures.moved (aim c.args.kernel.now c.args.id.0 c.args.range.now c.requires.pending c.requires.case c.requires.target) in
    let most = subst (λ (z : ℕ). span z c.args.range.now.off c.args.range.now.len ≤ 65) (sym good.sized.page) (aim_roomy c.copy_laws.ensures k c.args.id.0 c.args.range.now good a).most in
    rises_ready c.args.kernel.now.memory.frames k.memory c.ready_range.new.memory c.args.range.now.object.0 _ _ c.args.range.now.len (span k.memory.frames.page c.args.range.now.off c.args.range.now.len) (page_most k.memory.frames.page good.sound.shaped.size) most c.make_frames.ensures.rises c.ready_range.ensures.ready.spends c.ready_range.ensures.ready.moves.landed

pub returns-in-Err-ready_range-clause-rises : goal.returns-in-Err-ready_range-clause-rises
returns-in-Err-ready_range-clause-rises g c =
    let k = c.make_frames.new.kernel in
    let good = c.make_frames.ensures.moved.good in
    let a = aim_moved c.args.kernel.now k c.args.id.0 c.args.range.now _ _ c.make_frames.ensures.moved (aim c.args.kernel.now c.args.id.0 c.args.range.now c.requires.pending c.requires.case c.requires.target) in
    let most = subst (λ (z : ℕ). span z c.args.range.now.off c.args.range.now.len ≤ 65) (sym good.sized.page) (aim_roomy c.copy_laws.ensures k c.args.id.0 c.args.range.now good a).most in
    rises_ready c.args.kernel.now.memory.frames k.memory c.ready_range.new.memory c.args.range.now.object.0 _ _ c.args.range.now.len (span k.memory.frames.page c.args.range.now.off c.args.range.now.len) (page_most k.memory.frames.page good.sound.shaped.size) most c.make_frames.ensures.rises c.ready_range.ensures.ready.spends c.ready_range.ensures.ready.moves.landed

pub returns-in-Err-clause-rises : goal.returns-in-Err-clause-rises
returns-in-Err-clause-rises g c = rises_most (2 ^ 20) (2 ^ 22) c.args.kernel.now.memory.frames c.make_frames.new.kernel.memory.frames (omega arith) c.make_frames.ensures.rises

pub returns-in-Ok-ready_range-clause-copies : goal.returns-in-Ok-ready_range-clause-copies
returns-in-Ok-ready_range-clause-copies g c =
    let k = c.args.kernel.now in
    let a = aim k c.args.id.0 c.args.range.now c.requires.pending c.requires.case c.requires.target in
    let out = range_unhidden c.copy_laws.ensures k c.args.id.0 a.t c.args.range.now c.requires.good a.found a.is.class_is a.is.inward a.target in
    ready_copies (objects_of k.hidden) k.memory c.make_frames.new.kernel.memory c.ready_range.new.memory c.args.range.now.object.0 c.args.range.now.off c.args.range.now.len _ _ _ out c.make_frames.ensures.costs c.make_frames.ensures.copies c.ready_range.ensures.ready.spends

pub returns-in-Ok-ready_range-clause-held : goal.returns-in-Ok-ready_range-clause-held
returns-in-Ok-ready_range-clause-held g c =
    let mid = c.make_frames.new.kernel.memory in
    let moves = c.ready_range.ensures.ready.moves in
    holds_none_more_on c.args.kernel.now.memory mid c.ready_range.new.memory c.make_frames.ensures.held (holds_no_more mid c.ready_range.new.memory c.make_frames.ensures.moved.good.sound moves.sound moves.keeps moves.counts)

pub returns-in-Err-ready_range-clause-copies : goal.returns-in-Err-ready_range-clause-copies
returns-in-Err-ready_range-clause-copies g c =
    let k = c.args.kernel.now in
    let a = aim k c.args.id.0 c.args.range.now c.requires.pending c.requires.case c.requires.target in
    let out = range_unhidden c.copy_laws.ensures k c.args.id.0 a.t c.args.range.now c.requires.good a.found a.is.class_is a.is.inward a.target in
    ready_copies (objects_of k.hidden) k.memory c.make_frames.new.kernel.memory c.ready_range.new.memory c.args.range.now.object.0 c.args.range.now.off c.args.range.now.len _ _ _ out c.make_frames.ensures.costs c.make_frames.ensures.copies c.ready_range.ensures.ready.spends

pub returns-in-Err-ready_range-clause-held : goal.returns-in-Err-ready_range-clause-held
returns-in-Err-ready_range-clause-held g c =
    let mid = c.make_frames.new.kernel.memory in
    let moves = c.ready_range.ensures.ready.moves in
    holds_none_more_on c.args.kernel.now.memory mid c.ready_range.new.memory c.make_frames.ensures.held (holds_no_more mid c.ready_range.new.memory c.make_frames.ensures.moved.good.sound moves.sound moves.keeps moves.counts)

pub returns-in-Err-clause-copies : goal.returns-in-Err-clause-copies
returns-in-Err-clause-copies g c = copies_more 0 _ c.args.kernel.now.memory c.make_frames.new.kernel.memory (omega arith) c.make_frames.ensures.copies
