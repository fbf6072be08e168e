use Rattle.std.proofs.Common.{◌≡◌, ◌/◌, ◌+◌, ◌≤◌, ◌^◌, ◌*◌, ℕ, length, refl, sym, ap, subst, arith, ◌∙◌}
use Rattle.genie_base.specs.Counts.{span}
use Rattle.genie_hiding.specs.Rooms.{available}
use Rattle.genie_object.specs.Lemmas.Works.{below_more}
use Rattle.genie_object.specs.Objects.{object_at}
use Rattle.genie_kernel.specs.declared.kernel.Kernel.{Kernel}
use Rattle.genie_kernel.specs.Lemmas.Rising.{rises_most, rises_on}
use Rattle.genie_arrivals.proofs.PooledAim.{few_pages, own_range, own_shows, pooled_aim, pooled_moved, pooled_roomy}
use Rattle.genie_arrivals.proofs.pooled_copy.make_own.Goals as goal
use Rattle.genie_arrivals.proofs.LateCosts.{own_copies}
use Rattle.genie_arrivals.proofs.EarlyCostsBound.{copies_more}
use Rattle.genie_arrivals.proofs.Readying.{range_unhidden}

pub page_count-count-requires-clause-fits : goal.page_count-count-requires-clause-fits
page_count-count-requires-clause-fits g c = (pooled_roomy c.copy_laws.ensures c.args.kernel.now c.args.id.0 c.args.range.now c.requires.good (pooled_aim c.args.kernel.now c.args.id.0 c.args.range.now c.requires.pending c.requires.case c.requires.target)).fits

pub make_frames-requires-clause-frames : goal.make_frames-requires-clause-frames
make_frames-requires-clause-frames g c =
    let roomy = pooled_roomy c.copy_laws.ensures c.args.kernel.now c.args.id.0 c.args.range.now c.requires.good (pooled_aim c.args.kernel.now c.args.id.0 c.args.range.now c.requires.pending c.requires.case c.requires.target) in
    let page : c.get-page.result ≡ c.args.kernel.now.config.page = c.get-page.ensures.number ∙ c.page.ensures ∙ c.requires.good.spaced.page in
    let pages = subst (λ (z : ℕ). span z c.args.range.now.off c.args.range.now.len ≤ available c.args.kernel.now.memory.frames) (sym page) roomy.frames in
    omega (arith, pages, c.page_count-count.ensures.number)

pub own_pages-requires-clause-within : goal.own_pages-requires-clause-within
own_pages-requires-clause-within g c =
    let k = c.make_frames.new.kernel in
    let a = pooled_moved c.args.kernel.now k c.args.id.0 c.args.range.now _ _ c.make_frames.ensures.moved (pooled_aim c.args.kernel.now c.args.id.0 c.args.range.now c.requires.pending c.requires.case c.requires.target) in
    let page : c.get-page.result ≡ k.config.page = c.get-page.ensures.number ∙ c.page.ensures ∙ c.requires.good.spaced.page ∙ sym (ap (λ (z : Kernel). z.config.page) c.make_frames.ensures.moved.only) in
    let within = subst (λ (z : ℕ). c.args.range.now.off / z + span z c.args.range.now.off c.args.range.now.len ≤ length (object_at k.memory.objects c.args.range.now.object.0)) (sym page) (pooled_roomy c.copy_laws.ensures k c.args.id.0 c.args.range.now c.make_frames.ensures.moved.good a).within in
    omega (arith, within, c.page_count-count.ensures.number)

pub own_pages-requires-clause-most : goal.own_pages-requires-clause-most
own_pages-requires-clause-most g c =
    let roomy = pooled_roomy c.copy_laws.ensures c.args.kernel.now c.args.id.0 c.args.range.now c.requires.good (pooled_aim c.args.kernel.now c.args.id.0 c.args.range.now c.requires.pending c.requires.case c.requires.target) in
    let page : c.get-page.result ≡ c.args.kernel.now.config.page = c.get-page.ensures.number ∙ c.page.ensures ∙ c.requires.good.spaced.page in
    let most = subst (λ (z : ℕ). span z c.args.range.now.off c.args.range.now.len ≤ 65) (sym page) roomy.most in
    omega (arith, most, c.page_count-count.ensures.number)

pub own_pages-requires-clause-fits : goal.own_pages-requires-clause-fits
own_pages-requires-clause-fits g c =
    let k = c.make_frames.new.kernel in
    let a = pooled_moved c.args.kernel.now k c.args.id.0 c.args.range.now _ _ c.make_frames.ensures.moved (pooled_aim c.args.kernel.now c.args.id.0 c.args.range.now c.requires.pending c.requires.case c.requires.target) in
    let page : c.get-page.result ≡ k.config.page = c.get-page.ensures.number ∙ c.page.ensures ∙ c.requires.good.spaced.page ∙ sym (ap (λ (z : Kernel). z.config.page) c.make_frames.ensures.moved.only) in
    let within = subst (λ (z : ℕ). c.args.range.now.off / z + span z c.args.range.now.off c.args.range.now.len ≤ length (object_at k.memory.objects c.args.range.now.object.0)) (sym page) (pooled_roomy c.copy_laws.ensures k c.args.id.0 c.args.range.now c.make_frames.ensures.moved.good a).within in
    let few = few_pages c.copy_laws.ensures k c.args.id.0 c.args.range.now c.make_frames.ensures.moved.good a in
    omega (arith, within, few, c.page_count-count.ensures.number)

pub returns-in-Ok-own_pages-clause-moved : goal.returns-in-Ok-own_pages-clause-moved
returns-in-Ok-own_pages-clause-moved g c =
    let k = c.make_frames.new.kernel in
    let good = c.make_frames.ensures.moved.good in
    let u = g.S.Store.view c.make_frames.new.store in
    let w = g.S.Store.view c.own_pages.new.store in
    let a = pooled_moved c.args.kernel.now k c.args.id.0 c.args.range.now (g.S.Store.view c.args.store.now) u c.make_frames.ensures.moved (pooled_aim c.args.kernel.now c.args.id.0 c.args.range.now c.requires.pending c.requires.case c.requires.target) in
    c.copy_laws.ensures.on c.args.kernel.now k (record k { memory = c.own_pages.new.memory }) (g.S.Store.view c.args.store.now) u w c.make_frames.ensures.moved (c.copy_laws.ensures.calls k (record k { memory = c.own_pages.new.memory }) u w good refl (own_shows c.copy_laws.ensures k c.args.id.0 c.args.range.now c.own_pages.new.memory u w _ _ good a c.own_pages.ensures.owns))

pub returns-in-Err-own_pages-clause-moved : goal.returns-in-Err-own_pages-clause-moved
returns-in-Err-own_pages-clause-moved g c =
    let k = c.make_frames.new.kernel in
    let good = c.make_frames.ensures.moved.good in
    let u = g.S.Store.view c.make_frames.new.store in
    let w = g.S.Store.view c.own_pages.new.store in
    let a = pooled_moved c.args.kernel.now k c.args.id.0 c.args.range.now (g.S.Store.view c.args.store.now) u c.make_frames.ensures.moved (pooled_aim c.args.kernel.now c.args.id.0 c.args.range.now c.requires.pending c.requires.case c.requires.target) in
    c.copy_laws.ensures.on c.args.kernel.now k (record k { memory = c.own_pages.new.memory }) (g.S.Store.view c.args.store.now) u w c.make_frames.ensures.moved (c.copy_laws.ensures.calls k (record k { memory = c.own_pages.new.memory }) u w good refl (own_shows c.copy_laws.ensures k c.args.id.0 c.args.range.now c.own_pages.new.memory u w _ _ good a c.own_pages.ensures.owns))

pub returns-in-Ok-own_pages-clause-own : goal.returns-in-Ok-own_pages-clause-own
returns-in-Ok-own_pages-clause-own g c =
    let k = c.make_frames.new.kernel in
    let page : c.get-page.result ≡ c.own_pages.new.memory.frames.page = c.get-page.ensures.number ∙ c.page.ensures ∙ c.requires.good.spaced.page ∙ sym (ap (λ (z : Kernel). z.config.page) c.make_frames.ensures.moved.only) ∙ sym c.make_frames.ensures.moved.good.sized.page ∙ sym c.own_pages.ensures.owns.moves.keeps.page in
    own_range c.own_pages.new.memory c.args.range.now.object.0 c.args.range.now.off c.args.range.now.len c.get-page.result c.page_count-count.result _ page c.page_count-count.ensures.number refl c.in-Ok-own_pages.ensures.own

pub returns-in-Ok-own_pages-clause-meters : goal.returns-in-Ok-own_pages-clause-meters
returns-in-Ok-own_pages-clause-meters g c =
    let roomy = pooled_roomy c.copy_laws.ensures c.args.kernel.now c.args.id.0 c.args.range.now c.requires.good (pooled_aim c.args.kernel.now c.args.id.0 c.args.range.now c.requires.pending c.requires.case c.requires.target) in
    let page : c.get-page.result ≡ c.args.kernel.now.config.page = c.get-page.ensures.number ∙ c.page.ensures ∙ c.requires.good.spaced.page in
    let most = subst (λ (z : ℕ). span z c.args.range.now.off c.args.range.now.len ≤ 65) (sym page) roomy.most in
    below_more (2 ^ 63 + 2 ^ 20 + 8192 * c.page_count-count.result) (2 ^ 63 + 2 ^ 22) c.own_pages.new.memory.frames.meters (omega (arith, most, c.page_count-count.ensures.number)) (c.own_pages.ensures.owns.rises.meters (2 ^ 63 + 2 ^ 20) c.make_frames.ensures.meters)

pub returns-in-Err-own_pages-clause-meters : goal.returns-in-Err-own_pages-clause-meters
returns-in-Err-own_pages-clause-meters g c =
    let roomy = pooled_roomy c.copy_laws.ensures c.args.kernel.now c.args.id.0 c.args.range.now c.requires.good (pooled_aim c.args.kernel.now c.args.id.0 c.args.range.now c.requires.pending c.requires.case c.requires.target) in
    let page : c.get-page.result ≡ c.args.kernel.now.config.page = c.get-page.ensures.number ∙ c.page.ensures ∙ c.requires.good.spaced.page in
    let most = subst (λ (z : ℕ). span z c.args.range.now.off c.args.range.now.len ≤ 65) (sym page) roomy.most in
    below_more (2 ^ 63 + 2 ^ 20 + 8192 * c.page_count-count.result) (2 ^ 63 + 2 ^ 22) c.own_pages.new.memory.frames.meters (omega (arith, most, c.page_count-count.ensures.number)) (c.own_pages.ensures.owns.rises.meters (2 ^ 63 + 2 ^ 20) c.make_frames.ensures.meters)

pub returns-in-Ok-own_pages-clause-rises : goal.returns-in-Ok-own_pages-clause-rises
returns-in-Ok-own_pages-clause-rises g c =
    let roomy = pooled_roomy c.copy_laws.ensures c.args.kernel.now c.args.id.0 c.args.range.now c.requires.good (pooled_aim c.args.kernel.now c.args.id.0 c.args.range.now c.requires.pending c.requires.case c.requires.target) in
    let page : c.get-page.result ≡ c.args.kernel.now.config.page = c.get-page.ensures.number ∙ c.page.ensures ∙ c.requires.good.spaced.page in
    let most = subst (λ (z : ℕ). span z c.args.range.now.off c.args.range.now.len ≤ 65) (sym page) roomy.most in
    rises_most (2 ^ 20 + 8192 * c.page_count-count.result) (2 ^ 22) c.args.kernel.now.memory.frames c.own_pages.new.memory.frames (omega (arith, most, c.page_count-count.ensures.number))
    (rises_on (2 ^ 20) (8192 * c.page_count-count.result) c.args.kernel.now.memory.frames c.make_frames.new.kernel.memory.frames c.own_pages.new.memory.frames c.make_frames.ensures.rises c.own_pages.ensures.owns.rises)

pub returns-in-Err-own_pages-clause-rises : goal.returns-in-Err-own_pages-clause-rises
returns-in-Err-own_pages-clause-rises g c =
    let roomy = pooled_roomy c.copy_laws.ensures c.args.kernel.now c.args.id.0 c.args.range.now c.requires.good (pooled_aim c.args.kernel.now c.args.id.0 c.args.range.now c.requires.pending c.requires.case c.requires.target) in
    let page : c.get-page.result ≡ c.args.kernel.now.config.page = c.get-page.ensures.number ∙ c.page.ensures ∙ c.requires.good.spaced.page in
    let most = subst (λ (z : ℕ). span z c.args.range.now.off c.args.range.now.len ≤ 65) (sym page) roomy.most in
    rises_most (2 ^ 20 + 8192 * c.page_count-count.result) (2 ^ 22) c.args.kernel.now.memory.frames c.own_pages.new.memory.frames (omega (arith, most, c.page_count-count.ensures.number))
    (rises_on (2 ^ 20) (8192 * c.page_count-count.result) c.args.kernel.now.memory.frames c.make_frames.new.kernel.memory.frames c.own_pages.new.memory.frames c.make_frames.ensures.rises c.own_pages.ensures.owns.rises)

pub returns-in-Err-clause-rises : goal.returns-in-Err-clause-rises
returns-in-Err-clause-rises g c = rises_most (2 ^ 20) (2 ^ 22) c.args.kernel.now.memory.frames c.make_frames.new.kernel.memory.frames (omega arith) c.make_frames.ensures.rises

pub returns-in-Ok-own_pages-clause-copies : goal.returns-in-Ok-own_pages-clause-copies
returns-in-Ok-own_pages-clause-copies g c =
    let k = c.args.kernel.now in
    let a = pooled_aim k c.args.id.0 c.args.range.now c.requires.pending c.requires.case c.requires.target in
    let out = range_unhidden c.copy_laws.ensures k c.args.id.0 a.t c.args.range.now c.requires.good a.found a.is.class_is a.is.inward a.target in
    let page : c.get-page.result ≡ k.config.page = c.get-page.ensures.number ∙ c.page.ensures ∙ c.requires.good.spaced.page in
    own_copies k c.make_frames.new.kernel.memory c.own_pages.new.memory c.args.range.now.object.0 c.args.range.now.off c.args.range.now.len _ _ c.requires.good out c.make_frames.ensures.costs c.make_frames.ensures.copies (ap (λ (z : ℕ). c.args.range.now.off / z) page) (c.page_count-count.ensures.number ∙ ap (λ (z : ℕ). span z c.args.range.now.off c.args.range.now.len) page) c.own_pages.ensures.owns.copies

pub returns-in-Err-own_pages-clause-copies : goal.returns-in-Err-own_pages-clause-copies
returns-in-Err-own_pages-clause-copies g c =
    let k = c.args.kernel.now in
    let a = pooled_aim k c.args.id.0 c.args.range.now c.requires.pending c.requires.case c.requires.target in
    let out = range_unhidden c.copy_laws.ensures k c.args.id.0 a.t c.args.range.now c.requires.good a.found a.is.class_is a.is.inward a.target in
    let page : c.get-page.result ≡ k.config.page = c.get-page.ensures.number ∙ c.page.ensures ∙ c.requires.good.spaced.page in
    own_copies k c.make_frames.new.kernel.memory c.own_pages.new.memory c.args.range.now.object.0 c.args.range.now.off c.args.range.now.len _ _ c.requires.good out c.make_frames.ensures.costs c.make_frames.ensures.copies (ap (λ (z : ℕ). c.args.range.now.off / z) page) (c.page_count-count.ensures.number ∙ ap (λ (z : ℕ). span z c.args.range.now.off c.args.range.now.len) page) c.own_pages.ensures.owns.copies

pub returns-in-Err-clause-copies : goal.returns-in-Err-clause-copies
returns-in-Err-clause-copies g c = copies_more 0 _ c.args.kernel.now.memory c.make_frames.new.kernel.memory (omega arith) c.make_frames.ensures.copies
