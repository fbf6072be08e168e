use Rattle.std.proofs.Common.{◌≡◌, ◌/◌, ◌%◌, ◌*◌, ◌+◌, ◌-◌, ◌<◌, ◌≤◌, ℕ, arith, refl, sym, ap, subst, ◌∙◌}
use Rattle.std.specs.Prelude.{min, IsTrue}
use Rattle.genie_base.specs.Counts.{span, is_page_size}
use Rattle.genie_object.specs.Sound.{IsPrivate}
use Rattle.genie_object.specs.Objects.{entry_at}
use Rattle.genie_finish.specs.Ready.{MakesReady, part_work, parts_work}
use Rattle.genie_object.specs.Lemmas.Works.{page_most}
use Rattle.genie_finish.proofs.Looping.{page_some, rest_less}
use Rattle.genie_finish.proofs.Readying.{so_far_none, so_far_more, next_ready, ready_more, parts_up, parts_most, can_by, below_ready}
use Rattle.genie_finish.proofs.ready.ready_range.Goals as goal

pub pages-init : goal.pages-init
pages-init g c =
    let m = c.args.memory.now in
    let r = c.args.range.now in
    so_far_none m (g.S.Store.view c.args.store.now) r.object.0 (r.off / m.frames.page) (r.off % m.frames.page) r.len (r.off % c.page-page.result) c.requires.sound c.requires.sized (ap (λ q. r.off % q) c.page-page.ensures.size)

pub ready_page-requires-clause-meters : goal.ready_page-requires-clause-meters
ready_page-requires-clause-meters g c =
    let m = c.args.memory.now in
    let r = c.args.range.now in
    let few : c.pages.k ≤ 65 = omega (arith, c.pages-test.true, c.page_count-count.ensures.number, ap (λ q. span q r.off r.len) c.page-page.ensures.size, c.requires.most) in
    below_ready (parts_work m r.object.0 (r.off / m.frames.page) (r.off % m.frames.page) r.len c.pages.k) c.pages.k m.frames.meters c.pages.memory.frames.meters c.requires.meters c.pages.invariant.ready.spends (omega (arith, few, parts_most m r.object.0 (r.off / m.frames.page) (r.off % m.frames.page) r.len c.pages.k (page_most m.frames.page c.requires.sound.shaped.size))) few

pub ready_page-requires-clause-there : goal.ready_page-requires-clause-there
ready_page-requires-clause-there g c =
    let m = c.args.memory.now in
    let r = c.args.range.now in
    omega (arith, c.pages-test.true, c.page_count-count.ensures.number, ap (λ q. span q r.off r.len) c.page-page.ensures.size, c.requires.within, ap (λ q. r.off / q) c.page-page.ensures.size, c.pages.invariant.ready.moves.keeps.entries r.object.0)

pub pages-preserved : goal.pages-preserved
pages-preserved g c =
    let m = c.args.memory.now in
    let r = c.args.range.now in
    let page = c.page-page.ensures.size in
    let v = g.S.Store.view in
    let i : r.off / c.page-page.result ≡ r.off / m.frames.page = ap (λ q. r.off / q) page in
    let n = c.min-n.result in
    let y : MakesReady c.pages.memory c.ready_page.new.memory (v c.pages.store) (v c.ready_page.new.store) r.object.0 (r.off / m.frames.page + c.pages.k) 1 (part_work c.pages.memory r.object.0 (r.off / m.frames.page + c.pages.k) n) = subst (λ q. MakesReady c.pages.memory c.ready_page.new.memory (v c.pages.store) (v c.ready_page.new.store) r.object.0 (q + c.pages.k) 1 (part_work c.pages.memory r.object.0 (q + c.pages.k) n)) i c.ready_page.ensures.ready in
    so_far_more m c.pages.memory c.ready_page.new.memory (v c.args.store.now) (v c.pages.store) (v c.ready_page.new.store) r.object.0 (r.off / m.frames.page) (r.off % m.frames.page) r.len c.pages.k c.pages.done c.pages.off n (rest_less r.off m.frames.page (page_some m.frames.page c.requires.sound.shaped.size)) (c.min-n.ensures ∙ ap (λ q. min (q - c.pages.off) (r.len - c.pages.done)) page) c.pages.invariant y (subst (λ q. n < c.pages.memory.frames.page → IsPrivate c.ready_page.new.memory.frames.counts c.ready_page.new.memory.pages.pages (entry_at c.ready_page.new.memory.objects r.object.0 (q + c.pages.k)).page) i c.in-Ok.ensures.own) c.in-Ok.ensures.cause.kept

pub returns-in-Err-clause-ready : goal.returns-in-Err-clause-ready
returns-in-Err-clause-ready g c =
    let m = c.args.memory.now in
    let r = c.args.range.now in
    let page = c.page-page.ensures.size in
    let v = g.S.Store.view in
    let i : r.off / c.page-page.result ≡ r.off / m.frames.page = ap (λ q. r.off / q) page in
    let n = c.min-n.result in
    let y : MakesReady c.pages.memory c.ready_page.new.memory (v c.pages.store) (v c.ready_page.new.store) r.object.0 (r.off / m.frames.page + c.pages.k) 1 (part_work c.pages.memory r.object.0 (r.off / m.frames.page + c.pages.k) n) = subst (λ q. MakesReady c.pages.memory c.ready_page.new.memory (v c.pages.store) (v c.ready_page.new.store) r.object.0 (q + c.pages.k) 1 (part_work c.pages.memory r.object.0 (q + c.pages.k) n)) i c.ready_page.ensures.ready in
    let count : c.page_count-count.result ≡ span m.frames.page r.off r.len = c.page_count-count.ensures.number ∙ ap (λ q. span q r.off r.len) page in
    let next : c.pages.k + 1 ≤ span m.frames.page r.off r.len = omega (arith, c.pages-test.true, count) in
    ready_more m c.ready_page.new.memory (v c.args.store.now) (v c.ready_page.new.store) r.object.0 (r.off / m.frames.page) (c.pages.k + 1) (span m.frames.page r.off r.len) _ _ next (parts_up m r.object.0 (r.off / m.frames.page) (r.off % m.frames.page) r.len (c.pages.k + 1) (span m.frames.page r.off r.len) next) (next_ready m c.pages.memory c.ready_page.new.memory (v c.args.store.now) (v c.pages.store) (v c.ready_page.new.store) r.object.0 (r.off / m.frames.page) (r.off % m.frames.page) r.len c.pages.k c.pages.done c.pages.off n (rest_less r.off m.frames.page (page_some m.frames.page c.requires.sound.shaped.size)) (c.min-n.ensures ∙ ap (λ q. min (q - c.pages.off) (r.len - c.pages.done)) page) c.pages.invariant y)

pub returns-clause-ready : goal.returns-clause-ready
returns-clause-ready g c =
    let m = c.args.memory.now in
    let r = c.args.range.now in
    let v = g.S.Store.view in
    let count : c.page_count-count.result ≡ span m.frames.page r.off r.len = c.page_count-count.ensures.number ∙ ap (λ q. span q r.off r.len) c.page-page.ensures.size in
    let last : c.pages.k ≤ span m.frames.page r.off r.len = omega (arith, c.pages.auto.k-end, count) in
    ready_more m c.pages.memory (v c.args.store.now) (v c.pages.store) r.object.0 (r.off / m.frames.page) c.pages.k (span m.frames.page r.off r.len) _ _ last (parts_up m r.object.0 (r.off / m.frames.page) (r.off % m.frames.page) r.len c.pages.k (span m.frames.page r.off r.len) last) c.pages.invariant.ready

pub returns-clause-can : goal.returns-clause-can
returns-clause-can g c few =
    let m = c.args.memory.now in
    let r = c.args.range.now in
    let count : c.page_count-count.result ≡ span m.frames.page r.off r.len = c.page_count-count.ensures.number ∙ ap (λ q. span q r.off r.len) c.page-page.ensures.size in
    can_by c.pages.memory r.object.0 r.off r.len m.frames.page few c.pages.invariant.ready.moves.keeps.page (λ j l. c.pages.invariant.own j (omega (arith, l, count, c.pages-test.false)))
