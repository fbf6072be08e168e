use Rattle.std.proofs.Common.{◌≡◌, ◌/◌, ◌%◌, ◌*◌, ◌+◌, ◌-◌, ◌<◌, ℕ, arith, get_or, refl, sym, ap, subst, ◌∙◌, length}
use Rattle.std.specs.Prelude.{min}
use Rattle.genie_base.specs.Counts.{span}
use Rattle.genie_plan.specs.Plans.{input_frames}
use Rattle.genie_plan.specs.Lemmas.Ranges.{frame_at}
use Rattle.genie_input.specs.Buffers.{IsBuffer}
use Rattle.genie_finish.specs.Storing.{StoresPage, stored_work}
use Rattle.genie_finish.specs.Ranges.{stored_works}
use Rattle.genie_input.specs.Pools.{no_loan}
use Rattle.genie_object.specs.Lemmas.Works.{page_most}
use Rattle.genie_finish.proofs.Looping.{Setup, setup, stored_none, stored_more, stored_all, span_below, can_pages, can_now, below_most, works_most}
use Rattle.genie_finish.proofs.range.store_range.Goals as goal

pub pages-init : goal.pages-init
pages-init c =
    let m = c.args.memory.now in
    let r = c.args.range.now in
    let z = setup m r.off r.len c.args.loans.now c.page-page.result c.page_count-count.result c.requires.sound c.page-page.ensures.size c.page_count-count.ensures.number c.requires.number c.page_count-count.ensures.covers in
    stored_none m r.object.0 (r.off / m.frames.page) (r.off % m.frames.page) r.len c.args.few (input_frames c.args.loans.now) c.requires.sound z.in_page c.requires.buffers z.covers (can_pages m r.object.0 r.off r.len c.args.few (length (input_frames c.args.loans.now)) c.requires.can (z.size ∙ c.requires.number)) (r.off % c.page-page.result) (ap (λ q. r.off % q) c.page-page.ensures.size)

pub store_page-requires-clause-can : goal.store_page-requires-clause-can
store_page-requires-clause-can c =
    let m = c.args.memory.now in
    let r = c.args.range.now in
    let z = setup m r.off r.len c.args.loans.now c.page-page.result c.page_count-count.result c.requires.sound c.page-page.ensures.size c.page_count-count.ensures.number c.requires.number c.page_count-count.ensures.covers in
    can_now m c.pages.memory r.object.0 r.off (r.off / c.page-page.result) r.len c.args.few c.page-page.result c.min-n.result c.pages.done c.pages.off c.pages.k (input_frames c.args.loans.now) c.page-page.ensures.size c.pages.invariant (omega (arith, c.pages-test.true, z.count_is)) c.min-n.ensures refl

pub store_page-requires-clause-buffer : goal.store_page-requires-clause-buffer
store_page-requires-clause-buffer c =
    let m = c.args.memory.now in
    let r = c.args.range.now in
    let z = setup m r.off r.len c.args.loans.now c.page-page.result c.page_count-count.result c.requires.sound c.page-page.ensures.size c.page_count-count.ensures.number c.requires.number c.page_count-count.ensures.covers in
    subst (IsBuffer c.pages.memory.frames) (sym (frame_at c.args.loans.now c.pages.k _ (omega (arith, c.pages-test.true, z.count_is, z.size)))) (c.pages.invariant.buffers c.pages.k (omega arith) (omega (arith, c.pages-test.true, z.count_is))).buffer

pub store_page-requires-clause-meters : goal.store_page-requires-clause-meters
store_page-requires-clause-meters c =
    let m = c.args.memory.now in
    let r = c.args.range.now in
    let z = setup m r.off r.len c.args.loans.now c.page-page.result c.page_count-count.result c.requires.sound c.page-page.ensures.size c.page_count-count.ensures.number c.requires.number c.page_count-count.ensures.covers in
    below_most (stored_works m r.object.0 (r.off / m.frames.page) (r.off % m.frames.page) r.len c.args.few c.pages.k) m.frames.meters c.pages.memory.frames.meters c.requires.meters c.pages.invariant.spends (omega (arith, works_most m r.object.0 (r.off / m.frames.page) (r.off % m.frames.page) r.len c.args.few c.pages.k (page_most m.frames.page c.requires.sound.shaped.size), c.pages-test.true, z.count_is, z.size, c.requires.most))

pub pages-preserved : goal.pages-preserved
pages-preserved c =
    let m = c.args.memory.now in
    let r = c.args.range.now in
    let z = setup m r.off r.len c.args.loans.now c.page-page.result c.page_count-count.result c.requires.sound c.page-page.ensures.size c.page_count-count.ensures.number c.requires.number c.page_count-count.ensures.covers in
    let page = c.page-page.ensures.size in
    let i : r.off / c.page-page.result ≡ r.off / m.frames.page = ap (λ q. r.off / q) page in
    let n = c.min-n.result in
    let f = (get_or c.args.loans.now c.pages.k no_loan).frame.0 in
    let y : StoresPage c.pages.memory c.store_page.new.memory r.object.0 (r.off / m.frames.page + c.pages.k) f c.pages.off n (stored_work c.pages.memory r.object.0 (r.off / m.frames.page + c.pages.k) n c.args.few) = subst (λ v. StoresPage c.pages.memory c.store_page.new.memory r.object.0 (v + c.pages.k) f c.pages.off n (stored_work c.pages.memory r.object.0 (v + c.pages.k) n c.args.few)) i c.store_page.ensures.stored in
    stored_more m r.object.0 (r.off / m.frames.page) (r.off % m.frames.page) r.len c.args.few (input_frames c.args.loans.now) c.requires.sound z.in_page c.requires.buffers z.covers c.pages.memory c.store_page.new.memory c.pages.k c.pages.done c.pages.off n f (omega (arith, c.pages-test.true, z.count_is)) (span_below m.frames.page r.off r.len c.pages.k z.some (omega (arith, c.pages-test.true, z.count_is, z.size, c.requires.number))) (frame_at c.args.loans.now c.pages.k no_loan (omega (arith, c.pages-test.true, z.count_is, z.size))) (c.min-n.ensures ∙ ap (λ q. min (q - c.pages.off) (r.len - c.pages.done)) page) c.pages.invariant y (c.pages.k + 1) (c.pages.done + n) 0 refl refl refl

pub returns : goal.returns
returns c =
    let m = c.args.memory.now in
    let r = c.args.range.now in
    let z = setup m r.off r.len c.args.loans.now c.page-page.result c.page_count-count.result c.requires.sound c.page-page.ensures.size c.page_count-count.ensures.number c.requires.number c.page_count-count.ensures.covers in
    record { stored = stored_all m r.object.0 (r.off / m.frames.page) (r.off % m.frames.page) r.len c.args.few (input_frames c.args.loans.now) c.requires.sound z.in_page c.requires.buffers z.covers c.pages.memory r.off c.pages.k c.pages.done c.pages.off (omega (arith, c.pages-test.false, z.count_is)) (omega (arith, c.pages.auto.k-end, z.count_is)) (divided r.off m.frames.page z.some) refl refl c.pages.invariant }
  where
    divided : (a b : ℕ) → 0 < b → a ≡ b * (a / b) + a % b
    divided a b h = omega arith
