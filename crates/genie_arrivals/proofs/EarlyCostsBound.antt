-- What the end of a copy input copies at most.
use Rattle.std.proofs.Common.{◌≡◌, ℕ, ◌≤◌, ◌+◌, ◌*◌, ◌/◌, ◌%◌, Bool, false, List, refl, sym, ap, subst, arith, ◌∙◌}
use Rattle.std.specs.Prelude.{Option, Some, None, find, if◌then◌else◌}
use Rattle.genie_base.specs.Counts.{span}
use Rattle.genie_base.specs.Transfers.{class_of}
use Rattle.genie_base.specs.declared.event.Event.TheVariants as event
use Rattle.genie_base.specs.declared.reply.Note.{Note}
use Rattle.genie_base.specs.declared.reply.Reply.TheVariants as reply
use Rattle.genie_base.specs.declared.semantics.Class.TheVariants as class
use Rattle.genie_base.specs.declared.semantics.Semantics.{Semantics}
use Rattle.genie_base.specs.declared.semantics.Semantics.TheVariants.{Copy, EmulatedCopy, Share, EmulatedShare, Move, EmulatedMove, WeakMove, EmulatedWeakMove}
use Rattle.genie_finish.specs.Ranges.{stored_works}
use Rattle.genie_finish.specs.Ready.{parts_work}
use Rattle.genie_finish.specs.Storing.{is_held_at}
use Rattle.genie_finish.specs.Table.{EndsCostLittle, end_work}
use Rattle.genie_hiding.specs.Hidden.{is_among}
use Rattle.genie_object.specs.declared.memory.Memory.{Memory}
use Rattle.genie_object.specs.declared.objects.Range.{Range}
use Rattle.genie_object.specs.Costs.{Spends}
use Rattle.genie_region.specs.declared.region.Region.{Region}
use Rattle.genie_model.specs.Tables.{entry}
use Rattle.genie_kernel.specs.declared.kernel.Kernel.{Kernel}
use Rattle.genie_kernel.specs.declared.transfer.Transfer.{Transfer}
use Rattle.genie_kernel.specs.Calls.{has_number}
use Rattle.genie_kernel.specs.Good.{IsGood}
use Rattle.genie_kernel.specs.Regions.{regions_of}
use Rattle.genie_copying.specs.Bounds.{KeepsToBound, is_aligned, fixed_bytes, held_bytes, pages_stored, stored_bound}
use Rattle.genie_copying.specs.Kinds.{count_pages, is_fixed, is_weakly_held}
use Rattle.genie_copying.specs.Ranges.{Pages, pages_at, pages_in, part_pages}
use Rattle.genie_copying.specs.Spending.{CopiesAtMost, NoDearer}
use Rattle.genie_copying.specs.Lemmas.Counting.{bytes_fewer, count_fewer}
use Rattle.genie_arrivals.specs.EarlyCosts.{HoldsNoMore, few_of, ready_work, store_work}
use Rattle.std.proofs.Common.{true}
use Rattle.genie_base.specs.declared.semantics.Direction.TheVariants.{Inward}
use Rattle.genie_arrivals.specs.Targets.{IsTarget}
use Rattle.genie_arrivals.proofs.EarlyCosts.{fault_bound, input_bound}
use Rattle.genie_arrivals.proofs.EarlyCostsCounting.{end_most, part_moved, parts, parts_fixed, parts_less, parts_pages, same_held, works_few}
use Rattle.genie_arrivals.proofs.Reaching.{is_written, some_page, written_inside}

-- pages are made ready once room was made: no page is dearer then
pub ready_copies : (hidden : List ℕ) (k mid new : Memory) (o off len got put taken : ℕ) → is_among o hidden ≡ false → NoDearer hidden k mid → CopiesAtMost 0 k mid → Spends (ready_work mid o off len) got put taken mid.frames.meters new.frames.meters → CopiesAtMost (ready_work k o off len) k new
ready_copies hidden k mid new o off len got put taken out d none spends =
    let same : ready_work mid o off len ≡ parts_work mid o (off / k.frames.page) (off % k.frames.page) len (span k.frames.page off len) = ap (λ (z : ℕ). parts_work mid o (off / z) (off % z) len (span z off len)) d.page in
    let less = parts_less k mid k.frames.page o (off / k.frames.page) (off % k.frames.page) len (span k.frames.page off len) refl d.page (λ j. d.writes o j out) in
    omega (arith, same, less, none, spends.work)

pub copies_more : (few many : ℕ) (old new : Memory) → few ≤ many → CopiesAtMost few old new → CopiesAtMost many old new
copies_more few many old new l c = omega (arith, l, c)

module _ (law : EndsCostLittle) (k : Kernel) (n : ℕ) (t : Transfer) (range : Range) (g : IsGood k) (found : find (has_number n) k.transfers ≡ Some t) (target : IsTarget k t range) (inward : t.dir ≡ Inward) (class_is : class_of t.sem ≡ class.Copy) (aligned : is_aligned k.config t.dev (t.addr % k.config.page) ≡ true) where
  abbrev page : ℕ
  page = k.config.page

  abbrev o : ℕ
  o = range.object.0

  abbrev off : ℕ
  off = range.off

  abbrev len : ℕ
  len = range.len

  abbrev there : Pages
  there = pages_at page o off len

  -- the pages that the range lies in are those that the table speaks of
  stored_there : pages_stored k target.pid t ≡ Some there
  stored_there =
      let x = target in
      ap (λ (z : Option Region). elim z [ None ↦ None | Some r ↦ Some (pages_in page t.addr t.stored r) ]) (is_written page t.addr t.len (regions_of (entry k.spaces.processes x.pid)) x.region x.reached).reached
      ∙ (λ i. Some (pages_at page (sym x.object_is i).0 (sym x.place i) (sym x.size i)))

  part_there : part_pages page off len ≡ part_pages page t.addr t.stored
  part_there =
      let x = target in
      let inside = written_inside page t.addr t.len (regions_of (entry k.spaces.processes x.pid)) x.region x.reached in
      (λ i. part_pages page (x.place i) (x.size i)) ∙ part_moved page t.addr t.stored x.region.start (some_page k g) inside.low

  module _ (m : Memory) (same : m.frames.page ≡ k.memory.frames.page) (holds : HoldsNoMore k.memory m) where
    is_page : m.frames.page ≡ page
    is_page = same ∙ g.sized.page

    ready_there : ready_work k.memory o off len ≡ parts_work k.memory o (off / page) (off % page) len (span page off len)
    ready_there = ap (λ (z : ℕ). parts_work k.memory o (off / z) (off % z) len (span z off len)) g.sized.page

    store_there : (few : ℕ) → store_work m o off len few ≡ stored_works m o (off / page) (off % page) len few (span page off len)
    store_there few = ap (λ (z : ℕ). stored_works m o (off / z) (off % z) len few (span z off len)) is_page

    basic_row : ready_work k.memory o off len + store_work m o off len page ≤ t.stored + fixed_bytes k (pages_stored k target.pid t)
    basic_row =
        let fixed : k.memory.frames.page * count_pages (is_fixed k.memory o) (off / page) (span page off len) ≡ fixed_bytes k (pages_stored k target.pid t) = ap (λ (z : ℕ). z * count_pages (is_fixed k.memory o) (off / page) (span page off len)) g.sized.page ∙ ap (λ (z : Option Pages). fixed_bytes k z) (sym stored_there) in
        let stored = works_few m o (off / page) (off % page) len page (span page off len) (omega (arith, is_page)) in
        omega (arith, ready_there, store_there page, parts_fixed k.memory o (off / page) (off % page) len (span page off len), fixed, stored, target.size)

    emulated_row : (few : ℕ) → ready_work k.memory o off len + store_work m o off len few ≤ 2 * page * part_pages page t.addr t.stored + held_bytes k (pages_stored k target.pid t)
    emulated_row few =
        let little = law k.memory m o (off / page) (off % page) len few (span page off len) same in
        let most : end_work m o (off / page) (off % page) len (span page off len) ≤ 2 * page * parts page (off % page) len (span page off len) + page * count_pages (is_held_at m o) (off / page) (span page off len) = subst (λ (z : ℕ). end_work m o (off / page) (off % page) len (span page off len) ≤ 2 * z * parts z (off % page) len (span page off len) + z * count_pages (is_held_at m o) (off / page) (span page off len)) is_page (end_most m o (off / page) (off % page) len (span page off len)) in
        let in_part = bytes_fewer (2 * page) _ _ (parts_pages page off len (some_page k g)) in
        let moved : 2 * page * part_pages page off len ≡ 2 * page * part_pages page t.addr t.stored = ap (λ (z : ℕ). 2 * page * z) part_there in
        let held = bytes_fewer page _ _ (count_fewer (is_held_at m o) (is_weakly_held k.memory o) (off / page) (span page off len) (λ i e. same_held m o i ∙ holds o i e)) in
        let bytes : page * count_pages (is_weakly_held k.memory o) (off / page) (span page off len) ≡ held_bytes k (pages_stored k target.pid t) = ap (λ (z : Option Pages). held_bytes k z) (sym stored_there) in
        omega (arith, ready_there, store_there few, little, most, in_part, moved, held, bytes)

    copy_row : (sem : Semantics) → class_of sem ≡ class.Copy → ready_work k.memory o off len + store_work m o off len (few_of k.config sem) ≤ stored_bound k target.pid t sem
    copy_row Copy c = basic_row
    copy_row EmulatedCopy c =
        let row = ap (λ (b : Bool). if b then 2 * page * part_pages page t.addr t.stored + held_bytes k (pages_stored k target.pid t) else t.stored + fixed_bytes k (pages_stored k target.pid t)) aligned in
        omega (arith, row, emulated_row k.config.rcout)
    copy_row Share c = cc
    copy_row EmulatedShare c = cc
    copy_row Move c = cc
    copy_row EmulatedMove c = cc
    copy_row WeakMove c = cc
    copy_row EmulatedWeakMove c = cc

    -- the pages were made ready, and then the bytes stored
    pub stored_keeps : (new : Kernel) (few : ℕ) (at : Option ℕ) (s : ℕ) (note : Note) → few ≡ few_of k.config t.sem → CopiesAtMost (ready_work k.memory o off len) k.memory m → CopiesAtMost (store_work m o off len few) m new.memory → KeepsToBound k (event.Finish n) new (reply.Input at s note)
    stored_keeps new few at s note is ready store =
        let stores : CopiesAtMost (store_work m o off len (few_of k.config t.sem)) m new.memory = subst (λ (z : ℕ). CopiesAtMost (store_work m o off len z) m new.memory) is store in
        omega (arith, ready, stores, copy_row t.sem class_is, input_bound k n target.pid t at s note found inward target.owner)

  -- the store failed before the first byte was stored
  pub fault_keeps : (new : Kernel) → CopiesAtMost (ready_work k.memory o off len) k.memory new.memory → KeepsToBound k (event.Finish n) new reply.StoreFault
  fault_keeps new ready = omega (arith, ready, copy_row k.memory refl (λ a i e. e) t.sem class_is, fault_bound k n target.pid t found inward target.owner)
