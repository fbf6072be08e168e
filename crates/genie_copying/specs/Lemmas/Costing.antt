-- What calls of a memory cost, by the kinds of pages.
use Rattle.std.proofs.Common.{◌≡◌, ℕ, zero, suc, ◌+◌, ◌≤◌, ◌*◌, Bool, true, false, List, refl, sym, ◌∙◌}
use Rattle.std.proofs.Common.{ap, arith}
use Rattle.std.specs.Prelude.{Option, Some, None, ◌||◌, nat_lt, if◌then◌else◌}
use Rattle.genie_hiding.specs.Hidden.{is_among}
use Rattle.genie_object.specs.declared.memory.Memory.{Memory}
use Rattle.genie_object.specs.declared.pages.PageId.{PageId}
use Rattle.genie_object.specs.declared.pages.Place.{Place}
use Rattle.genie_object.specs.declared.pages.Place.TheVariants.{Zero, Frame, Slot}
use Rattle.genie_object.specs.Costs.{is_untouched, is_zero, is_strong_in, must_copy, write_work, writes_work, is_fixed as cannot_stay}
use Rattle.genie_object.specs.Memory.{frame_in, frame_of}
use Rattle.genie_object.specs.Objects.{entry_at}
use Rattle.genie_object.specs.Pages.{page_at}
use Rattle.genie_frame.specs.FrameTable.{counts_at}
use Rattle.genie_copying.specs.Kinds.{count_pages, is_unlendable, is_fixed}
use Rattle.genie_copying.specs.Ranges.{Pages, count_in}
use Rattle.genie_copying.specs.Spending.{NoDearer}
use Rattle.genie_copying.specs.Lemmas.Counting.{bytes_fewer, bytes_next, bytes_none, count_fewer}

lent_there : (m : Memory) (z b : Bool) (place : Place) → (z || b || elim (frame_in place) [ None ↦ false | Some f ↦ nat_lt 0 (counts_at m.frames f).strong ]) ≡ (z || b || is_strong_in m.frames.counts place)
lent_there m z b Zero = refl
lent_there m z b (Frame f) = refl
lent_there m z b (Slot s) = refl

fixed_of : (m : Memory) (e : Option PageId) → ((elim e [ None ↦ true | Some p ↦ is_zero (page_at m.pages.pages p.0).place ]) || (elim e [ None ↦ false | Some p ↦ nat_lt 1 (page_at m.pages.pages p.0).shares ]) || (elim (frame_of m.pages.pages e) [ None ↦ false | Some f ↦ nat_lt 0 (counts_at m.frames f).strong ])) ≡ elim e [ None ↦ true | Some p ↦ cannot_stay m.frames.counts (page_at m.pages.pages p.0) ]
fixed_of m None = refl
fixed_of m (Some p) = lent_there m (is_zero (page_at m.pages.pages p.0).place) (nat_lt 1 (page_at m.pages.pages p.0).shares) (page_at m.pages.pages p.0).place

-- a page that can't be written in place is one that a write must copy
pub fixed_copied : (m : Memory) (o i : ℕ) → is_fixed m o i ≡ must_copy m o i
fixed_copied m o i = fixed_of m (entry_at m.objects o i).page

-- what it costs to make pages writable in place are the bytes of those that aren't
write_page : (m : Memory) (o i : ℕ) → write_work m o i ≡ (if is_fixed m o i then m.frames.page else 0)
write_page m o i = ap (λ (b : Bool). if b then m.frames.page else 0) (sym (fixed_copied m o i))

pub writes_bytes : (m : Memory) (o first n : ℕ) → writes_work m o first n ≡ m.frames.page * count_pages (is_fixed m o) first n
writes_bytes m o first zero = sym (bytes_none m.frames.page (is_fixed m o) first)
writes_bytes m o first (suc n) = let next = bytes_next m.frames.page (is_fixed m o) first n in omega (arith, next, writes_bytes m o first n, write_page m o (first + n))

-- after a call that made no page dearer no more pages of an object are untouched, and no more can't be written in place
pub untouched_fewer : (hidden : List ℕ) (old new : Memory) (r : Pages) → NoDearer hidden old new → is_among r.object hidden ≡ false → new.frames.page * count_in is_untouched new r ≤ old.frames.page * count_in is_untouched old r
untouched_fewer hidden old new r x h =
    let fewer = bytes_fewer old.frames.page _ _ (count_fewer (is_untouched new r.object) (is_untouched old r.object) r.first r.count (λ i. x.reads r.object i h)) in
    rw x.page fewer

pub fixed_fewer : (hidden : List ℕ) (old new : Memory) (r : Pages) → NoDearer hidden old new → is_among r.object hidden ≡ false → new.frames.page * count_in is_fixed new r ≤ old.frames.page * count_in is_fixed old r
fixed_fewer hidden old new r x h =
    let fewer = bytes_fewer old.frames.page _ _ (count_fewer (is_fixed new r.object) (is_fixed old r.object) r.first r.count (λ i e. fixed_copied new r.object i ∙ x.writes r.object i h (sym (fixed_copied old r.object i) ∙ e))) in
    rw x.page fewer

pub unlendable_fewer : (hidden : List ℕ) (old new : Memory) (r : Pages) → NoDearer hidden old new → is_among r.object hidden ≡ false → new.frames.page * count_in is_unlendable new r ≤ old.frames.page * count_in is_unlendable old r
unlendable_fewer hidden old new r x h =
    let fewer = bytes_fewer old.frames.page _ _ (count_fewer (is_unlendable new r.object) (is_unlendable old r.object) r.first r.count (λ i. x.sends r.object i h)) in
    rw x.page fewer
