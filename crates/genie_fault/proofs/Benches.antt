-- What the steps of tests leave.
use Rattle.std.proofs.Common.{◌≡◌, ℕ, ◌-◌, ◌<◌, ◌≤◌, Bool, true, false, List, length, arith, rules, refl, ap, sym, ◌∙◌, subst}
use Rattle.std.specs.Prelude.{Some, None}
use Rattle.genie_base.specs.Lemmas.Places.{num, count_by-set}
use Rattle.genie_frame.specs.declared.frame.FrameId.{FrameId}
use Rattle.genie_frame.specs.declared.frame.Owner.TheVariants.{Page}
use Rattle.genie_frame.specs.FrameTable.{FrameTable, owner_at, counts_at, is_held, set_counts}
use Rattle.genie_frame.specs.Frames.{stored, more_written, more_read, loan_ended, one_strong_more, one_output_less}
use Rattle.genie_store.specs.StoreView.{StoreView}
use Rattle.genie_object.specs.declared.memory.Memory.{Memory}
use Rattle.genie_object.specs.declared.pages.PageId.{PageId}
use Rattle.genie_object.specs.declared.pages.Place.TheVariants.{Frame}
use Rattle.genie_object.specs.Pages.{page_at, no_page, one_holder_more, is_there}
use Rattle.genie_object.specs.declared.objects.Entry.{Entry}
use Rattle.genie_object.specs.Objects.{entry_at, object_at}
use Rattle.genie_object.specs.Memory.{entry_frame, frame_of, frame_in}
use Rattle.genie_object.specs.Laws.{CanLendStrong}
use Rattle.genie_object.specs.Lemmas.Lent.{lends_soundly}
use Rattle.genie_object.specs.Sound.{IsSound}
use Rattle.genie_object.specs.Steps.{forbidden, shared, CanShare}
use Rattle.genie_object.specs.Calls.{OnlyMoves, TakesAtMost}
use Rattle.genie_object.specs.Touching.{is_entry}
use Rattle.genie_object.specs.Lemmas.Showing.{keeps_sound}
use Rattle.genie_object.specs.Lemmas.Touching.{sound_metered}
use Rattle.genie_object.specs.Lemmas.Lookup.{page_known}
use Rattle.genie_object.specs.Lemmas.Naming.{named_shared}
use Rattle.genie_object.specs.Lemmas.Forbidden.{narrows, unwritable_now, sound_forbidden, keeps_forbidden, others_unwritable, names_owner}
use Rattle.genie_object.specs.Lemmas.Shared.{sound_shared, keeps_shared}
use Rattle.genie_fault.specs.Benches.{IsBench}

pub bench_less : (o left : ℕ) (m : Memory) (v : StoreView) → IsBench o left m v → IsBench o (left - 1) m v
bench_less o left m v x = record { sound = x.sound; sized = x.sized; entries = x.entries; page = x.page; room = omega (arith, x.room) }

-- an entry was resolved, or the store has failed
pub bench_moved : (o i left : ℕ) (old m : Memory) (v w : StoreView) → 1 ≤ left → IsBench o left old v → OnlyMoves (is_entry o i) old m v w → TakesAtMost 1 1 old m → IsBench o (left - 1) m w
bench_moved o i left old m v w some x y z = record {
  sound = y.sound;
  sized = y.sized;
  entries = y.keeps.entries o ∙ x.entries;
  page = y.keeps.page ∙ x.page;
  room = omega (arith, x.room, z.added, y.keeps.most, some);
}

-- bytes were stored in a frame, and bytes were read
pub bench_stored : (o left : ℕ) (f : FrameId) (bytes : List ℕ) (n : ℕ) (m : Memory) (t : FrameTable) (v : StoreView) → IsBench o left m v → f.0 < length m.frames.owners → t ≡ more_written (stored m.frames f.0 0 bytes) n → IsBench o left (record m { frames = t }) v
bench_stored o left f bytes n m t v x l e = subst (λ u. IsBench o left (record m { frames = u }) v) (sym e) (record {
  sound = sound_metered (record m { frames = stored m.frames f.0 0 bytes }) _ (keeps_sound m f.0 0 bytes x.sound l);
  sized = record { count = x.sized.count; page = x.sized.page };
  entries = x.entries;
  page = x.page;
  room = x.room;
})

pub bench_read : (o left n : ℕ) (m : Memory) (t : FrameTable) (v : StoreView) → IsBench o left m v → t ≡ more_read m.frames n → IsBench o left (record m { frames = t }) v
bench_read o left n m t v x e = subst (λ u. IsBench o left (record m { frames = u }) v) (sym e) (record {
  sound = sound_metered m _ x.sound;
  sized = record { count = x.sized.count; page = x.sized.page };
  entries = x.entries;
  page = x.page;
  room = x.room;
})

-- a page of which one entry names no more than reading may be shared
pub can_share : (m : Memory) (o i j : ℕ) (p : PageId) → IsSound m → i < length (object_at m.objects o) → j < length (object_at m.objects o) → (entry_at m.objects o i).page ≡ Some p → (entry_at m.objects o j).page ≡ None → ((f : FrameId) → (page_at m.pages.pages p.0).place ≡ Frame f → is_held (counts_at m.frames f.0) ≡ false) → CanShare (forbidden m o i) o j p.0
can_share m o i j p s li lj is empty unheld = record {
  sound = sound_forbidden m o i li s;
  there = omega (arith, lj, (keeps_forbidden m o i li).entries o);
  empty = (narrows m o i li o j).page ∙ empty;
  some = named_shared m.pages.pages m.objects o i p s.shared is;
  unheld = unheld;
  unwritable = others_unwritable (forbidden m o i) o i p (sound_forbidden m o i li s) ((narrows m o i li o i).page ∙ is) (unwritable_now m o i li);
}

pub bench_shared : (o i j p left : ℕ) (m : Memory) (v : StoreView) → IsBench o left m v → i < length (object_at m.objects o) → CanShare (forbidden m o i) o j p → IsBench o left (shared (forbidden m o i) o j p) v
bench_shared o i j p left m v x li can =
    let sums = count_by-set is_there m.pages.pages p (one_holder_more (page_at m.pages.pages p)) no_page (page_known m p can.some) in
    let was : num (is_there (page_at m.pages.pages p)) ≡ 1 = (let t : is_there (page_at m.pages.pages p) ≡ true = grind (arith, rules, can.some) in ap num t) in
    record {
      sound = sound_shared (forbidden m o i) o j p can;
      sized = record { count = x.sized.count; page = x.sized.page };
      entries = (keeps_shared (forbidden m o i) o j p can).entries o ∙ (keeps_forbidden m o i li).entries o ∙ x.entries;
      page = x.page;
      room = omega (arith, x.room, sums, was, at_most (is_there (one_holder_more (page_at m.pages.pages p))));
    }
  where
    at_most : (b : Bool) → num b ≤ 1
    at_most true = omega arith
    at_most false = omega arith

-- the frame of a page that one entry names no more than reading, and that no device holds, may be lent strongly
pub can_lend : (m : Memory) (o i : ℕ) (p : PageId) (f : FrameId) → IsSound m → i < length (object_at m.objects o) → (entry_at m.objects o i).page ≡ Some p → (page_at m.pages.pages p.0).place ≡ Frame f → is_held (counts_at m.frames f.0) ≡ false → CanLendStrong (forbidden m o i) f.0 p.0
can_lend m o i p f s l is at free =
    let sound = sound_forbidden m o i l s in
    record {
      sound = sound;
      owner = s.placed.in_frame p.0 f at;
      unheld = free;
      unwritable = λ a b e. others_unwritable (forbidden m o i) o i p sound ((narrows m o i l o i).page ∙ is) (unwritable_now m o i l) a b (names_owner (forbidden m o i) f.0 a b p sound (s.placed.in_frame p.0 f at) e);
    }

pub bench_lent : (o i left : ℕ) (p : PageId) (f : FrameId) (m : Memory) (t : FrameTable) (os : List (List Entry)) (v : StoreView) → IsBench o left m v → i < length (object_at m.objects o) → CanLendStrong (forbidden m o i) f.0 p.0 → t ≡ set_counts m.frames f.0 (one_strong_more (counts_at m.frames f.0)) → os ≡ (forbidden m o i).objects → IsBench o left (record m { frames = t; objects = os }) v
bench_lent o i left p f m t os v x l can e d = subst (λ u. IsBench o left (record m { frames = u; objects = os }) v) (sym e) (subst (λ u. IsBench o left (record m { frames = set_counts m.frames f.0 (one_strong_more (counts_at m.frames f.0)); objects = u }) v) (sym d) (record {
  sound = (lends_soundly (forbidden m o i) f.0 p.0 can).begins;
  sized = record { count = x.sized.count; page = x.sized.page };
  entries = (keeps_forbidden m o i l).entries o ∙ x.entries;
  page = x.page;
  room = x.room;
}))

-- a strong loan may end on a page's frame
pub bench_ended : (o left f p : ℕ) (m : Memory) (t : FrameTable) (v : StoreView) → IsBench o left m v → owner_at m.frames f ≡ Page p → is_held (counts_at m.frames f) ≡ false → 0 < (counts_at m.frames f).strong → t ≡ loan_ended m.frames f (one_output_less true (counts_at m.frames f)) → IsBench o left (record m { frames = t }) v
bench_ended o left f p m t v x own free some e = subst (λ u. IsBench o left (record m { frames = u }) v) (sym e) (record {
  sound = (lends_soundly m f p (record { sound = x.sound; owner = own; unheld = free; unwritable = λ a b w. by_flag a b w (entry_at m.objects a b).writable refl })).ends;
  sized = record { count = x.sized.count; page = x.sized.page };
  entries = x.entries;
  page = x.page;
  room = x.room;
})
  where
    -- an entry that may be written has no lent frame
    by_flag : (a b : ℕ) → entry_frame m a b ≡ Some f → (w : Bool) → (entry_at m.objects a b).writable ≡ w → w ≡ false
    by_flag a b at false w = refl
    by_flag a b at true w =
        let h = x.sound.guarded.writable a b w in
        let two : Some h.frame.0 ≡ Some f = sym (ap (frame_of m.pages.pages) h.is_page ∙ ap frame_in h.is_place) ∙ at in
        let same : h.frame.0 ≡ f = cc in
        absurd (omega (arith, some, h.unlent, ap (λ n. (counts_at m.frames n).strong) same))
