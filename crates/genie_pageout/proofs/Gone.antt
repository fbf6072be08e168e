-- What is left where a page was put to the store.
use Rattle.std.proofs.Common.{◌≡◌, ℕ, ◌<◌, ◌≤◌, ◌+◌, Bool, true, false, not, List, refl, arith, ap, length, set, get_or, sym, ◌∙◌, inl, inr, subst, get_or-set_other, get_or-set_same}
use Rattle.std.specs.Prelude.{◌&&◌, Option, Some, None, count_by, if◌then◌else◌}
use Rattle.std.specs.Option.{option_map}
use Rattle.genie_base.specs.Lemmas.Places.{num, count_by-set, same_or}
use Rattle.genie_frame.specs.declared.frame.Meters.{Meters}
use Rattle.genie_frame.specs.declared.frame.Owner.{Owner}
use Rattle.genie_frame.specs.declared.frame.Owner.TheVariants.{Free, Page, System, Pool, Nobody}
use Rattle.genie_frame.specs.declared.frame.Counts.{Counts}
use Rattle.genie_frame.specs.FrameTable.{owner_at, counts_at, is_lent, is_held, is_page, no_counts}
use Rattle.genie_frame.specs.Frames.{unowned}
use Rattle.genie_store.specs.StoreView.{StoreView}
use Rattle.genie_object.specs.declared.objects.Entry.{Entry}
use Rattle.genie_object.specs.declared.memory.Memory.{Memory}
use Rattle.genie_object.specs.Objects.{entry_at, names}
use Rattle.genie_object.specs.Memory.{seen}
use Rattle.genie_object.specs.Sound.{IsSound, FitsHidden}
use Rattle.genie_object.specs.Steps.{metered}
use Rattle.genie_object.specs.Lemmas.Lookup.{in_range, count_some}
use Rattle.genie_object.specs.Lemmas.Entries.{naming_there}
use Rattle.genie_object.specs.Lemmas.Touching.{keeps_all, keeps_metered, sound_metered}
use Rattle.genie_hiding.specs.Hidden.{is_hidden, is_visible, has_hidden, is_among, outside}
use Rattle.genie_hiding.specs.Marking.{is_marked}
use Rattle.genie_hiding.specs.Rooms.{MakesRoom, AllShed, visible_pages, count_both}
use Rattle.genie_hiding.specs.Lemmas.Searching.{among_found, count_same, named_hidden}
use Rattle.genie_hiding.specs.Lemmas.Naming.{cached_kept, same_visible, times_same, visible_unowned, names_same, not_true}
use Rattle.genie_hiding.specs.Lemmas.Sweeping.{swept_one, count_both-set}
use Rattle.genie_pageout.proofs.Swept.{count_both-same}
use Rattle.genie_pageout.specs.Evicting.{IsGone}
use Rattle.genie_pageout.specs.Going.{may_go, may_go_from, allowed, AreMarks}

-- a page went to the store
pub rooms_gone : (hidden : List ℕ) (old new : Memory) (v w : StoreView) (p f : ℕ) → IsSound old → FitsHidden old hidden → owner_at old.frames f ≡ Page p → is_hidden old.objects hidden p ≡ false → w.count ≡ v.count → w.page ≡ v.page → IsGone old new v w p f → MakesRoom hidden old new v w
rooms_gone hidden old new v w p f s fits owned seen' count page x = record {
  sound = x.sound;
  sized = λ h. record { count = count ∙ h.count ∙ sym x.keeps.slots; page = page ∙ h.page ∙ sym x.keeps.page };
  fits = record {
    cached = λ k l. cached_kept (λ o i. names p (entry_at old.objects o i)) old new (get_or hidden k 0) s x.touches (x.keeps.entries (get_or hidden k 0)) (λ i q e. quiet k l i) (fits.cached k l);
    apart = fits.apart;
  };
  seen = ap (option_map (outside hidden)) x.seen;
  keeps = x.keeps;
  counts = x.counts;
  landed = x.landed;
  narrows = λ o i e. x.narrows o i;
  shares = λ o i q e h. x.shares q.0;
  reads = λ o i e. x.costs.read o i;
  writes = λ o i e. x.costs.write o i;
  pages = omega (arith, x.pages);
  sweeps = swept_one old new f p x.owners x.counts s.shaped.counted there owned (λ o i q w. sym (names_same q (entry_at new.objects o i) (entry_at old.objects o i) (x.narrows o i).page) ∙ w);
  slots = λ h. omega (arith, h, fewer, x.slots);
} where
  there : f < length old.frames.owners
  there = in_range old.frames.owners f Free (λ n. let bad : Free ≡ Page p = sym n ∙ owned in cc)

  among_here : (k : ℕ) → k < length hidden → is_among (get_or hidden k 0) hidden ≡ true
  among_here k l = among_found hidden k l

  quiet : (k : ℕ) → k < length hidden → (i : ℕ) → names p (entry_at old.objects (get_or hidden k 0) i) ≡ false
  quiet k l i = not_true _ (λ n. sym (named_hidden old.objects hidden (get_or hidden k 0) i p (among_here k l) n (naming_there old.objects p (get_or hidden k 0) i n)) ∙ seen')

  same : (o : Owner) → is_visible new.objects hidden o ≡ is_visible old.objects hidden o
  same o = same_visible new.objects old.objects hidden o (λ q e. times_same new.objects old.objects hidden q x.keeps.entries (λ a b. names_same q (entry_at new.objects a b) (entry_at old.objects a b) (x.narrows a b).page))

  fewer : visible_pages new hidden + 1 ≡ visible_pages old hidden
  fewer =
      let sums = count_by-set (is_visible old.objects hidden) old.frames.owners f (unowned (counts_at old.frames f)) Free there in
      let was = ap num (ap (is_visible old.objects hidden) owned ∙ ap not seen') in
      let now = ap num (visible_unowned old.objects hidden (counts_at old.frames f)) in
      let all = count_same (is_visible new.objects hidden) (is_visible old.objects hidden) Free new.frames.owners (set old.frames.owners f (unowned (counts_at old.frames f))) (ap length x.owners) (λ k. ap (λ os. is_visible new.objects hidden (get_or os k Free)) x.owners ∙ same (get_or (set old.frames.owners f (unowned (counts_at old.frames f))) k Free)) in
      omega (arith, sums, was, now, all)

-- nothing changed but the meters and the store's count of faults
rooms_metered : (hidden : List ℕ) (m : Memory) (t : Meters) (v w : StoreView) → IsSound m → FitsHidden m hidden → w.count ≡ v.count → w.page ≡ v.page → w.slots ≡ v.slots → MakesRoom hidden m (metered m t) v w
rooms_metered hidden m t v w s f count page slots = record {
  sound = sound_metered m t s;
  sized = λ h. record { count = count ∙ h.count; page = page ∙ h.page };
  fits = record { cached = λ k l. let c = f.cached k l in record { there = c.there; own = c.own; frame = c.frame; in_frame = c.in_frame; unheld = c.unheld }; apart = f.apart };
  seen = ap (λ x. option_map (outside hidden) (option_map (seen m) x)) slots;
  keeps = keeps_metered m m t (keeps_all m);
  counts = refl;
  landed = refl;
  narrows = λ o i e. record { page = refl; readable = λ h. h; writable = λ h. h };
  shares = λ o i p e h. refl;
  reads = λ o i e h. h;
  writes = λ o i e h. h;
  pages = omega arith;
  sweeps = record { pages = λ g q e. e; named = λ o i q e. e; free = omega arith; available = refl };
  slots = λ h. h;
}

pub rooms_left : (hidden : List ℕ) (m new : Memory) (v w : StoreView) → IsSound m → FitsHidden m hidden → new ≡ metered m new.frames.meters → w.count ≡ v.count → w.page ≡ v.page → w.slots ≡ v.slots → MakesRoom hidden m new v w
rooms_left hidden m new v w s f e count page slots = subst (λ n. MakesRoom hidden m n v w) (sym e) (rooms_metered hidden m new.frames.meters v w s f count page slots)

-- a page that went to the store was one that might go, and no other comes to be one
module _ (hidden : List ℕ) (old new : Memory) (v w : StoreView) (p f : ℕ) (s : IsSound old) (owned : owner_at old.frames f ≡ Page p) (visible : is_hidden old.objects hidden p ≡ false) (unheld : is_held (counts_at old.frames f) ≡ false) (x : IsGone old new v w p f) where
  there_f : f < length old.frames.owners
  there_f = in_range old.frames.owners f Free (λ n. let bad : Free ≡ Page p = sym n ∙ owned in cc)

  same_test : (o : Owner) (c : Counts) → may_go new.objects hidden o c ≡ may_go old.objects hidden o c
  same_test o c = ap (λ b. b && not (is_held c)) (same_visible new.objects old.objects hidden o (λ q e. times_same new.objects old.objects hidden q x.keeps.entries (λ a b. names_same q (entry_at new.objects a b) (entry_at old.objects a b) (x.narrows a b).page)))

  none_now : may_go old.objects hidden (unowned (counts_at old.frames f)) (counts_at old.frames f) ≡ false
  none_now = ap (λ b. b && not (is_held (counts_at old.frames f))) (visible_unowned old.objects hidden (counts_at old.frames f))

  pub one_fewer : allowed new hidden + 1 ≡ allowed old hidden
  one_fewer =
      let sums = count_both-set (may_go old.objects hidden) old.frames.owners old.frames.counts f (unowned (counts_at old.frames f)) there_f s.shaped.counted in
      let was = ap num (ap (λ o. may_go old.objects hidden o (counts_at old.frames f)) owned ∙ (λ k. not (visible k) && not (unheld k))) in
      let now = ap num none_now in
      let all = count_both-same (may_go new.objects hidden) (may_go old.objects hidden) new.frames.owners new.frames.counts same_test in
      let lists : count_both (may_go old.objects hidden) new.frames.owners new.frames.counts ≡ count_both (may_go old.objects hidden) (set old.frames.owners f (unowned (counts_at old.frames f))) old.frames.counts = λ k. count_both (may_go old.objects hidden) (x.owners k) (x.counts k) in
      omega (arith, sums, was, now, all, lists)

  at_now : (g : ℕ) → may_go_from new hidden g ≡ may_go old.objects hidden (get_or (set old.frames.owners f (unowned (counts_at old.frames f))) g Free) (counts_at old.frames g)
  at_now g = same_test (owner_at new.frames g) (counts_at new.frames g) ∙ (λ k. may_go old.objects hidden (get_or (x.owners k) g Free) (get_or (x.counts k) g no_counts))

  pub gone_here : may_go_from new hidden f ≡ false
  gone_here = at_now f ∙ ap (λ o. may_go old.objects hidden o (counts_at old.frames f)) (get_or-set_same old.frames.owners f (unowned (counts_at old.frames f)) Free there_f) ∙ none_now

  pub gone_still : (g : ℕ) → may_go_from old hidden g ≡ false → may_go_from new hidden g ≡ false
  gone_still g e = elim (same_or g f) [
    | inl h ↦ ap (may_go_from new hidden) h ∙ gone_here
    | inr n ↦ at_now g ∙ ap (λ o. may_go old.objects hidden o (counts_at old.frames g)) (get_or-set_other old.frames.owners f g (unowned (counts_at old.frames f)) Free n) ∙ e
  ]

pub held_stays : (objects : List (List Entry)) (hidden : List ℕ) (o : Owner) (c : Counts) → (is_page o && not (is_held c)) ≡ false → may_go objects hidden o c ≡ false
held_stays objects hidden Free c e = refl
held_stays objects hidden (Page p) c e = elim (is_hidden objects hidden p) as (λ b. (not b && not (is_held c)) ≡ false) [ true ↦ refl | false ↦ e ]
held_stays objects hidden (System t) c e = refl
held_stays objects hidden (Pool d) c e = refl
held_stays objects hidden Nobody c e = refl

-- the page in a marked frame is a hidden region's
pub marked_stays : (m : Memory) (hidden : List ℕ) (marks : List Bool) (f : ℕ) → AreMarks m hidden marks → is_marked marks f ≡ true → may_go_from m hidden f ≡ false
marked_stays m hidden marks f x e = go (owner_at m.frames f) (sym (x.each f) ∙ e) where
  go : (o : Owner) → has_hidden m.objects hidden o ≡ true → may_go m.objects hidden o (counts_at m.frames f) ≡ false
  go Free h = refl
  go (Page p) h = ap (λ b. not b && not (is_held (counts_at m.frames f))) h
  go (System t) h = refl
  go (Pool d) h = refl
  go Nobody h = refl

-- a page in a frame that isn't marked, or isn't lent where every hidden page is, is no hidden region's
pub unmarked : (m : Memory) (hidden : List ℕ) (marks : List Bool) (f p : ℕ) → AreMarks m hidden marks → owner_at m.frames f ≡ Page p → is_marked marks f ≡ false → is_hidden m.objects hidden p ≡ false
unmarked m hidden marks f p x owned e = sym (ap (has_hidden m.objects hidden) owned) ∙ sym (x.each f) ∙ e

pub unshed : (m : Memory) (hidden : List ℕ) (f p : ℕ) → AllShed m hidden → owner_at m.frames f ≡ Page p → is_lent (counts_at m.frames f) ≡ false → is_hidden m.objects hidden p ≡ false
unshed m hidden f p x owned e = not_true (is_hidden m.objects hidden p) (λ h. sym (x f (ap (has_hidden m.objects hidden) owned ∙ h)) ∙ e)

-- a slot is free where a page outside hidden regions is in a frame
pub slot_free : (m : Memory) (hidden : List ℕ) (f p : ℕ) → f < length m.frames.owners → owner_at m.frames f ≡ Page p → is_hidden m.objects hidden p ≡ false → visible_pages m hidden ≤ count_by not m.slots → 0 < count_by not m.slots
slot_free m hidden f p l owned e h =
    let some : 0 < visible_pages m hidden = count_some (is_visible m.objects hidden) Free m.frames.owners f l (ap (is_visible m.objects hidden) owned ∙ ap not e) in
    omega (arith, some, h)

-- marks stay right where a page that isn't hidden goes
module _ (hidden : List ℕ) (old new : Memory) (v w : StoreView) (p f : ℕ) (marks : List Bool) (s : IsSound old) (owned : owner_at old.frames f ≡ Page p) (visible : is_hidden old.objects hidden p ≡ false) (x : IsGone old new v w p f) (y : AreMarks old hidden marks) where
  has_same : (o : Owner) → has_hidden new.objects hidden o ≡ has_hidden old.objects hidden o
  has_same Free = refl
  has_same (Page q) = ap (λ n. Rattle.std.specs.Prelude.nat_lt 0 n) (times_same new.objects old.objects hidden q x.keeps.entries (λ a b. names_same q (entry_at new.objects a b) (entry_at old.objects a b) (x.narrows a b).page))
  has_same (System t) = refl
  has_same (Pool d) = refl
  has_same Nobody = refl

  hidden_unowned : (c : Counts) → has_hidden old.objects hidden (unowned c) ≡ false
  hidden_unowned c = elim (is_lent c) as (λ b. has_hidden old.objects hidden (if b then Nobody else Free) ≡ false) [ true ↦ refl | false ↦ refl ]

  there_gone : f < length old.frames.owners
  there_gone = in_range old.frames.owners f Free (λ n. let bad : Free ≡ Page p = sym n ∙ owned in cc)

  pub marks_gone : AreMarks new hidden marks
  marks_gone = record {
    each = λ g. elim (same_or g f) [
      | inl h ↦
          ap (is_marked marks) h ∙ y.each f ∙ ap (has_hidden old.objects hidden) owned ∙ visible
          ∙ sym (has_same (owner_at new.frames g) ∙ ap (has_hidden old.objects hidden) (ap (owner_at new.frames) h ∙ ap (λ os. get_or os f Free) x.owners ∙ get_or-set_same old.frames.owners f (unowned (counts_at old.frames f)) Free there_gone) ∙ hidden_unowned (counts_at old.frames f))
      | inr n ↦ y.each g ∙ sym (has_same (owner_at new.frames g) ∙ ap (has_hidden old.objects hidden) (ap (λ os. get_or os g Free) x.owners ∙ get_or-set_other old.frames.owners f g (unowned (counts_at old.frames f)) Free n))
    ];
    room = omega (arith, x.keeps.number, y.room);
  }
