-- An entry that leaves its page, which goes with it.
use Rattle.std.proofs.Common.{◌≡◌, ◌≢◌, ℕ, ◌<◌, ◌≤◌, Bool, true, false, List, [], refl, arith, ap, length, set, sym, ◌∙◌, inl, inr, eq-eqb, get_or-set_same, get_or-set_other, length-set}
use Rattle.std.specs.Prelude.{◌==◌, ◌&&◌, count_by, Option, Some, None, if◌then◌else◌}
use Rattle.genie_base.specs.Lemmas.Places.{num, same_or, count_by-set}
use Rattle.genie_frame.specs.declared.frame.Owner.{Owner}
use Rattle.genie_frame.specs.declared.frame.Owner.TheVariants.{Free, Page, Nobody}
use Rattle.genie_frame.specs.declared.frame.Counts.{Counts}
use Rattle.genie_frame.specs.declared.frame.FrameId.{FrameId}
use Rattle.genie_frame.specs.FrameTable.{owner_at, counts_at, bytes_at, is_held, is_lent, is_page, is_system, Agree}
use Rattle.genie_object.specs.declared.pages.Place.{Place}
use Rattle.genie_object.specs.declared.pages.Place.TheVariants.{Zero, Frame, Slot}
use Rattle.genie_object.specs.declared.pages.PageInfo.{PageInfo}
use Rattle.genie_object.specs.declared.pages.PageId.{PageId}
use Rattle.genie_object.specs.declared.objects.Entry.{Entry}
use Rattle.genie_object.specs.declared.memory.Memory.{Memory}
use Rattle.genie_object.specs.Pages.{page_at, no_page, is_there}
use Rattle.genie_object.specs.Objects.{entry_at, object_at, names, no_entry}
use Rattle.genie_object.specs.Memory.{Seen, seen, see_entry, is_kept, page_bytes, place_bytes, zeros, frame_of, frame_in}
use Rattle.genie_object.specs.Sound.{IsSound, AreSlotted, IsFramed, IsPrivate, is_slot, strong_at, times_named}
use Rattle.genie_object.specs.Steps.{left_owners, left_slots}
use Rattle.genie_object.specs.Touching.{KeepsLoans, Touches, Lasts, IsOutside, system_owner}
use Rattle.genie_object.specs.Lemmas.Lookup.{in_range, page_known, frame_known, slot_taken, slots_kept, slot_left, unowned_not_page, unowned_free, unowned_nobody, kept_left, named, other_at}
use Rattle.genie_object.specs.Lemmas.Entries.{entry_same, entry_or, times_set, entries_size, times_some, naming_there}
use Rattle.genie_object.specs.Lemmas.Relocated.{Became, became, owners_unseen, frame_is, unowned_system}
use Rattle.genie_object.specs.Lemmas.Relocated.Became.{Gained, Lost, Stayed}
use Rattle.genie_object.specs.Lemmas.Touching.{as_many}
use Rattle.genie_object.specs.Lemmas.Changing.{shows_disowned}
use Rattle.genie_object.specs.Leaving.{dropped, see_gone, IsOwnPage, CanDrop}

pub left_length : (owners : List Owner) (counts : List Counts) (from : Place) → length (left_owners owners counts from) ≡ length owners
left_length owners counts Zero = refl
left_length owners counts (Slot s) = refl
left_length owners counts (Frame f) = length-set owners f.0 _

pub slots_length : (slots : List Bool) (from : Place) → length (left_slots slots from) ≡ length slots
slots_length slots Zero = refl
slots_length slots (Frame f) = refl
slots_length slots (Slot s) = length-set slots s false

slotted_left : (pages : List PageInfo) (slots : List Bool) (p : ℕ) (from : Place) → (page_at pages p).place ≡ from → p < length pages → AreSlotted slots pages → AreSlotted (left_slots slots from) (set pages p no_page)
slotted_left pages slots p Zero e l x = slots_kept pages slots p no_page (λ s. ap (is_slot s) e) l x
slotted_left pages slots p (Frame f) e l x = slots_kept pages slots p no_page (λ s. ap (is_slot s) e) l x
slotted_left pages slots p (Slot r) e l x = slot_left pages slots p r no_page e (λ s. refl) l (in_range slots r false (λ n. let bad : true ≡ false = sym (slot_taken pages slots p r e l x) ∙ n in cc)) x

module _ (m : Memory) (o i : ℕ) (p : PageId) (x : IsOwnPage m o i p) where
  abbrev from : Place
  from = (page_at m.pages.pages p.0).place

  abbrev new : Memory
  new = dropped m o i p.0

  pub there : i < length (object_at m.objects o)
  there = naming_there m.objects p.0 o i (named p (entry_at m.objects o i) x.is_page)

  some : 0 < (page_at m.pages.pages p.0).shares
  some = omega (arith, x.alone)

  known : p.0 < length m.pages.pages
  known = page_known m p.0 some

  pub owned : (f : FrameId) → from ≡ Frame f → owner_at m.frames f.0 ≡ Page p.0
  owned f e = x.sound.placed.in_frame p.0 f e

  pub frame_dropped : (h : ℕ) → Became m.frames.owners m.frames.counts p.0 from Zero h (owner_at new.frames h)
  frame_dropped h = became m.frames.owners m.frames.counts p.0 from Zero h (λ g e. cc) (λ f e. frame_known m p.0 f x.sound e) (λ f g e w. cc)

  of_p : page_at new.pages.pages p.0 ≡ no_page
  of_p = get_or-set_same m.pages.pages p.0 no_page no_page known

  pub page_other : (q : ℕ) → q ≢ p.0 → page_at new.pages.pages q ≡ page_at m.pages.pages q
  page_other q n = get_or-set_other m.pages.pages p.0 q no_page no_page n

  -- a place that a page has now isn't that of page p
  not_zero : (q : ℕ) (h : FrameId) → (page_at new.pages.pages q).place ≡ Frame h → q ≢ p.0
  not_zero q h e s = let bad : Zero ≡ Frame h = ap (λ (r : PageInfo). r.place) (sym of_p) ∙ ap (λ n. (page_at new.pages.pages n).place) (sym s) ∙ e in cc

  in_frame : (q : ℕ) (h : FrameId) → (page_at new.pages.pages q).place ≡ Frame h → Became m.frames.owners m.frames.counts p.0 from Zero h.0 (owner_at new.frames h.0) → owner_at new.frames h.0 ≡ Page q
  in_frame q h e (Gained g t w v) = cc
  in_frame q h e (Lost f t w v) =
      let n = not_zero q h e in
      let was : owner_at m.frames h.0 ≡ Page q = x.sound.placed.in_frame q h (ap (λ (r : PageInfo). r.place) (sym (page_other q n)) ∙ e) in
      let bad : Page q ≡ Page p.0 = sym was ∙ ap (owner_at m.frames) w ∙ owned f t in absurd (n cc)
  in_frame q h e (Stayed a b v) = v ∙ x.sound.placed.in_frame q h (ap (λ (r : PageInfo). r.place) (sym (page_other q (not_zero q h e))) ∙ e)

  -- a page that has the frame that it had isn't p
  stays_other : (h q : ℕ) → owner_at m.frames h ≡ Page q → ((f : FrameId) → from ≡ Frame f → h ≢ f.0) → q ≢ p.0
  stays_other h q e b s =
      let f : FrameId = record { 0 = h } in
      b f (ap (λ n. (page_at m.pages.pages n).place) (sym s) ∙ x.sound.placed.of_page f q e) refl

  of_page : (h : FrameId) (q : ℕ) → owner_at new.frames h.0 ≡ Page q → Became m.frames.owners m.frames.counts p.0 from Zero h.0 (owner_at new.frames h.0) → (page_at new.pages.pages q).place ≡ Frame h
  of_page h q e (Gained g t w v) = cc
  of_page h q e (Lost f t w v) = absurd (unowned_not_page (counts_at m.frames h.0) q (sym v ∙ e))
  of_page h q e (Stayed a b v) = ap (λ (r : PageInfo). r.place) (page_other q (stays_other h.0 q (sym v ∙ e) b)) ∙ x.sound.placed.of_page h q (sym v ∙ e)

  agree : (h : ℕ) → Became m.frames.owners m.frames.counts p.0 from Zero h (owner_at new.frames h) → Agree (owner_at new.frames h) (counts_at m.frames h)
  agree h (Gained g t w v) = cc
  agree h (Lost f t w v) = record { free = λ e. unowned_free (counts_at m.frames h) (sym v ∙ e); nobody = λ e. unowned_nobody (counts_at m.frames h) (sym v ∙ e) }
  agree h (Stayed a b v) = record { free = λ e. (x.sound.lent h).free (sym v ∙ e); nobody = λ e. (x.sound.lent h).nobody (sym v ∙ e) }

  alone : (h q : ℕ) → owner_at new.frames h ≡ Page q → is_held (counts_at m.frames h) ≡ true → Became m.frames.owners m.frames.counts p.0 from Zero h (owner_at new.frames h) → (page_at new.pages.pages q).shares ≡ 1
  alone h q e k (Gained g t w v) = cc
  alone h q e k (Lost f t w v) = absurd (unowned_not_page (counts_at m.frames h) q (sym v ∙ e))
  alone h q e k (Stayed a b v) = ap (λ (r : PageInfo). r.shares) (page_other q (stays_other h q (sym v ∙ e) b)) ∙ x.sound.held.alone h q (sym v ∙ e) k

  unlent : (h : ℕ) → is_system (owner_at new.frames h) ≡ false → is_held (counts_at m.frames h) ≡ true → Became m.frames.owners m.frames.counts p.0 from Zero h (owner_at new.frames h) → strong_at m.frames.counts h ≡ 0
  unlent h e k (Gained g t w v) = cc
  unlent h e k (Lost f t w v) = x.sound.held.unlent h (ap is_system (ap (owner_at m.frames) w ∙ owned f t)) k
  unlent h e k (Stayed a b v) = x.sound.held.unlent h (ap is_system (sym v) ∙ e) k

  names_here : (q : ℕ) → names q (entry_at m.objects o i) ≡ (p.0 == q)
  names_here q = ap (λ page. elim page as (λ _. Bool) [ None ↦ false | Some r ↦ r.0 == q ]) x.is_page

  times_p : times_named new.objects p.0 ≡ 0
  times_p = omega (arith, times_set m.objects o i no_entry there p.0, x.sound.shared.counted p.0, x.alone, ap num (named p (entry_at m.objects o i) x.is_page))

  counted : (q : ℕ) → (page_at new.pages.pages q).shares ≡ times_named new.objects q
  counted q = elim (same_or q p.0) [
    | inl s ↦ ap (λ n. (page_at new.pages.pages n).shares) s ∙ ap (λ (r : PageInfo). r.shares) of_p ∙ sym times_p ∙ ap (times_named new.objects) (sym s)
    | inr n ↦ ap (λ (r : PageInfo). r.shares) (page_other q n) ∙ omega (arith, x.sound.shared.counted q, times_set m.objects o i no_entry there q, ap num (names_here q), ap num (other_at p.0 q n))
  ]

  -- no entry names page p any more
  pub unnamed_p : (a b : ℕ) (q : PageId) → (entry_at new.objects a b).page ≡ Some q → q.0 ≢ p.0
  unnamed_p a b q e s = absurd (omega (arith, times_some new.objects p.0 a b (ap (λ n. names n (entry_at new.objects a b)) (sym s) ∙ named q (entry_at new.objects a b) e), times_p))

  pub at_here : (a b : ℕ) → a ≡ o → b ≡ i → entry_at new.objects a b ≡ no_entry
  at_here a b s t = ap (λ n. entry_at new.objects n b) s ∙ ap (entry_at new.objects o) t ∙ entry_same m.objects o i no_entry there

  readable : (a b : ℕ) → (entry_at new.objects a b).readable ≡ true → IsFramed new.pages.pages (entry_at new.objects a b).page
  readable a b w = elim (entry_or m.objects o i no_entry there a b) [
    | inl s ↦ let bad : false ≡ true = sym (ap (λ (e : Entry). e.readable) (at_here a b s.0 s.1)) ∙ w in cc
    | inr n ↦
        let h = x.sound.guarded.readable a b (ap (λ (e : Entry). e.readable) (sym n.1) ∙ w) in
        let is = ap (λ (e : Entry). e.page) n.1 ∙ h.is_page in
        record { number = h.number; frame = h.frame; is_page = is; is_place = ap (λ (r : PageInfo). r.place) (page_other h.number.0 (unnamed_p a b h.number is)) ∙ h.is_place }
  ]

  writable : (a b : ℕ) → (entry_at new.objects a b).writable ≡ true → IsPrivate m.frames.counts new.pages.pages (entry_at new.objects a b).page
  writable a b w = elim (entry_or m.objects o i no_entry there a b) [
    | inl s ↦ let bad : false ≡ true = sym (ap (λ (e : Entry). e.writable) (at_here a b s.0 s.1)) ∙ w in cc
    | inr n ↦
        let h = x.sound.guarded.writable a b (ap (λ (e : Entry). e.writable) (sym n.1) ∙ w) in
        let is = ap (λ (e : Entry). e.page) n.1 ∙ h.is_page in
        let same = page_other h.number.0 (unnamed_p a b h.number is) in
        record { number = h.number; frame = h.frame; is_page = is; is_place = ap (λ (r : PageInfo). r.place) same ∙ h.is_place; alone = ap (λ (r : PageInfo). r.shares) same ∙ h.alone; unlent = h.unlent }
  ]

  pub sound_dropped : IsSound new
  sound_dropped = record {
    shaped = record {
      size = x.sound.shaped.size;
      some = omega (arith, left_length m.frames.owners m.frames.counts from, x.sound.shaped.some);
      most = omega (arith, left_length m.frames.owners m.frames.counts from, x.sound.shaped.most);
      counted = x.sound.shaped.counted ∙ sym (left_length m.frames.owners m.frames.counts from);
      filled = x.sound.shaped.filled ∙ sym (left_length m.frames.owners m.frames.counts from);
      paged = x.sound.shaped.paged;
    };
    placed = record { in_frame = λ q h e. in_frame q h e (frame_dropped h.0); of_page = λ h q e. of_page h q e (frame_dropped h.0) };
    lent = λ h. agree h (frame_dropped h);
    held = record { alone = λ h q e k. alone h q e k (frame_dropped h); unlent = λ h e k. unlent h e k (frame_dropped h) };
    wired = x.sound.wired;
    slotted = slotted_left m.pages.pages m.slots p.0 from refl known x.sound.slotted;
    shared = record {
      counted = counted;
      spare = λ q e. elim (same_or q p.0) [
        | inl s ↦ ap (λ n. (page_at new.pages.pages n).place) s ∙ ap (λ (r : PageInfo). r.place) of_p
        | inr n ↦ ap (λ (r : PageInfo). r.place) (page_other q n) ∙ x.sound.shared.spare q (sym (ap (λ (r : PageInfo). r.shares) (page_other q n)) ∙ e)
      ];
    };
    guarded = record { readable = readable; writable = writable };
  }

  bytes_kept : (slots : ℕ → List ℕ) (r : Option PageId) → ((q : PageId) → r ≡ Some q → q.0 ≢ p.0) → page_bytes new.frames new.pages.pages slots r ≡ page_bytes m.frames m.pages.pages slots r
  bytes_kept slots None n = refl
  bytes_kept slots (Some r) n = owners_unseen m.frames new.frames.owners slots (page_at new.pages.pages r.0).place ∙ ap (λ (q : PageInfo). place_bytes m.frames slots q.place) (page_other r.0 (n r refl))

  pub entry_bytes : (slots : ℕ → List ℕ) (a b : ℕ) → (seen new slots).entry_bytes a b ≡ (see_entry (seen m slots) o i (zeros m.frames)).entry_bytes a b
  entry_bytes slots a b = elim (entry_or m.objects o i no_entry there a b) [
    | inl s ↦
        let here : ((a == o) && (b == i)) ≡ true = rw (eq-eqb a o s.0, eq-eqb b i s.1) refl in
        ap (λ (e : Entry). page_bytes new.frames new.pages.pages slots e.page) (at_here a b s.0 s.1) ∙ sym (ap (λ v. if v then zeros m.frames else (seen m slots).entry_bytes a b) here)
    | inr n ↦
        ap (page_bytes new.frames new.pages.pages slots) (ap (λ (e : Entry). e.page) n.1)
        ∙ bytes_kept slots (entry_at m.objects a b).page (λ q e. unnamed_p a b q (ap (λ (t : Entry). t.page) n.1 ∙ e))
        ∙ sym (ap (λ v. if v then zeros m.frames else (seen m slots).entry_bytes a b) n.0)
  ]

  gone_entries : (place : Place) (t : Seen) → (see_gone m place t).entry_bytes ≡ t.entry_bytes
  gone_entries Zero t = refl
  gone_entries (Frame f) t = refl
  gone_entries (Slot r) t = refl

  kept_gone : (slots : ℕ → List ℕ) (place : Place) → ((f : FrameId) → place ≡ Frame f → f.0 < length m.frames.owners) → (h : ℕ) → (seen (record m { frames = record (m.frames) { owners = left_owners m.frames.owners m.frames.counts place } }) slots).kept_bytes h ≡ (see_gone m place (see_entry (seen m slots) o i (zeros m.frames))).kept_bytes h
  kept_gone slots Zero l h = refl
  kept_gone slots (Slot r) l h = refl
  kept_gone slots (Frame f) l h = ap (λ (t : Seen). t.kept_bytes h) (shows_disowned m f.0 slots (l f refl))

  -- what is seen: the entry shows zeros, and a lent frame is seen by itself
  pub shows_dropped : (slots : ℕ → List ℕ) → seen new slots ≡ see_gone m from (see_entry (seen m slots) o i (zeros m.frames))
  shows_dropped slots = λ k. record {
    entry_bytes = λ a b. (entry_bytes slots a b ∙ ap (λ t. t a b) (sym (gone_entries from (see_entry (seen m slots) o i (zeros m.frames))))) k;
    kept_bytes = λ h. kept_gone slots from (λ f e. frame_known m p.0 f x.sound e) h k;
  }

  pub fewer_dropped : count_by is_there new.pages.pages ≤ count_by is_there m.pages.pages
  fewer_dropped = omega (arith, count_by-set is_there m.pages.pages p.0 no_page no_page known)

  pub frame_kept : (r : Option PageId) (h : ℕ) → ((q : PageId) → r ≡ Some q → q.0 ≢ p.0) → frame_of m.pages.pages r ≡ Some h → frame_of new.pages.pages r ≡ Some h
  frame_kept None h n e = e
  frame_kept (Some q) h n e = ap (λ (r : PageInfo). frame_in r.place) (page_other q.0 (n q refl)) ∙ e

  pub lasts : (h : ℕ) → is_lent (counts_at m.frames h) ≡ true → Became m.frames.owners m.frames.counts p.0 from Zero h (owner_at new.frames h) → Lasts m.frames new.frames h
  lasts h l (Gained g t w v) = cc
  lasts h l (Lost f t w v) = record { lent = l; bytes = refl; owner = inr (ap is_page (ap (owner_at m.frames) w ∙ owned f t), v ∙ ap (λ b. if b then Nobody else Free) l) }
  lasts h l (Stayed a b v) = record { lent = l; bytes = refl; owner = inl v }

  pub systems : (h : ℕ) → Became m.frames.owners m.frames.counts p.0 from Zero h (owner_at new.frames h) → system_owner (owner_at new.frames h) ≡ system_owner (owner_at m.frames h)
  systems h (Gained g t w v) = cc
  systems h (Lost f t w v) = ap system_owner v ∙ unowned_system (counts_at m.frames h) ∙ sym (ap system_owner (ap (owner_at m.frames) w ∙ owned f t))
  systems h (Stayed a b v) = ap system_owner v

  pub touches_dropped : (spoken : ℕ → ℕ → Bool) → spoken o i ≡ true → Touches spoken m new
  touches_dropped spoken h = record {
    entries = λ a b e. elim (entry_or m.objects o i no_entry there a b) [
      | inl s ↦ let bad : true ≡ false = sym (ap (λ n. spoken n b) s.0 ∙ ap (spoken o) s.1 ∙ h) ∙ e in cc
      | inr n ↦ record { page = ap (λ (t : Entry). t.page) n.1; readable = λ w. ap (λ (t : Entry). t.readable) (sym n.1) ∙ w; writable = λ w. ap (λ (t : Entry). t.writable) (sym n.1) ∙ w }
    ];
    pages = λ q y. page_other q (outside_p q y);
    outside = λ q y. record {
      there = rw (page_other q (outside_p q y)) y.there;
      named = λ a b e. elim (entry_or m.objects o i no_entry there a b) [
        | inl s ↦ let bad : false ≡ true = sym (ap (names q) (at_here a b s.0 s.1)) ∙ e in cc
        | inr n ↦ y.named a b (ap (names q) (sym n.1) ∙ e)
      ];
    };
    counts = λ q f y e. refl;
  } where
    outside_p : (q : ℕ) → IsOutside spoken m q → q ≢ p.0
    outside_p q y s = let bad : true ≡ false = sym h ∙ y.named o i (ap (λ n. names n (entry_at m.objects o i)) s ∙ named p (entry_at m.objects o i) x.is_page) in cc

module _ (m : Memory) (o i : ℕ) (p : PageId) (x : CanDrop m o i p) where
  abbrev place : Place
  place = (page_at m.pages.pages p.0).place

  abbrev after : Memory
  after = dropped m o i p.0

  source_unheld : (f : FrameId) (h : ℕ) → place ≡ Frame f → h ≡ f.0 → is_held (counts_at m.frames h) ≡ false
  source_unheld f h t w = ap (λ n. is_held (counts_at m.frames n)) w ∙ x.unheld f t

  kept_same : (h : ℕ) → Became m.frames.owners m.frames.counts p.0 place Zero h (owner_at after.frames h) → is_kept (owner_at after.frames h) (counts_at m.frames h) ≡ is_kept (owner_at m.frames h) (counts_at m.frames h)
  kept_same h (Gained g t w v) = cc
  kept_same h (Lost f t w v) = ap (λ o. is_kept o (counts_at m.frames h)) v ∙ kept_left (counts_at m.frames h) p.0 (source_unheld f h t w) ∙ sym (ap (λ o. is_kept o (counts_at m.frames h)) (ap (owner_at m.frames) w ∙ owned m o i p x.own f t))
  kept_same h (Stayed a b v) = ap (λ o. is_kept o (counts_at m.frames h)) v

  pub seen_dropped : (slots : ℕ → List ℕ) → seen after slots ≡ see_entry (seen m slots) o i (zeros m.frames)
  seen_dropped slots = λ k. record { entry_bytes = λ a b. entry_bytes m o i p x.own slots a b k; kept_bytes = λ h. if kept_same h (frame_dropped m o i p x.own h) k then bytes_at m.frames h else [] }

  pub keeps_dropped : KeepsLoans m after
  keeps_dropped = record {
    entry_held = λ a b h e k. elim (entry_or m.objects o i no_entry (there m o i p x.own) a b) [
      | inl s ↦
          let at : frame_in place ≡ Some h = ap (frame_of m.pages.pages) (sym x.own.is_page) ∙ ap (λ n. frame_of m.pages.pages (entry_at m.objects o n).page) (sym s.1) ∙ ap (λ n. frame_of m.pages.pages (entry_at m.objects n b).page) (sym s.0) ∙ e in
          let y = frame_is place h at in
          let bad : true ≡ false = sym k ∙ source_unheld y.frame h y.is y.number in cc
      | inr n ↦ ap (λ (t : Entry). frame_of after.pages.pages t.page) n.1 ∙ frame_kept m o i p x.own (entry_at m.objects a b).page h (λ q w. unnamed_p m o i p x.own a b q (ap (λ (t : Entry). t.page) n.1 ∙ w)) e
    ];
    held = λ h k. k;
    lent = λ h l. lasts m o i p x.own h l (frame_dropped m o i p x.own h);
    loans = λ h. as_many (counts_at m.frames h) (counts_at m.frames h) refl;
    systems = λ h. systems m o i p x.own h (frame_dropped m o i p x.own h);
    entries = entries_size m.objects o i no_entry (there m o i p x.own);
    number = left_length m.frames.owners m.frames.counts place;
    page = refl;
    slots = slots_length m.slots place;
    most = refl;
  }
