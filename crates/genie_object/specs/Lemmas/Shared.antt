-- An empty entry that comes to name a page that others name.
use Rattle.std.proofs.Common.{◌≡◌, ◌≢◌, ℕ, ◌<◌, ◌+◌, Bool, true, false, List, refl, arith, ap, length, sym, ◌∙◌, inl, inr, get_or-set_same, get_or-set_other}
use Rattle.std.specs.Prelude.{◌==◌, Option, Some, None, if◌then◌else◌}
use Rattle.genie_base.specs.Lemmas.Places.{num, same_or}
use Rattle.genie_frame.specs.declared.frame.FrameId.{FrameId}
use Rattle.genie_frame.specs.declared.frame.Owner.TheVariants.{Page}
use Rattle.genie_frame.specs.FrameTable.{owner_at, counts_at, is_held}
use Rattle.genie_object.specs.declared.pages.Place.TheVariants.{Zero}
use Rattle.genie_object.specs.declared.pages.PageInfo.{PageInfo}
use Rattle.genie_object.specs.declared.pages.PageId.{PageId}
use Rattle.genie_object.specs.declared.objects.Entry.{Entry}
use Rattle.genie_object.specs.declared.memory.Memory.{Memory}
use Rattle.genie_object.specs.Pages.{page_at, no_page, one_holder_more}
use Rattle.genie_object.specs.Objects.{entry_at, names}
use Rattle.genie_object.specs.Memory.{seen, see_entry, page_bytes, place_bytes, frame_of, frame_in, entry_frame}
use Rattle.genie_object.specs.Sound.{IsSound, IsFramed, IsPrivate, times_named}
use Rattle.genie_object.specs.Steps.{shared, CanShare, fresh_entry}
use Rattle.genie_object.specs.Touching.{KeepsLoans, Touches, IsOutside, is_entry}
use Rattle.genie_object.specs.Lemmas.Lookup.{page_known, slots_kept, named, other_at}
use Rattle.genie_object.specs.Lemmas.Entries.{entry_same, entry_or, times_set, entries_size}
use Rattle.genie_object.specs.Lemmas.Left.{here}
use Rattle.genie_object.specs.Lemmas.Touching.{as_many}

module _ (m : Memory) (o i p : ℕ) (x : CanShare m o i p) where
  abbrev new : Memory
  new = shared m o i p

  known : p < length m.pages.pages
  known = page_known m p x.some

  of_p : page_at new.pages.pages p ≡ one_holder_more (page_at m.pages.pages p)
  of_p = get_or-set_same m.pages.pages p _ no_page known

  page_other : (r : ℕ) → r ≢ p → page_at new.pages.pages r ≡ page_at m.pages.pages r
  page_other r n = get_or-set_other m.pages.pages p r _ no_page n

  place_kept : (r : ℕ) → (page_at new.pages.pages r).place ≡ (page_at m.pages.pages r).place
  place_kept r = elim (same_or r p) [
    | inl s ↦ ap (λ n. (page_at new.pages.pages n).place) s ∙ ap (λ (q : PageInfo). q.place) of_p ∙ ap (λ n. (page_at m.pages.pages n).place) (sym s)
    | inr n ↦ ap (λ (q : PageInfo). q.place) (page_other r n)
  ]

  at_here : (a b : ℕ) → a ≡ o → b ≡ i → entry_at new.objects a b ≡ fresh_entry p
  at_here a b s t = ap (λ n. entry_at new.objects n b) s ∙ ap (entry_at new.objects o) t ∙ entry_same m.objects o i (fresh_entry p) x.there

  was_none : (r : ℕ) → names r (entry_at m.objects o i) ≡ false
  was_none r = ap (λ page. elim page as (λ _. Bool) [ None ↦ false | Some q ↦ q.0 == r ]) x.empty

  -- a page that a device holds is another one
  alone : (h r : ℕ) → owner_at m.frames h ≡ Page r → is_held (counts_at m.frames h) ≡ true → (page_at new.pages.pages r).shares ≡ 1
  alone h r e k = elim (same_or r p) [
    | inl s ↦
        let f : FrameId = record { 0 = h } in
        let bad : true ≡ false = sym k ∙ x.unheld f (ap (λ n. (page_at m.pages.pages n).place) (sym s) ∙ x.sound.placed.of_page f r e) in cc
    | inr n ↦ ap (λ (q : PageInfo). q.shares) (page_other r n) ∙ x.sound.held.alone h r e k
  ]

  counted : (r : ℕ) → (page_at new.pages.pages r).shares ≡ times_named new.objects r
  counted r =
      let times = times_set m.objects o i (fresh_entry p) x.there r in
      let none = ap num (was_none r) in
      elim (same_or r p) [
        | inl s ↦
            let now : (page_at new.pages.pages r).shares ≡ (page_at m.pages.pages r).shares + 1 = ap (λ n. (page_at new.pages.pages n).shares) s ∙ ap (λ (q : PageInfo). q.shares) of_p ∙ ap (λ n. (page_at m.pages.pages n).shares + 1) (sym s) in
            let one = ap num (ap (names r) (λ k. fresh_entry (sym s k)) ∙ named (record { 0 = r }) (fresh_entry r) refl) in
            omega (arith, times, none, now, one, x.sound.shared.counted r)
        | inr n ↦ omega (arith, times, none, ap (λ (q : PageInfo). q.shares) (page_other r n), ap num (other_at p r n), x.sound.shared.counted r)
      ]

  spare : (r : ℕ) → (page_at new.pages.pages r).shares ≡ 0 → (page_at new.pages.pages r).place ≡ Zero
  spare r e = elim (same_or r p) [
    | inl s ↦ absurd (omega (arith, e, ap (λ n. (page_at new.pages.pages n).shares) s, ap (λ (q : PageInfo). q.shares) of_p))
    | inr n ↦ ap (λ (q : PageInfo). q.place) (page_other r n) ∙ x.sound.shared.spare r (sym (ap (λ (q : PageInfo). q.shares) (page_other r n)) ∙ e)
  ]

  readable : (a b : ℕ) → (entry_at new.objects a b).readable ≡ true → IsFramed new.pages.pages (entry_at new.objects a b).page
  readable a b w = elim (entry_or m.objects o i (fresh_entry p) x.there a b) [
    | inl s ↦ let bad : false ≡ true = sym (ap (λ (e : Entry). e.readable) (at_here a b s.0 s.1)) ∙ w in cc
    | inr n ↦
        let h = x.sound.guarded.readable a b (ap (λ (e : Entry). e.readable) (sym n.1) ∙ w) in
        record { number = h.number; frame = h.frame; is_page = ap (λ (e : Entry). e.page) n.1 ∙ h.is_page; is_place = place_kept h.number.0 ∙ h.is_place }
  ]

  writable : (a b : ℕ) → (entry_at new.objects a b).writable ≡ true → IsPrivate m.frames.counts new.pages.pages (entry_at new.objects a b).page
  writable a b w = elim (entry_or m.objects o i (fresh_entry p) x.there a b) [
    | inl s ↦ let bad : false ≡ true = sym (ap (λ (e : Entry). e.writable) (at_here a b s.0 s.1)) ∙ w in cc
    | inr n ↦
        let was : (entry_at m.objects a b).writable ≡ true = ap (λ (e : Entry). e.writable) (sym n.1) ∙ w in
        let h = x.sound.guarded.writable a b was in
        let other : h.number.0 ≢ p = (λ s. let bad : true ≡ false = sym was ∙ x.unwritable a b (ap (λ k. names k (entry_at m.objects a b)) (sym s) ∙ named h.number (entry_at m.objects a b) h.is_page) in cc) in
        record {
          number = h.number;
          frame = h.frame;
          is_page = ap (λ (e : Entry). e.page) n.1 ∙ h.is_page;
          is_place = place_kept h.number.0 ∙ h.is_place;
          alone = ap (λ (q : PageInfo). q.shares) (page_other h.number.0 other) ∙ h.alone;
          unlent = h.unlent;
        }
  ]

  pub sound_shared : IsSound (shared m o i p)
  sound_shared = record {
    shaped = x.sound.shaped;
    placed = record { in_frame = λ r f e. x.sound.placed.in_frame r f (sym (place_kept r) ∙ e); of_page = λ f r e. place_kept r ∙ x.sound.placed.of_page f r e };
    lent = x.sound.lent;
    held = record { alone = alone; unlent = x.sound.held.unlent };
    wired = x.sound.wired;
    slotted = slots_kept m.pages.pages m.slots p _ (λ s. refl) known x.sound.slotted;
    shared = record { counted = counted; spare = spare };
    guarded = record { readable = readable; writable = writable };
  }

  bytes_kept : (slots : ℕ → List ℕ) (r : Option PageId) → page_bytes m.frames new.pages.pages slots r ≡ page_bytes m.frames m.pages.pages slots r
  bytes_kept slots None = refl
  bytes_kept slots (Some r) = ap (place_bytes m.frames slots) (place_kept r.0)

  -- the entry shows the page's bytes
  pub seen_shared : (slots : ℕ → List ℕ) → seen (shared m o i p) slots ≡ see_entry (seen m slots) o i (place_bytes m.frames slots (page_at m.pages.pages p).place)
  seen_shared slots = λ k. record { entry_bytes = λ a b. entry_bytes a b k; kept_bytes = (seen m slots).kept_bytes }
    where
      bytes : List ℕ
      bytes = place_bytes m.frames slots (page_at m.pages.pages p).place

      entry_bytes : (a b : ℕ) → (seen new slots).entry_bytes a b ≡ (see_entry (seen m slots) o i bytes).entry_bytes a b
      entry_bytes a b = elim (entry_or m.objects o i (fresh_entry p) x.there a b) [
        | inl s ↦
            let is : is_entry o i a b ≡ true = ap (λ n. is_entry o i n b) s.0 ∙ ap (is_entry o i o) s.1 ∙ here o i in
            ap (λ (e : Entry). page_bytes m.frames new.pages.pages slots e.page) (at_here a b s.0 s.1) ∙ ap (place_bytes m.frames slots) (place_kept p) ∙ sym (ap (λ v. if v then bytes else (seen m slots).entry_bytes a b) is)
        | inr n ↦ ap (λ (e : Entry). page_bytes m.frames new.pages.pages slots e.page) n.1 ∙ bytes_kept slots (entry_at m.objects a b).page ∙ sym (ap (λ v. if v then bytes else (seen m slots).entry_bytes a b) n.0)
      ]

  frame_same : (r : Option PageId) → frame_of new.pages.pages r ≡ frame_of m.pages.pages r
  frame_same None = refl
  frame_same (Some r) = ap frame_in (place_kept r.0)

  pub keeps_shared : KeepsLoans m (shared m o i p)
  keeps_shared = record {
    entry_held = λ a b h e k. elim (entry_or m.objects o i (fresh_entry p) x.there a b) [
      | inl s ↦
          let none : None ≡ Some h = sym (ap (frame_of m.pages.pages) x.empty) ∙ ap (λ n. entry_frame m o n) (sym s.1) ∙ ap (λ n. entry_frame m n b) (sym s.0) ∙ e in cc
      | inr n ↦ frame_same (entry_at new.objects a b).page ∙ ap (λ (t : Entry). frame_of m.pages.pages t.page) n.1 ∙ e
    ];
    held = λ h k. k;
    lent = λ h l. record { lent = l; bytes = refl; owner = inl refl };
    loans = λ h. as_many (counts_at m.frames h) (counts_at m.frames h) refl;
    systems = λ h. refl;
    entries = entries_size m.objects o i (fresh_entry p) x.there;
    number = refl;
    page = refl;
    slots = refl;
    most = refl;
  }

  -- where the call speaks of each entry that names the page
  pub touches_shared : (spoken : ℕ → ℕ → Bool) → spoken o i ≡ true → ((q : ℕ) → IsOutside spoken m q → q ≢ p) → Touches spoken m (shared m o i p)
  touches_shared spoken h inside = record {
    entries = λ a b e. elim (entry_or m.objects o i (fresh_entry p) x.there a b) [
      | inl s ↦ let bad : true ≡ false = sym (ap (λ n. spoken n b) s.0 ∙ ap (spoken o) s.1 ∙ h) ∙ e in cc
      | inr n ↦ record { page = ap (λ (t : Entry). t.page) n.1; readable = λ w. ap (λ (t : Entry). t.readable) (sym n.1) ∙ w; writable = λ w. ap (λ (t : Entry). t.writable) (sym n.1) ∙ w }
    ];
    pages = λ q y. page_other q (inside q y);
    outside = λ q y. record {
      there = rw (page_other q (inside q y)) y.there;
      named = λ a b e. elim (entry_or m.objects o i (fresh_entry p) x.there a b) [
        | inl s ↦ let bad : false ≡ true = sym (other_at p q (inside q y)) ∙ sym (ap (names q) (at_here a b s.0 s.1)) ∙ e in cc
        | inr n ↦ y.named a b (ap (names q) (sym n.1) ∙ e)
      ];
    };
    counts = λ q f y e. refl;
  }
