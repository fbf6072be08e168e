-- An entry that leaves its page to others that share it.
use Rattle.std.proofs.Common.{◌≡◌, ℕ, ◌<◌, ◌≤◌, Bool, true, false, List, refl, arith, ap, rules, length, sym, ◌∙◌, subst, inl, inr, eq-eqb}
use Rattle.std.specs.Prelude.{◌==◌, Option, Some, None, count_by, if◌then◌else◌}
use Rattle.genie_base.specs.Lemmas.Places.{num}
use Rattle.genie_frame.specs.declared.frame.Owner.TheVariants.{Page}
use Rattle.genie_frame.specs.FrameTable.{owner_at, counts_at, is_held}
use Rattle.genie_object.specs.declared.pages.PageInfo.{PageInfo}
use Rattle.genie_object.specs.declared.pages.PageId.{PageId}
use Rattle.genie_object.specs.declared.objects.Entry.{Entry}
use Rattle.genie_object.specs.declared.memory.Memory.{Memory}
use Rattle.genie_object.specs.Pages.{page_at, is_there}
use Rattle.genie_object.specs.Objects.{entry_at, object_at, names, no_entry}
use Rattle.genie_object.specs.Memory.{seen, see_entry, page_bytes, place_bytes, zeros, frame_of, frame_in, entry_frame}
use Rattle.genie_object.specs.Sound.{IsSound, IsFramed, IsPrivate}
use Rattle.genie_object.specs.Leaving.{left, IsSharedPage}
use Rattle.genie_object.specs.Touching.{KeepsLoans, Touches, IsOutside, is_entry}
use Rattle.genie_object.specs.Lemmas.Lookup.{page_known, named}
use Rattle.genie_object.specs.Lemmas.Entries.{entry_same, entry_or, times_set, entries_size, naming_there}
use Rattle.genie_object.specs.Lemmas.Relocated.{frame_is}
use Rattle.genie_object.specs.Lemmas.Renamed.{IsLeft, is_named, left_page, left_slotted, count_left}
use Rattle.genie_object.specs.Lemmas.Touching.{as_many}

pub here : (o i : ℕ) → is_entry o i o i ≡ true
here o i = rw (eq-eqb o o refl, eq-eqb i i refl) refl

module _ (m : Memory) (o i : ℕ) (p : PageId) (x : IsSharedPage m o i p) where
  abbrev new : Memory
  new = left m o i p

  pub there : i < length (object_at m.objects o)
  there = naming_there m.objects p.0 o i (named p (entry_at m.objects o i) x.is_page)

  many_of : (q : PageId) → Some p ≡ Some q → 1 < (page_at m.pages.pages q.0).shares
  many_of q e = let same : q ≡ p = cc in subst (λ (r : PageId). 1 < (page_at m.pages.pages r.0).shares) (sym same) x.many

  known_of : (q : PageId) → Some p ≡ Some q → q.0 < length m.pages.pages
  known_of q e = page_known m q.0 (omega (arith, many_of q e))

  now : (r : ℕ) → IsLeft (Some p) r (page_at m.pages.pages r) (page_at new.pages.pages r)
  now r = left_page m.pages (Some p) r many_of known_of

  pub place_kept : (r : ℕ) → (page_at new.pages.pages r).place ≡ (page_at m.pages.pages r).place
  place_kept r = (now r).place

  is_p : (r : ℕ) → is_named (Some p) r ≡ true → 1 < (page_at m.pages.pages r).shares
  is_p r e = let s : p.0 ≡ r = grind (arith, rules, e) in subst (λ n. 1 < (page_at m.pages.pages n).shares) s x.many

  not_p : (r : ℕ) → (page_at m.pages.pages r).shares ≡ 1 → is_named (Some p) r ≡ false
  not_p r a = elim (is_named (Some p) r) as (λ b. is_named (Some p) r ≡ b → b ≡ false) [ true ↦ λ e. absurd (omega (arith, is_p r e, a)) | false ↦ λ e. refl ] refl

  alone : (r : ℕ) → (page_at m.pages.pages r).shares ≡ 1 → (page_at new.pages.pages r).shares ≡ 1
  alone r a = ap (λ (q : PageInfo). q.shares) ((now r).other (not_p r a)) ∙ a

  names_here : (r : ℕ) → names r (entry_at m.objects o i) ≡ is_named (Some p) r
  names_here r = ap (λ page. elim page as (λ _. Bool) [ None ↦ false | Some q ↦ q.0 == r ]) x.is_page

  at_here : (a b : ℕ) → a ≡ o → b ≡ i → entry_at new.objects a b ≡ no_entry
  at_here a b s t = ap (λ n. entry_at new.objects n b) s ∙ ap (entry_at new.objects o) t ∙ entry_same m.objects o i no_entry there

  readable : (a b : ℕ) → (entry_at new.objects a b).readable ≡ true → IsFramed new.pages.pages (entry_at new.objects a b).page
  readable a b w = elim (entry_or m.objects o i no_entry there a b) [
    | inl s ↦ let bad : false ≡ true = sym (ap (λ (e : Entry). e.readable) (at_here a b s.0 s.1)) ∙ w in cc
    | inr n ↦
        let h = x.sound.guarded.readable a b (ap (λ (e : Entry). e.readable) (sym n.1) ∙ w) in
        record { number = h.number; frame = h.frame; is_page = ap (λ (e : Entry). e.page) n.1 ∙ h.is_page; is_place = place_kept h.number.0 ∙ h.is_place }
  ]

  writable : (a b : ℕ) → (entry_at new.objects a b).writable ≡ true → IsPrivate m.frames.counts new.pages.pages (entry_at new.objects a b).page
  writable a b w = elim (entry_or m.objects o i no_entry there a b) [
    | inl s ↦ let bad : false ≡ true = sym (ap (λ (e : Entry). e.writable) (at_here a b s.0 s.1)) ∙ w in cc
    | inr n ↦
        let h = x.sound.guarded.writable a b (ap (λ (e : Entry). e.writable) (sym n.1) ∙ w) in
        record { number = h.number; frame = h.frame; is_page = ap (λ (e : Entry). e.page) n.1 ∙ h.is_page; is_place = place_kept h.number.0 ∙ h.is_place; alone = alone h.number.0 h.alone; unlent = h.unlent }
  ]

  pub sound_left : IsSound new
  sound_left = record {
    shaped = x.sound.shaped;
    placed = record { in_frame = λ r f e. x.sound.placed.in_frame r f (sym (place_kept r) ∙ e); of_page = λ f r e. place_kept r ∙ x.sound.placed.of_page f r e };
    lent = x.sound.lent;
    held = record { alone = λ h r e k. alone r (x.sound.held.alone h r e k); unlent = x.sound.held.unlent };
    wired = x.sound.wired;
    slotted = left_slotted m.pages (Some p) m.slots known_of x.sound.slotted;
    shared = record {
      counted = λ r. let a = (now r).shares in let b = times_set m.objects o i no_entry there r in let c = ap num (names_here r) in omega (arith, a, b, c, x.sound.shared.counted r);
      spare = λ r e. place_kept r ∙ x.sound.shared.spare r (elim (is_named (Some p) r) as (λ b. is_named (Some p) r ≡ b → (page_at m.pages.pages r).shares ≡ 0) [
        | true ↦ λ h. absurd (omega (arith, is_p r h, e, (now r).shares, ap num h))
        | false ↦ λ h. ap (λ (q : PageInfo). q.shares) (sym ((now r).other h)) ∙ e
      ] refl);
    };
    guarded = record { readable = readable; writable = writable };
  }

  spoken_here : (a b : ℕ) → a ≡ o → b ≡ i → is_entry o i a b ≡ true
  spoken_here a b s t = ap (λ n. is_entry o i n b) s ∙ ap (is_entry o i o) t ∙ here o i

  bytes_kept : (slots : ℕ → List ℕ) (r : Option PageId) → page_bytes m.frames new.pages.pages slots r ≡ page_bytes m.frames m.pages.pages slots r
  bytes_kept slots None = refl
  bytes_kept slots (Some r) = ap (place_bytes m.frames slots) (place_kept r.0)

  pub seen_left : (slots : ℕ → List ℕ) → seen new slots ≡ see_entry (seen m slots) o i (zeros m.frames)
  seen_left slots = λ k. record { entry_bytes = λ a b. entry_bytes a b k; kept_bytes = (seen m slots).kept_bytes }
    where
      entry_bytes : (a b : ℕ) → (seen new slots).entry_bytes a b ≡ (see_entry (seen m slots) o i (zeros m.frames)).entry_bytes a b
      entry_bytes a b = elim (entry_or m.objects o i no_entry there a b) [
        | inl s ↦ ap (λ (e : Entry). page_bytes m.frames new.pages.pages slots e.page) (at_here a b s.0 s.1) ∙ sym (ap (λ v. if v then zeros m.frames else (seen m slots).entry_bytes a b) (spoken_here a b s.0 s.1))
        | inr n ↦ ap (λ (e : Entry). page_bytes m.frames new.pages.pages slots e.page) n.1 ∙ bytes_kept slots (entry_at m.objects a b).page ∙ sym (ap (λ v. if v then zeros m.frames else (seen m slots).entry_bytes a b) n.0)
      ]

  frame_same : (r : Option PageId) → frame_of new.pages.pages r ≡ frame_of m.pages.pages r
  frame_same None = refl
  frame_same (Some r) = ap frame_in (place_kept r.0)

  -- the frame isn't held, for others share its page
  not_held : (h : ℕ) → entry_frame m o i ≡ Some h → is_held (counts_at m.frames h) ≡ true → true ≡ false
  not_held h e k =
      let y = frame_is (page_at m.pages.pages p.0).place h (ap (frame_of m.pages.pages) (sym x.is_page) ∙ e) in
      let own : owner_at m.frames h ≡ Page p.0 = ap (owner_at m.frames) y.number ∙ x.sound.placed.in_frame p.0 y.frame y.is in
      absurd (omega (arith, x.many, x.sound.held.alone h p.0 own k))

  pub keeps_left : KeepsLoans m new
  keeps_left = record {
    entry_held = λ a b h e k. elim (entry_or m.objects o i no_entry there a b) [
      | inl s ↦ let bad : true ≡ false = not_held h (ap (λ n. entry_frame m o n) (sym s.1) ∙ ap (λ n. entry_frame m n b) (sym s.0) ∙ e) k in cc
      | inr n ↦ frame_same (entry_at new.objects a b).page ∙ ap (λ (t : Entry). frame_of m.pages.pages t.page) n.1 ∙ e
    ];
    held = λ h k. k;
    lent = λ h l. record { lent = l; bytes = refl; owner = inl refl };
    loans = λ h. as_many (counts_at m.frames h) (counts_at m.frames h) refl;
    systems = λ h. refl;
    entries = entries_size m.objects o i no_entry there;
    number = refl;
    page = refl;
    slots = refl;
    most = refl;
  }

  pub fewer_left : count_by is_there new.pages.pages ≤ count_by is_there m.pages.pages
  fewer_left = omega (arith, count_left m.pages (Some p) many_of known_of)

  outside_p : (spoken : ℕ → ℕ → Bool) → spoken o i ≡ true → (r : ℕ) → IsOutside spoken m r → is_named (Some p) r ≡ false
  outside_p spoken h r y = elim (is_named (Some p) r) as (λ b. is_named (Some p) r ≡ b → b ≡ false) [
    | true ↦ λ e. let bad : true ≡ false = sym h ∙ y.named o i (names_here r ∙ e) in cc
    | false ↦ λ e. refl
  ] refl

  pub touches_left : (spoken : ℕ → ℕ → Bool) → spoken o i ≡ true → Touches spoken m new
  touches_left spoken h = record {
    entries = λ a b e. elim (entry_or m.objects o i no_entry there a b) [
      | inl s ↦ let bad : true ≡ false = sym (ap (λ n. spoken n b) s.0 ∙ ap (spoken o) s.1 ∙ h) ∙ e in cc
      | inr n ↦ record { page = ap (λ (t : Entry). t.page) n.1; readable = λ w. ap (λ (t : Entry). t.readable) (sym n.1) ∙ w; writable = λ w. ap (λ (t : Entry). t.writable) (sym n.1) ∙ w }
    ];
    pages = λ r y. (now r).other (outside_p spoken h r y);
    outside = λ r y. record {
      there = rw ((now r).other (outside_p spoken h r y)) y.there;
      named = λ a b e. elim (entry_or m.objects o i no_entry there a b) [
        | inl s ↦ let bad : false ≡ true = sym (ap (names r) (at_here a b s.0 s.1)) ∙ e in cc
        | inr n ↦ y.named a b (ap (names r) (sym n.1) ∙ e)
      ];
    };
    counts = λ r f y e. refl;
  }
