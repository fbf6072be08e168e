-- An entry that gets an untouched page of its own, and leaves the page that it named to others.
use Rattle.std.proofs.Common.{◌≡◌, ◌≢◌, ℕ, ◌<◌, ◌+◌, Bool, true, false, List, refl, arith, ap, rules, length, sym, ◌∙◌, inl, inr, subst, get_or-set_other, get_or-set_same, length-set, eq-eqb}
use Rattle.std.specs.Prelude.{◌==◌, Option, Some, None, count_by, nat_lt}
use Rattle.genie_base.specs.Lemmas.Places.{same_or, num, count_by-set}
use Rattle.genie_frame.specs.declared.frame.Owner.TheVariants.{Page}
use Rattle.genie_frame.specs.FrameTable.{owner_at, counts_at, is_held}
use Rattle.genie_object.specs.declared.pages.Place.TheVariants.{Zero}
use Rattle.genie_object.specs.declared.pages.PageInfo.{PageInfo}
use Rattle.genie_object.specs.declared.pages.PageId.{PageId}
use Rattle.genie_object.specs.declared.objects.Entry.{Entry}
use Rattle.genie_object.specs.declared.memory.Memory.{Memory}
use Rattle.genie_object.specs.Pages.{PageTable, page_at, no_page, one_page, one_holder_less, is_there}
use Rattle.genie_object.specs.Objects.{entry_at, names}
use Rattle.genie_object.specs.Memory.{page_bytes, place_bytes, frame_of, frame_in}
use Rattle.genie_object.specs.Sound.{IsSound, AreSlotted, IsFramed, IsPrivate, is_slot, times_named}
use Rattle.genie_object.specs.Steps.{renamed, left_pages, CanRename, fresh_entry}
use Rattle.genie_object.specs.Touching.{KeepsLoans, Touches, IsOutside}
use Rattle.genie_object.specs.Lemmas.Touching.{as_many}
use Rattle.genie_object.specs.Lemmas.Lookup.{page_known, slots_kept, other_at}
use Rattle.genie_object.specs.Lemmas.Entries.{entry_same, entry_or, times_set, entries_size}
use Rattle.genie_object.specs.Lemmas.Relocated.{frame_is}

-- whether it is this page
abbrev pub is_named : Option PageId → ℕ → Bool
is_named page r = elim page [ None ↦ false | Some q ↦ q.0 == r ]

-- what a page is once the entry has left it
pub record IsLeft (page : Option PageId) (r : ℕ) (old new : PageInfo) : Type 0 where
  pub place : new.place ≡ old.place
  pub shares : new.shares + num (is_named page r) ≡ old.shares
  pub other : is_named page r ≡ false → new ≡ old

pub left_page : (t : PageTable) (page : Option PageId) (r : ℕ) → ((p : PageId) → page ≡ Some p → 1 < (page_at t.pages p.0).shares) → ((p : PageId) → page ≡ Some p → p.0 < length t.pages) → IsLeft page r (page_at t.pages r) (page_at (left_pages t page).pages r)
left_page t None r many there = record { place = refl; shares = omega arith; other = λ e. refl }
left_page t (Some p) r many there = elim (same_or r p.0) [
  | inl s ↦
      let is : page_at (left_pages t (Some p)).pages r ≡ one_holder_less (page_at t.pages p.0) = ap (page_at (left_pages t (Some p)).pages) s ∙ get_or-set_same t.pages p.0 _ no_page (there p refl) in
      let same : (p.0 == r) ≡ true = eq-eqb p.0 r (sym s) in
      record {
        place = ap (λ (q : PageInfo). q.place) is ∙ ap (λ n. (page_at t.pages n).place) (sym s);
        shares = omega (arith, ap (λ (q : PageInfo). q.shares) is, ap num same, many p refl, ap (λ n. (page_at t.pages n).shares) s);
        other = λ e. let bad : true ≡ false = sym same ∙ e in cc;
      }
  | inr n ↦
      let is : page_at (left_pages t (Some p)).pages r ≡ page_at t.pages r = get_or-set_other t.pages p.0 r _ no_page n in
      record { place = ap (λ (q : PageInfo). q.place) is; shares = omega (arith, ap (λ (q : PageInfo). q.shares) is, ap num (other_at p.0 r n)); other = λ e. is }
]

pub left_slotted : (t : PageTable) (page : Option PageId) (slots : List Bool) → ((p : PageId) → page ≡ Some p → p.0 < length t.pages) → AreSlotted slots t.pages → AreSlotted slots (left_pages t page).pages
left_slotted t None slots there x = x
left_slotted t (Some p) slots there x = slots_kept t.pages slots p.0 _ (λ s. refl) (there p refl) x

pub left_length : (t : PageTable) (page : Option PageId) → length (left_pages t page).pages ≡ length t.pages
left_length t None = refl
left_length t (Some p) = length-set t.pages p.0 _

pub left_most : (t : PageTable) (page : Option PageId) → (left_pages t page).most ≡ t.most
left_most t None = refl
left_most t (Some p) = refl

pub count_left : (t : PageTable) (page : Option PageId) → ((p : PageId) → page ≡ Some p → 1 < (page_at t.pages p.0).shares) → ((p : PageId) → page ≡ Some p → p.0 < length t.pages) → count_by is_there (left_pages t page).pages ≡ count_by is_there t.pages
count_left t None many there = refl
count_left t (Some p) many there =
    let h = many p refl in
    let was : is_there (page_at t.pages p.0) ≡ true = grind (arith, rules, h) in
    let now : is_there (one_holder_less (page_at t.pages p.0)) ≡ true = grind (arith, rules, h) in
    omega (arith, count_by-set is_there t.pages p.0 (one_holder_less (page_at t.pages p.0)) no_page (there p refl), ap num was, ap num now)

module _ (m : Memory) (o i q : ℕ) (x : CanRename m o i q) where
  abbrev page : Option PageId
  page = (entry_at m.objects o i).page

  abbrev new : Memory
  new = renamed m o i q

  known : (p : PageId) → page ≡ Some p → p.0 < length m.pages.pages
  known p e = page_known m p.0 (omega (arith, x.many p e))

  left : (r : ℕ) → IsLeft page r (page_at m.pages.pages r) (page_at (left_pages m.pages page).pages r)
  left r = left_page m.pages page r x.many known

  room : q < length (left_pages m.pages page).pages
  room = omega (arith, left_length m.pages page, x.room)

  none : (page_at m.pages.pages q).shares ≡ 0
  none = ap (λ (r : PageInfo). r.shares) x.spare

  pub of_q : page_at new.pages.pages q ≡ one_page Zero
  of_q = get_or-set_same (left_pages m.pages page).pages q (one_page Zero) no_page room

  of_other : (r : ℕ) → r ≢ q → page_at new.pages.pages r ≡ page_at (left_pages m.pages page).pages r
  of_other r n = get_or-set_other (left_pages m.pages page).pages q r (one_page Zero) no_page n

  pub place_kept : (r : ℕ) → (page_at new.pages.pages r).place ≡ (page_at m.pages.pages r).place
  place_kept r = elim (same_or r q) [
    | inl s ↦ ap (λ n. (page_at new.pages.pages n).place) s ∙ ap (λ (p : PageInfo). p.place) of_q ∙ sym (ap (λ (p : PageInfo). p.place) x.spare) ∙ ap (λ n. (page_at m.pages.pages n).place) (sym s)
    | inr n ↦ ap (λ (p : PageInfo). p.place) (of_other r n) ∙ (left r).place
  ]

  -- a page that the entry named has other holders
  pub many : (r : ℕ) → is_named page r ≡ true → 1 < (page_at m.pages.pages r).shares
  many r = named_many page x.many where
    named_many : (page : Option PageId) → ((p : PageId) → page ≡ Some p → 1 < (page_at m.pages.pages p.0).shares) → is_named page r ≡ true → 1 < (page_at m.pages.pages r).shares
    named_many None h e = cc
    named_many (Some p) h e = let s : p.0 ≡ r = grind (arith, rules, e) in subst (λ n. 1 < (page_at m.pages.pages n).shares) s (h p refl)

  pub page_other : (r : ℕ) → r ≢ q → is_named page r ≡ false → page_at new.pages.pages r ≡ page_at m.pages.pages r
  page_other r n e = of_other r n ∙ (left r).other e

  not_named : (r : ℕ) → (page_at m.pages.pages r).shares ≡ 1 → is_named page r ≡ false
  not_named r a = elim (is_named page r) as (λ b. is_named page r ≡ b → b ≡ false) [ true ↦ λ e. absurd (omega (arith, many r e, a)) | false ↦ λ e. refl ] refl

  not_q : (r : ℕ) → 0 < (page_at m.pages.pages r).shares → r ≢ q
  not_q r h s = absurd (omega (arith, h, none, ap (λ n. (page_at m.pages.pages n).shares) s))

  alone : (r : ℕ) → (page_at m.pages.pages r).shares ≡ 1 → (page_at new.pages.pages r).shares ≡ 1
  alone r a = ap (λ (p : PageInfo). p.shares) (page_other r (not_q r (omega (arith, a))) (not_named r a)) ∙ a

  counted : (r : ℕ) → (page_at new.pages.pages r).shares ≡ times_named new.objects r
  counted r =
      let times = times_set m.objects o i (fresh_entry q) x.there r in
      let was = x.sound.shared.counted r in
      let less = (left r).shares in
      elim (same_or r q) [
        | inl s ↦
            let now : (page_at new.pages.pages r).shares ≡ 1 = ap (λ n. (page_at new.pages.pages n).shares) s ∙ ap (λ (p : PageInfo). p.shares) of_q in
            let one = ap num (eq-eqb q r (sym s)) in
            let zero' : (page_at m.pages.pages r).shares ≡ 0 = ap (λ n. (page_at m.pages.pages n).shares) s ∙ none in
            omega (arith, times, was, less, now, one, zero')
        | inr n ↦
            let now = ap (λ (p : PageInfo). p.shares) (of_other r n) in
            let other = ap num (other_at q r n) in
            omega (arith, times, was, less, now, other)
      ]

  spare : (r : ℕ) → (page_at new.pages.pages r).shares ≡ 0 → (page_at new.pages.pages r).place ≡ Zero
  spare r e = place_kept r ∙ x.sound.shared.spare r (elim (same_or r q) [
    | inl s ↦ ap (λ n. (page_at m.pages.pages n).shares) s ∙ none
    | inr n ↦
        let now : (page_at (left_pages m.pages page).pages r).shares ≡ 0 = ap (λ (p : PageInfo). p.shares) (sym (of_other r n)) ∙ e in
        let less = (left r).shares in
        elim (is_named page r) as (λ b. is_named page r ≡ b → (page_at m.pages.pages r).shares ≡ 0) [
          | true ↦ λ h. absurd (omega (arith, many r h, now, less, ap num h))
          | false ↦ λ h. omega (arith, now, less, ap num h)
        ] refl
  ])

  framed : (e : Entry) → IsFramed m.pages.pages e.page → IsFramed new.pages.pages e.page
  framed e h = record { number = h.number; frame = h.frame; is_page = h.is_page; is_place = place_kept h.number.0 ∙ h.is_place }

  private : (e : Entry) → IsPrivate m.frames.counts m.pages.pages e.page → IsPrivate m.frames.counts new.pages.pages e.page
  private e h = record { number = h.number; frame = h.frame; is_page = h.is_page; is_place = place_kept h.number.0 ∙ h.is_place; alone = alone h.number.0 h.alone; unlent = h.unlent }

  pub here : entry_at new.objects o i ≡ fresh_entry q
  here = entry_same m.objects o i (fresh_entry q) x.there

  at_here : (a b : ℕ) → a ≡ o → b ≡ i → entry_at new.objects a b ≡ fresh_entry q
  at_here a b s t = ap (λ n. entry_at new.objects n b) s ∙ ap (entry_at new.objects o) t ∙ here

  readable : (a b : ℕ) → (entry_at new.objects a b).readable ≡ true → IsFramed new.pages.pages (entry_at new.objects a b).page
  readable a b w = elim (entry_or m.objects o i (fresh_entry q) x.there a b) [
    | inl s ↦ let bad : false ≡ true = sym (ap (λ (e : Entry). e.readable) (at_here a b s.0 s.1)) ∙ w in cc
    | inr n ↦ subst (λ (e : Entry). IsFramed new.pages.pages e.page) (sym n.1) (framed (entry_at m.objects a b) (x.sound.guarded.readable a b (ap (λ (e : Entry). e.readable) (sym n.1) ∙ w)))
  ]

  writable : (a b : ℕ) → (entry_at new.objects a b).writable ≡ true → IsPrivate m.frames.counts new.pages.pages (entry_at new.objects a b).page
  writable a b w = elim (entry_or m.objects o i (fresh_entry q) x.there a b) [
    | inl s ↦ let bad : false ≡ true = sym (ap (λ (e : Entry). e.writable) (at_here a b s.0 s.1)) ∙ w in cc
    | inr n ↦ subst (λ (e : Entry). IsPrivate m.frames.counts new.pages.pages e.page) (sym n.1) (private (entry_at m.objects a b) (x.sound.guarded.writable a b (ap (λ (e : Entry). e.writable) (sym n.1) ∙ w)))
  ]

  pub sound_renamed : IsSound new
  sound_renamed = record {
    shaped = x.sound.shaped;
    placed = record { in_frame = λ r f e. x.sound.placed.in_frame r f (sym (place_kept r) ∙ e); of_page = λ f r e. place_kept r ∙ x.sound.placed.of_page f r e };
    lent = x.sound.lent;
    held = record { alone = λ h r e k. alone r (x.sound.held.alone h r e k); unlent = x.sound.held.unlent };
    wired = x.sound.wired;
    slotted = slots_kept (left_pages m.pages page).pages m.slots q (one_page Zero) (λ s. ap (is_slot s) ((left q).place ∙ ap (λ (p : PageInfo). p.place) x.spare)) room (left_slotted m.pages page m.slots known x.sound.slotted);
    shared = record { counted = counted; spare = spare };
    guarded = record { readable = readable; writable = writable };
  }

  pub bytes_renamed : (slots : ℕ → List ℕ) (r : Option PageId) → page_bytes m.frames new.pages.pages slots r ≡ page_bytes m.frames m.pages.pages slots r
  bytes_renamed slots None = refl
  bytes_renamed slots (Some r) = ap (place_bytes m.frames slots) (place_kept r.0)

  frame_same : (r : Option PageId) → frame_of new.pages.pages r ≡ frame_of m.pages.pages r
  frame_same None = refl
  frame_same (Some r) = ap frame_in (place_kept r.0)

  -- the entry's own frame isn't held, for others share its page
  shared_unheld : (page : Option PageId) (h : ℕ) → ((p : PageId) → page ≡ Some p → 1 < (page_at m.pages.pages p.0).shares) → frame_of m.pages.pages page ≡ Some h → is_held (counts_at m.frames h) ≡ true → true ≡ false
  shared_unheld None h s e k = cc
  shared_unheld (Some p) h s e k =
      let y = frame_is (page_at m.pages.pages p.0).place h e in
      let own : owner_at m.frames h ≡ Page p.0 = ap (owner_at m.frames) y.number ∙ x.sound.placed.in_frame p.0 y.frame y.is in
      absurd (omega (arith, s p refl, x.sound.held.alone h p.0 own k))

  pub keeps_renamed : KeepsLoans m new
  keeps_renamed = record {
    entry_held = λ a b h e k. elim (entry_or m.objects o i (fresh_entry q) x.there a b) [
      | inl s ↦ let bad : true ≡ false = shared_unheld page h x.many (ap (λ n. frame_of m.pages.pages (entry_at m.objects o n).page) (sym s.1) ∙ ap (λ n. frame_of m.pages.pages (entry_at m.objects n b).page) (sym s.0) ∙ e) k in cc
      | inr n ↦ frame_same (entry_at new.objects a b).page ∙ ap (λ (t : Entry). frame_of m.pages.pages t.page) n.1 ∙ e
    ];
    held = λ h k. k;
    lent = λ h l. record { lent = l; bytes = refl; owner = inl refl };
    loans = λ h. as_many (counts_at m.frames h) (counts_at m.frames h) refl;
    systems = λ h. refl;
    entries = entries_size m.objects o i (fresh_entry q) x.there;
    number = refl;
    page = refl;
    slots = refl;
    most = left_most m.pages page;
  }

  outside_other : (spoken : ℕ → ℕ → Bool) → spoken o i ≡ true → (r : ℕ) → IsOutside spoken m r → is_named page r ≡ false
  outside_other spoken h r y = elim (is_named page r) as (λ b. is_named page r ≡ b → b ≡ false) [ true ↦ λ e. let bad : true ≡ false = sym h ∙ y.named o i e in cc | false ↦ λ e. refl ] refl

  spoken_here : (spoken : ℕ → ℕ → Bool) → spoken o i ≡ true → (a b : ℕ) → a ≡ o → b ≡ i → spoken a b ≡ true
  spoken_here spoken h a b s t = ap (λ n. spoken n b) s ∙ ap (spoken o) t ∙ h

  pub touches_renamed : (spoken : ℕ → ℕ → Bool) → spoken o i ≡ true → Touches spoken m new
  touches_renamed spoken h = record {
    entries = λ a b e. elim (entry_or m.objects o i (fresh_entry q) x.there a b) [
      | inl s ↦ let bad : true ≡ false = sym (spoken_here spoken h a b s.0 s.1) ∙ e in cc
      | inr n ↦ record { page = ap (λ (t : Entry). t.page) n.1; readable = λ w. ap (λ (t : Entry). t.readable) (sym n.1) ∙ w; writable = λ w. ap (λ (t : Entry). t.writable) (sym n.1) ∙ w }
    ];
    pages = λ r y. page_other r (not_q r y.there) (outside_other spoken h r y);
    outside = λ r y. record {
      there = rw (page_other r (not_q r y.there) (outside_other spoken h r y)) y.there;
      named = λ a b e. elim (entry_or m.objects o i (fresh_entry q) x.there a b) [
        | inl s ↦
            let is : (q == r) ≡ true = sym (ap (names r) (at_here a b s.0 s.1)) ∙ e in
            let same : r ≡ q = grind (arith, rules, is) in absurd (not_q r y.there same)
        | inr n ↦ y.named a b (ap (names r) (sym n.1) ∙ e)
      ];
    };
    counts = λ r f y e. refl;
  }

  pub count_renamed : count_by is_there new.pages.pages ≡ count_by is_there m.pages.pages + 1
  count_renamed =
      let was : is_there (page_at (left_pages m.pages page).pages q) ≡ false = ap (nat_lt 0) (let less = (left q).shares in let z : (page_at (left_pages m.pages page).pages q).shares ≡ 0 = omega (arith, less, none) in z) in
      omega (arith, count_by-set is_there (left_pages m.pages page).pages q (one_page Zero) no_page room, ap num was, count_left m.pages page x.many known)
