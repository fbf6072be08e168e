-- The pages in frames and slots, and how many of them owned regions have.
use Rattle.std.proofs.Common.{◌≡◌, ◌≢◌, ℕ, ◌<◌, ◌≤◌, ◌+◌, Bool, true, false, not, List, refl, sym, arith, ap, length, get_or, ◌∙◌, inl, inr}
use Rattle.std.specs.Prelude.{◌==◌, ◌⊎◌, ◌&&◌, nat_lt, count_by, Option}
use Rattle.std.proofs.lemmas.Bool.{cases_lt, eq-eqb, ltb-false}
use Rattle.genie_base.specs.Lemmas.Places.{num}
use Rattle.genie_frame.specs.declared.frame.FrameId.{FrameId}
use Rattle.genie_frame.specs.declared.frame.Owner.{Owner}
use Rattle.genie_frame.specs.declared.frame.Owner.TheVariants.{Free, Page, System, Pool, Nobody}
use Rattle.genie_frame.specs.FrameTable.{is_page}
use Rattle.genie_object.specs.declared.memory.Memory.{Memory}
use Rattle.genie_object.specs.declared.pages.PageInfo.{PageInfo}
use Rattle.genie_object.specs.declared.pages.Place.{Place}
use Rattle.genie_object.specs.declared.pages.Place.TheVariants.{Zero, Frame, Slot}
use Rattle.genie_object.specs.Lemmas.Lookup.{frame_known, in_range}
use Rattle.genie_object.specs.Pages.{page_at, no_page, is_there}
use Rattle.genie_object.specs.Sound.{IsSound, FitsHidden, times_named, is_in_slot, is_slot}
use Rattle.genie_store.specs.Slots.{slot_at}
use Rattle.genie_region.specs.declared.region.Region.{Region}
use Rattle.genie_hiding.specs.declared.hidden.Hidden.{Hidden}
use Rattle.genie_hiding.specs.Hidden.{times_hidden, is_hidden, is_visible, objects_of}
use Rattle.genie_hiding.specs.Rooms.{visible_pages}
use Rattle.genie_kernel.specs.Backed.{AreBacked, all_regions}
use Rattle.genie_kernel.specs.Regions.{owned_regions}
use Rattle.genie_room.specs.Places.{pages_of, is_pageless}
use Rattle.genie_room.specs.Lemmas.Totals.{total, total_more, total_plus, total_none, total_same, total_above, total_turned, sum_places, count_split}
use Rattle.genie_room.proofs.Named.{times_owned, named_split, hidden_framed, owned_total}

-- the page is in frame f, and no hidden region's
abbrev is_frame : ℕ → Place → Bool
is_frame f Zero = false
is_frame f (Frame g) = g.0 == f
is_frame f (Slot s) = false

abbrev seats : Bool → ℕ → Place → Bool
seats hidden f place = not hidden && is_frame f place

-- it is in some frame, and no hidden region's
abbrev seated : Bool → Place → ℕ
seated hidden Zero = 0
seated hidden (Frame g) = num (not hidden)
seated hidden (Slot s) = 0

-- it is in some slot
abbrev slotted : Place → ℕ
slotted Zero = 0
slotted (Frame g) = 0
slotted (Slot s) = 1

seats_once : (n : ℕ) (hidden : Bool) (place : Place) → total (λ f. num (seats hidden f place)) n ≤ seated hidden place
seats_once n true place = omega (arith, total_none n)
seats_once n false Zero = omega (arith, total_none n)
seats_once n false (Frame g) = total_same g.0 n
seats_once n false (Slot s) = omega (arith, total_none n)

slots_once : (n : ℕ) (place : Place) → total (λ s. num (is_slot s place)) n ≤ slotted place
slots_once n Zero = omega (arith, total_none n)
slots_once n (Frame g) = omega (arith, total_none n)
slots_once n (Slot r) = total_same r n

-- the frame has page p
abbrev has_page : ℕ → Owner → Bool
has_page p Free = false
has_page p (Page q) = q == p
has_page p (System t) = false
has_page p (Pool d) = false
has_page p Nobody = false

page_once : (n : ℕ) (o : Owner) → total (λ p. num (has_page p o)) n ≤ num (is_page o)
page_once n Free = omega (arith, total_none n)
page_once n (Page q) = total_same q n
page_once n (System t) = omega (arith, total_none n)
page_once n (Pool d) = omega (arith, total_none n)
page_once n Nobody = omega (arith, total_none n)

small : (b : Bool) → num b ≤ 1
small true = omega arith
small false = omega arith

seat_same : (b : Bool) (f : ℕ) → num (not b) ≤ num (seats b f (Frame (record { 0 = f })))
seat_same true f = omega arith
seat_same false f = let one : num (f == f) ≡ 1 = ap num (eq-eqb f f refl) in omega (arith, one)

hidden_or : (objects : _) (hidden : List ℕ) (p : ℕ) (b : Bool) → is_hidden objects hidden p ≡ b → (b ≡ true) ⊎ (times_hidden objects hidden p ≡ 0)
hidden_or objects hidden p true e = inl refl
hidden_or objects hidden p false e = inr (omega (arith, ltb-false 0 (times_hidden objects hidden p) e))

module _ (m : Memory) (ps : List (Option (List Region))) (hiddens : List Hidden) (sound : IsSound m) (fits : FitsHidden m (objects_of hiddens)) (backed : AreBacked m.objects (all_regions ps hiddens)) where
  abbrev hidden : List ℕ
  hidden = objects_of hiddens

  abbrev count : ℕ
  count = length m.pages.pages

  abbrev frames : ℕ
  frames = length m.frames.owners

  abbrev hides : ℕ → Bool
  hides p = is_hidden m.objects hidden p

  abbrev place : ℕ → Place
  place p = (page_at m.pages.pages p).place

  abbrev uses : ℕ → ℕ
  uses p = times_owned m.objects (owned_regions ps) p

  -- a page that is somewhere is among the pages
  is_below : (p : ℕ) (g : FrameId) → place p ≡ Frame g → p < count
  is_below p g e = in_range m.pages.pages p no_page (λ none. let zero_place : Zero ≡ Frame g = sym (ap (λ (q : PageInfo). q.place) none) ∙ e in cc)

  -- a page in a frame is one of the pages
  visible_seat : (f : ℕ) (o : Owner) → get_or m.frames.owners f Free ≡ o → num (is_visible m.objects hidden o) ≤ total (λ p. num (seats (hides p) f (place p))) count
  visible_seat f Free e = omega arith
  visible_seat f (Page p) e =
      let at : place p ≡ Frame (record { 0 = f }) = sound.placed.of_page (record { 0 = f }) p e in
      let here = total_above (λ q. num (seats (hides q) f (place q))) count p (is_below p (record { 0 = f }) at) in
      let same = ap (λ x. num (seats (hides p) f x)) at in
      omega (arith, here, same, seat_same (hides p) f)
  visible_seat f (System t) e = omega arith
  visible_seat f (Pool d) e = omega arith
  visible_seat f Nobody e = omega arith

  visible_total : visible_pages m hidden ≤ total (λ p. seated (hides p) (place p)) count
  visible_total =
      let by_place = sum_places (λ o. num (is_visible m.objects hidden o)) Free m.frames.owners in
      let each = total_more (λ f. num (is_visible m.objects hidden (get_or m.frames.owners f Free))) (λ f. total (λ p. num (seats (hides p) f (place p))) count) frames (λ f l. visible_seat f (get_or m.frames.owners f Free) refl) in
      let turned = total_turned (λ f p. num (seats (hides p) f (place p))) frames count in
      let once = total_more (λ p. total (λ f. num (seats (hides p) f (place p))) frames) (λ p. seated (hides p) (place p)) count (λ p l. seats_once frames (hides p) (place p)) in
      omega (arith, by_place, each, turned, once)

  slot_pages : (s : ℕ) → num (slot_at m.slots s) ≤ total (λ p. num (is_slot s (place p))) count
  slot_pages s = let taken : count_by (is_in_slot s) m.pages.pages ≡ num (slot_at m.slots s) = sound.slotted.counted s in omega (arith, taken, sum_places (λ q. num (is_in_slot s q)) no_page m.pages.pages)

  slots_total : count_by (λ b. b) m.slots ≤ total (λ p. slotted (place p)) count
  slots_total =
      let by_place = sum_places (λ b. num b) false m.slots in
      let each = total_more (λ s. num (slot_at m.slots s)) (λ s. total (λ p. num (is_slot s (place p))) count) (length m.slots) (λ s l. slot_pages s) in
      let turned = total_turned (λ s p. num (is_slot s (place p))) (length m.slots) count in
      let once = total_more (λ p. total (λ s. num (is_slot s (place p))) (length m.slots)) (λ p. slotted (place p)) count (λ p l. slots_once (length m.slots) (place p)) in
      omega (arith, by_place, each, turned, once)

  -- a page that is somewhere is named
  named_somewhere : (p : ℕ) → place p ≢ Zero → 0 < times_named m.objects p
  named_somewhere p away = elim (cases_lt 0 (times_named m.objects p)) [
    | inl l ↦ l
    | inr none ↦ absurd (away (sound.shared.spare p (omega (arith, none, sound.shared.counted p))))
  ]

  split : (p : ℕ) → 0 < times_named m.objects p → 0 < uses p + times_hidden m.objects hidden p
  split p l = named_split m.objects ps hiddens p backed l

  used : (p : ℕ) (x : Place) → place p ≡ x → seated (hides p) x + slotted x ≤ uses p
  used p Zero e = omega arith
  used p (Frame g) e = elim (hidden_or m.objects hidden p (hides p) refl) [
    | inl hid ↦ let none = ap (λ b. num (not b)) hid in omega (arith, none)
    | inr none ↦ omega (arith, none, small (not (hides p)), split p (named_somewhere p (λ z. let both : Zero ≡ Frame g = sym z ∙ e in cc)))
  ]
  used p (Slot s) e = elim (hidden_or m.objects hidden p (hides p) refl) [
    | inl hid ↦ let both : Slot s ≡ Frame (hidden_framed m hidden p fits hid).frame = sym e ∙ (hidden_framed m hidden p fits hid).is_place in cc
    | inr none ↦ omega (arith, none, split p (named_somewhere p (λ z. let both : Zero ≡ Slot s = sym z ∙ e in cc)))
  ]

  owned_pages : total uses count ≤ pages_of ps
  owned_pages = owned_total m.objects ps hiddens count backed

  -- the pages outside hidden regions that are in frames, and those in slots, are pages of owned regions
  pub places_owned : visible_pages m hidden + count_by (λ b. b) m.slots ≤ pages_of ps
  places_owned =
      let parts = total_plus (λ p. seated (hides p) (place p)) (λ p. slotted (place p)) count in
      let each = total_more (λ p. seated (hides p) (place p) + slotted (place p)) uses count (λ p l. used p (place p) refl) in
      omega (arith, parts, each, visible_total, slots_total, owned_pages)

  -- a page of a hidden region is in one frame
  hidden_page : (p : ℕ) (b : Bool) → hides p ≡ b → num b ≤ total (λ f. num (has_page p (get_or m.frames.owners f Free))) frames
  hidden_page p false e = omega arith
  hidden_page p true e =
      let at = hidden_framed m hidden p fits e in
      let here = total_above (λ f. num (has_page p (get_or m.frames.owners f Free))) frames at.frame.0 (frame_known m p at.frame sound at.is_place) in
      let same = ap (λ o. num (has_page p o)) (sound.placed.in_frame p at.frame at.is_place) in
      let one = ap num (eq-eqb p p refl) in
      omega (arith, here, same, one)

  hidden_total : total (λ p. num (hides p)) count ≤ count_by is_page m.frames.owners
  hidden_total =
      let each = total_more (λ p. num (hides p)) (λ p. total (λ f. num (has_page p (get_or m.frames.owners f Free))) frames) count (λ p l. hidden_page p (hides p) refl) in
      let turned = total_turned (λ p f. num (has_page p (get_or m.frames.owners f Free))) count frames in
      let once = total_more (λ f. total (λ p. num (has_page p (get_or m.frames.owners f Free))) count) (λ f. num (is_page (get_or m.frames.owners f Free))) frames (λ f l. page_once count (get_or m.frames.owners f Free)) in
      omega (arith, each, turned, once, sum_places (λ o. num (is_page o)) Free m.frames.owners)

  there_used : (p : ℕ) → num (is_there (page_at m.pages.pages p)) ≤ uses p + num (hides p)
  there_used p = elim (cases_lt 0 (times_named m.objects p)) [
    | inl l ↦ elim (hidden_or m.objects hidden p (hides p) refl) [
      | inl hid ↦ let one = ap num hid in omega (arith, one, small (is_there (page_at m.pages.pages p)))
      | inr none ↦ omega (arith, none, split p l, small (is_there (page_at m.pages.pages p)))
    ]
    | inr none ↦ let named : times_named m.objects p ≡ 0 = omega (arith, none) in let gone = ap (λ n. num (nat_lt 0 n)) (sound.shared.counted p ∙ named) in omega (arith, gone)
  ]

  -- each page is one of an owned region, or in a frame
  pub pages_owned : count_by is_there m.pages.pages + count_by is_pageless m.frames.owners ≤ pages_of ps + frames
  pages_owned =
      let by_place = sum_places (λ q. num (is_there q)) no_page m.pages.pages in
      let each = total_more (λ p. num (is_there (page_at m.pages.pages p))) (λ p. uses p + num (hides p)) count (λ p l. there_used p) in
      let parts = total_plus uses (λ p. num (hides p)) count in
      omega (arith, by_place, each, parts, owned_pages, hidden_total, count_split is_page m.frames.owners)
