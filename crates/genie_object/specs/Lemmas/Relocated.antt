-- A page that goes from one place to another.
use Rattle.std.proofs.Common.{◌≡◌, ◌≢◌, ℕ, ◌<◌, Bool, true, false, List, [], refl, arith, ap, length, set, get_or, sym, ◌∙◌, inl, inr, subst, get_or-set_other, get_or-set_same, length-set}
use Rattle.std.specs.Prelude.{◌⊎◌, Option, Some, None, nat_lt, if◌then◌else◌}
use Rattle.genie_base.specs.Lemmas.Places.{same_or}
use Rattle.genie_frame.specs.declared.frame.Owner.{Owner}
use Rattle.genie_frame.specs.declared.frame.Owner.TheVariants.{Free, Page, Nobody}
use Rattle.genie_frame.specs.declared.frame.Counts.{Counts}
use Rattle.genie_frame.specs.declared.frame.FrameId.{FrameId}
use Rattle.genie_frame.specs.FrameTable.{FrameTable, owner_at, counts_at, bytes_at, is_lent, is_held, is_page, is_system, no_counts, Agree}
use Rattle.genie_frame.specs.Frames.{unowned}
use Rattle.genie_object.specs.declared.pages.Place.{Place}
use Rattle.genie_object.specs.declared.pages.Place.TheVariants.{Zero, Frame, Slot}
use Rattle.genie_object.specs.declared.pages.PageInfo.{PageInfo}
use Rattle.genie_object.specs.declared.pages.PageId.{PageId}
use Rattle.genie_object.specs.declared.memory.Memory.{Memory}
use Rattle.genie_object.specs.Pages.{page_at, no_page}
use Rattle.genie_object.specs.Objects.{entry_at, names}
use Rattle.genie_object.specs.Memory.{seen, is_kept, page_bytes, place_bytes, frame_of, frame_in}
use Rattle.genie_object.specs.Sound.{IsSound, IsPlaced, AreSlotted, IsFramed, IsPrivate, is_slot, strong_at}
use Rattle.genie_object.specs.Steps.{relocated, left_owners, claimed_owners, left_slots, claimed_slots, CanGo, CanClaim, CanClaimFrame, CanClaimSlot, is_frame}
use Rattle.genie_object.specs.Touching.{KeepsLoans, Touches, Lasts, IsOutside, system_owner}
use Rattle.genie_object.specs.Lemmas.Touching.{as_many}
use Rattle.genie_object.specs.Lemmas.Lookup.{in_range, page_known, frame_known, slot_taken, slots_kept, slot_left, slot_come, unowned_not_page, unowned_free, unowned_nobody, kept_left, held_lent, strong_lent, named}

-- what became of frame h once page p went from a place to another
pub data Became (owners : List Owner) (counts : List Counts) (p : ℕ) (from to : Place) (h : ℕ) (now : Owner) : Type 0 where
  Gained : (g : FrameId) → to ≡ Frame g → h ≡ g.0 → now ≡ Page p → Became owners counts p from to h now
  Lost : (f : FrameId) → from ≡ Frame f → h ≡ f.0 → now ≡ unowned (get_or counts h no_counts) → Became owners counts p from to h now
  Stayed : ((g : FrameId) → to ≡ Frame g → h ≢ g.0) → ((f : FrameId) → from ≡ Frame f → h ≢ f.0) → now ≡ get_or owners h Free → Became owners counts p from to h now

module _ (owners : List Owner) (counts : List Counts) (p : ℕ) where
  claim : (to : Place) (h : ℕ) → ((g : FrameId) → to ≡ Frame g → g.0 < length owners) → Became owners counts p Zero to h (get_or (claimed_owners owners p to) h Free)
  claim Zero h l = Stayed (λ g e. cc) (λ f e. cc) refl
  claim (Slot s) h l = Stayed (λ g e. cc) (λ f e. cc) refl
  claim (Frame g) h l = elim (same_or h g.0) [
    | inl e ↦ Gained g refl e (ap (λ n. get_or (set owners g.0 (Page p)) n Free) e ∙ get_or-set_same owners g.0 (Page p) Free (l g refl))
    | inr n ↦ Stayed (λ g' e. let same : g.0 ≡ g'.0 = let w : Frame g ≡ Frame g' = e in cc in λ w. n (w ∙ sym same)) (λ f e. cc) (get_or-set_other owners g.0 h (Page p) Free n)
  ]

  leave : (from to : Place) (h : ℕ) → ((f : FrameId) → from ≡ Frame f → f.0 < length owners) → ((f g : FrameId) → from ≡ Frame f → to ≡ Frame g → f.0 ≢ g.0) → Became owners counts p Zero to h (get_or (claimed_owners owners p to) h Free) → length (claimed_owners owners p to) ≡ length owners → Became owners counts p from to h (get_or (left_owners (claimed_owners owners p to) counts from) h Free)
  leave Zero to h l n b s = b
  leave (Slot r) to h l n (Gained g e w v) s = Gained g e w v
  leave (Slot r) to h l n (Lost f e w v) s = let bad : Zero ≡ Frame f = e in cc
  leave (Slot r) to h l n (Stayed a b v) s = Stayed a (λ f e. cc) v
  leave (Frame f) to h l n b s = elim (same_or h f.0) [
    | inl e ↦ Lost f refl e (ap (λ k. get_or (set (claimed_owners owners p to) f.0 (unowned (get_or counts f.0 no_counts))) k Free) e ∙ get_or-set_same (claimed_owners owners p to) f.0 _ Free (omega (arith, s, l f refl)) ∙ ap (λ k. unowned (get_or counts k no_counts)) (sym e))
    | inr ne ↦ other b ne
  ] where
    same : h ≢ f.0 → get_or (set (claimed_owners owners p to) f.0 (unowned (get_or counts f.0 no_counts))) h Free ≡ get_or (claimed_owners owners p to) h Free
    same ne = get_or-set_other (claimed_owners owners p to) f.0 h _ Free ne

    other : Became owners counts p Zero to h (get_or (claimed_owners owners p to) h Free) → h ≢ f.0 → Became owners counts p (Frame f) to h (get_or (set (claimed_owners owners p to) f.0 (unowned (get_or counts f.0 no_counts))) h Free)
    other (Gained g e w v) ne = Gained g e w (same ne ∙ v)
    other (Lost k e w v) ne = let bad : Zero ≡ Frame k = e in cc
    other (Stayed a b v) ne = Stayed a (λ k e. let w : Frame f ≡ Frame k = e in let eq : f.0 ≡ k.0 = cc in λ z. ne (z ∙ sym eq)) (same ne ∙ v)

  claimed_size : (to : Place) → length (claimed_owners owners p to) ≡ length owners
  claimed_size Zero = refl
  claimed_size (Slot s) = refl
  claimed_size (Frame g) = length-set owners g.0 (Page p)

  left_size : (from to : Place) → length (left_owners (claimed_owners owners p to) counts from) ≡ length owners
  left_size Zero to = claimed_size to
  left_size (Slot s) to = claimed_size to
  left_size (Frame f) to = length-set (claimed_owners owners p to) f.0 _ ∙ claimed_size to

  pub became : (from to : Place) (h : ℕ) → ((g : FrameId) → to ≡ Frame g → g.0 < length owners) → ((f : FrameId) → from ≡ Frame f → f.0 < length owners) → ((f g : FrameId) → from ≡ Frame f → to ≡ Frame g → f.0 ≢ g.0) → Became owners counts p from to h (get_or (left_owners (claimed_owners owners p to) counts from) h Free)
  became from to h lg lf n = leave from to h lf n (claim to h lg) (claimed_size to)

claim_frame : (m : Memory) (to : Place) (g : FrameId) → CanClaim m to → to ≡ Frame g → CanClaimFrame m.frames g.0
claim_frame m to g x e = subst (CanClaim m) e x

claim_slot : (m : Memory) (to : Place) (s : ℕ) → CanClaim m to → to ≡ Slot s → CanClaimSlot m.slots s
claim_slot m to s x e = subst (CanClaim m) e x

slotted_after : (pages : List PageInfo) (slots : List Bool) (p : ℕ) (from to : Place) → (page_at pages p).place ≡ from → p < length pages → ((s : ℕ) → from ≡ Slot s → is_frame to ≡ true) → ((s : ℕ) → to ≡ Slot s → CanClaimSlot slots s) → (to ≢ Zero) → AreSlotted slots pages → AreSlotted (left_slots (claimed_slots slots to) from) (set pages p (record (page_at pages p) { place = to }))
slotted_after pages slots p from Zero e l a c z x = absurd (z refl)
slotted_after pages slots p Zero (Frame g) e l a c z x = slots_kept pages slots p _ (λ s. ap (is_slot s) e) l x
slotted_after pages slots p (Frame f) (Frame g) e l a c z x = slots_kept pages slots p _ (λ s. ap (is_slot s) e) l x
slotted_after pages slots p (Slot r) (Frame g) e l a c z x = slot_left pages slots p r _ e (λ s. refl) l (in_range slots r false (λ n. let bad : true ≡ false = sym (slot_taken pages slots p r e l x) ∙ n in cc)) x
slotted_after pages slots p Zero (Slot s) e l a c z x = slot_come pages slots p s _ (λ r. ap (is_slot r) e) refl (c s refl).free l (c s refl).there x
slotted_after pages slots p (Frame f) (Slot s) e l a c z x = slot_come pages slots p s _ (λ r. ap (is_slot r) e) refl (c s refl).free l (c s refl).there x
slotted_after pages slots p (Slot r) (Slot s) e l a c z x = let bad : false ≡ true = a r refl in cc

slots_size : (slots : List Bool) (from to : Place) → length (left_slots (claimed_slots slots to) from) ≡ length slots
slots_size slots Zero Zero = refl
slots_size slots Zero (Frame g) = refl
slots_size slots Zero (Slot s) = length-set slots s true
slots_size slots (Frame f) Zero = refl
slots_size slots (Frame f) (Frame g) = refl
slots_size slots (Frame f) (Slot s) = length-set slots s true
slots_size slots (Slot r) Zero = length-set slots r false
slots_size slots (Slot r) (Frame g) = length-set slots r false
slots_size slots (Slot r) (Slot s) = length-set (set slots s true) r false ∙ length-set slots s true

pub record IsIn (to : Place) : Type 0 where
  pub frame : FrameId
  pub is : to ≡ Frame frame

frame_or : (to : Place) → IsIn to ⊎ (is_frame to ≡ false)
frame_or Zero = inr refl
frame_or (Frame g) = inl (record { frame = g; is = refl })
frame_or (Slot s) = inr refl

pub record IsAt (place : Place) (f : ℕ) : Type 0 where
  pub frame : FrameId
  pub is : place ≡ Frame frame
  pub number : f ≡ frame.0

pub frame_is : (place : Place) (f : ℕ) → frame_in place ≡ Some f → IsAt place f
frame_is Zero f e = cc
frame_is (Frame g) f e = record { frame = g; is = refl; number = cc }
frame_is (Slot s) f e = cc

pub owners_unseen : (t : FrameTable) (owners : List Owner) (slots : ℕ → List ℕ) (place : Place) → place_bytes (record t { owners = owners }) slots place ≡ place_bytes t slots place
owners_unseen t owners slots Zero = refl
owners_unseen t owners slots (Frame g) = refl
owners_unseen t owners slots (Slot s) = refl

pub unowned_system : (c : Counts) → system_owner (unowned c) ≡ Free
unowned_system c = elim (is_lent c) as (λ b. system_owner (if b then Nobody else Free) ≡ Free) [ true ↦ refl | false ↦ refl ]

module _ (m : Memory) (p : ℕ) (to : Place) (x : CanGo m p to) where
  abbrev from : Place
  from = (page_at m.pages.pages p).place

  abbrev new : Memory
  new = relocated m p to

  target : (g : FrameId) → to ≡ Frame g → CanClaimFrame m.frames g.0
  target g e = claim_frame m to g x.claim e

  owned : (f : FrameId) → from ≡ Frame f → owner_at m.frames f.0 ≡ Page p
  owned f e = x.sound.placed.in_frame p f e

  unpaged : (g : FrameId) (q h : ℕ) → to ≡ Frame g → owner_at m.frames h ≡ Page q → h ≢ g.0
  unpaged g q h e w s = let bad : true ≡ false = sym (ap is_page w) ∙ ap (λ n. is_page (owner_at m.frames n)) s ∙ (target g e).unpaged in cc

  pub frame_became : (h : ℕ) → Became m.frames.owners m.frames.counts p from to h (owner_at new.frames h)
  frame_became h = became m.frames.owners m.frames.counts p from to h (λ g e. (target g e).there) (λ f e. frame_known m p f x.sound e) (λ f g e w. unpaged g p f.0 w (owned f e))

  page_there : p < length m.pages.pages
  page_there = page_known m p x.there

  pub of_p : page_at new.pages.pages p ≡ record (page_at m.pages.pages p) { place = to }
  of_p = get_or-set_same m.pages.pages p _ no_page page_there

  pub page_other : (q : ℕ) → q ≢ p → page_at new.pages.pages q ≡ page_at m.pages.pages q
  page_other q ne = get_or-set_other m.pages.pages p q _ no_page ne

  pub shares_kept : (q : ℕ) → (page_at new.pages.pages q).shares ≡ (page_at m.pages.pages q).shares
  shares_kept q = elim (same_or q p) [
    | inl w ↦ ap (λ n. (page_at new.pages.pages n).shares) w ∙ ap (λ (r : PageInfo). r.shares) of_p ∙ ap (λ n. (page_at m.pages.pages n).shares) (sym w)
    | inr n ↦ ap (λ (r : PageInfo). r.shares) (page_other q n)
  ]

  place_of_p : (q : ℕ) → q ≡ p → (page_at new.pages.pages q).place ≡ to
  place_of_p q w = ap (λ n. (page_at new.pages.pages n).place) w ∙ ap (λ (r : PageInfo). r.place) of_p

  in_frame : (q : ℕ) (h : FrameId) → (page_at new.pages.pages q).place ≡ Frame h → Became m.frames.owners m.frames.counts p from to h.0 (owner_at new.frames h.0) → owner_at new.frames h.0 ≡ Page q
  in_frame q h e (Gained g t w v) = elim (same_or q p) [
    | inl s ↦ v ∙ ap Page (sym s)
    | inr n ↦ absurd (unpaged g q h.0 t (x.sound.placed.in_frame q h (ap (λ (r : PageInfo). r.place) (sym (page_other q n)) ∙ e)) w)
  ]
  in_frame q h e (Lost f t w v) = elim (same_or q p) [
    | inl s ↦ absurd (unpaged h p f.0 (sym (place_of_p q s) ∙ e) (owned f t) (sym w))
    | inr n ↦
        let was : owner_at m.frames h.0 ≡ Page q = x.sound.placed.in_frame q h (ap (λ (r : PageInfo). r.place) (sym (page_other q n)) ∙ e) in
        let bad : Page q ≡ Page p = sym was ∙ ap (owner_at m.frames) w ∙ owned f t in absurd (n cc)
  ]
  in_frame q h e (Stayed a b v) = elim (same_or q p) [
    | inl s ↦ absurd (a h (sym (place_of_p q s) ∙ e) refl)
    | inr n ↦ v ∙ x.sound.placed.in_frame q h (ap (λ (r : PageInfo). r.place) (sym (page_other q n)) ∙ e)
  ]

  of_page : (h : FrameId) (q : ℕ) → owner_at new.frames h.0 ≡ Page q → Became m.frames.owners m.frames.counts p from to h.0 (owner_at new.frames h.0) → (page_at new.pages.pages q).place ≡ Frame h
  of_page h q e (Gained g t w v) =
      let at : Page p ≡ Page q = sym v ∙ e in
      let same : q ≡ p = cc in
      let eq : g ≡ h = λ k. record { 0 = sym w k } in
      place_of_p q same ∙ t ∙ ap Frame eq
  of_page h q e (Lost f t w v) = absurd (unowned_not_page (counts_at m.frames h.0) q (sym v ∙ e))
  of_page h q e (Stayed a b v) =
      let before : (page_at m.pages.pages q).place ≡ Frame h = x.sound.placed.of_page h q (sym v ∙ e) in
      ap (λ (r : PageInfo). r.place) (page_other q (λ w. b h (ap (λ n. (page_at m.pages.pages n).place) (sym w) ∙ before) refl)) ∙ before

  placed : IsPlaced new.frames.owners new.pages.pages
  placed = record { in_frame = λ q h e. in_frame q h e (frame_became h.0); of_page = λ h q e. of_page h q e (frame_became h.0) }

  agree : (h : ℕ) → Became m.frames.owners m.frames.counts p from to h (owner_at new.frames h) → Agree (owner_at new.frames h) (counts_at m.frames h)
  agree h (Gained g t w v) = record { free = λ e. let bad : Page p ≡ Free = sym v ∙ e in cc; nobody = λ e. let bad : Page p ≡ Nobody = sym v ∙ e in cc }
  agree h (Lost f t w v) = record { free = λ e. unowned_free (counts_at m.frames h) (sym v ∙ e); nobody = λ e. unowned_nobody (counts_at m.frames h) (sym v ∙ e) }
  agree h (Stayed a b v) = record { free = λ e. (x.sound.lent h).free (sym v ∙ e); nobody = λ e. (x.sound.lent h).nobody (sym v ∙ e) }

  target_unheld : (g : FrameId) (h : ℕ) → to ≡ Frame g → h ≡ g.0 → is_held (counts_at m.frames h) ≡ false
  target_unheld g h t w = ap (λ n. is_held (counts_at m.frames n)) w ∙ held_lent (counts_at m.frames g.0) (target g t).unlent

  source_unheld : (f : FrameId) (h : ℕ) → from ≡ Frame f → h ≡ f.0 → is_held (counts_at m.frames h) ≡ false
  source_unheld f h t w = ap (λ n. is_held (counts_at m.frames n)) w ∙ x.unheld f t

  alone : (h q : ℕ) → owner_at new.frames h ≡ Page q → is_held (counts_at m.frames h) ≡ true → Became m.frames.owners m.frames.counts p from to h (owner_at new.frames h) → (page_at new.pages.pages q).shares ≡ 1
  alone h q e k (Gained g t w v) = let bad : true ≡ false = sym k ∙ target_unheld g h t w in cc
  alone h q e k (Lost f t w v) = let bad : true ≡ false = sym k ∙ source_unheld f h t w in cc
  alone h q e k (Stayed a b v) = shares_kept q ∙ x.sound.held.alone h q (sym v ∙ e) k

  unlent : (h : ℕ) → is_system (owner_at new.frames h) ≡ false → is_held (counts_at m.frames h) ≡ true → Became m.frames.owners m.frames.counts p from to h (owner_at new.frames h) → strong_at m.frames.counts h ≡ 0
  unlent h e k (Gained g t w v) = let bad : true ≡ false = sym k ∙ target_unheld g h t w in cc
  unlent h e k (Lost f t w v) = let bad : true ≡ false = sym k ∙ source_unheld f h t w in cc
  unlent h e k (Stayed a b v) = x.sound.held.unlent h (ap is_system (sym v) ∙ e) k

  readable_now : (o i : ℕ) → (entry_at m.objects o i).readable ≡ true → IsFramed new.pages.pages (entry_at m.objects o i).page
  readable_now o i w =
      let h = x.sound.guarded.readable o i w in
      elim (same_or h.number.0 p) [
        | inl s ↦ elim (frame_or to) [
          | inl t ↦ record { number = h.number; frame = t.frame; is_page = h.is_page; is_place = place_of_p h.number.0 s ∙ t.is }
          | inr t ↦ let bad : true ≡ false = sym w ∙ x.unreadable t o i (ap (λ n. names n (entry_at m.objects o i)) (sym s) ∙ named h.number (entry_at m.objects o i) h.is_page) in cc
        ]
        | inr n ↦ record { number = h.number; frame = h.frame; is_page = h.is_page; is_place = ap (λ (r : PageInfo). r.place) (page_other h.number.0 n) ∙ h.is_place }
      ]

  writable_now : (o i : ℕ) → (entry_at m.objects o i).writable ≡ true → IsPrivate m.frames.counts new.pages.pages (entry_at m.objects o i).page
  writable_now o i w =
      let h = x.sound.guarded.writable o i w in
      elim (same_or h.number.0 p) [
        | inl s ↦ elim (frame_or to) [
          | inl t ↦ record { number = h.number; frame = t.frame; is_page = h.is_page; is_place = place_of_p h.number.0 s ∙ t.is; alone = shares_kept h.number.0 ∙ h.alone; unlent = strong_lent (counts_at m.frames t.frame.0) (target t.frame t.is).unlent }
          | inr t ↦ let bad : true ≡ false = sym w ∙ x.unwritable t o i (ap (λ n. names n (entry_at m.objects o i)) (sym s) ∙ named h.number (entry_at m.objects o i) h.is_page) in cc
        ]
        | inr n ↦ record { number = h.number; frame = h.frame; is_page = h.is_page; is_place = ap (λ (r : PageInfo). r.place) (page_other h.number.0 n) ∙ h.is_place; alone = shares_kept h.number.0 ∙ h.alone; unlent = h.unlent }
      ]

  pub sound_relocated : IsSound new
  sound_relocated = record {
    shaped = record {
      size = x.sound.shaped.size;
      some = omega (arith, left_size m.frames.owners m.frames.counts p from to, x.sound.shaped.some);
      most = omega (arith, left_size m.frames.owners m.frames.counts p from to, x.sound.shaped.most);
      counted = x.sound.shaped.counted ∙ sym (left_size m.frames.owners m.frames.counts p from to);
      filled = x.sound.shaped.filled ∙ sym (left_size m.frames.owners m.frames.counts p from to);
      paged = x.sound.shaped.paged;
    };
    placed = placed;
    lent = λ h. agree h (frame_became h);
    held = record { alone = λ h q e k. alone h q e k (frame_became h); unlent = λ h e k. unlent h e k (frame_became h) };
    wired = x.sound.wired;
    slotted = slotted_after m.pages.pages m.slots p from to refl page_there x.apart (λ s e. claim_slot m to s x.claim e) (λ e. let bad : true ≡ false = subst (CanClaim m) e x.claim in cc) x.sound.slotted;
    shared = record {
      counted = λ q. shares_kept q ∙ x.sound.shared.counted q;
      spare = λ q e. ap (λ (r : PageInfo). r.place) (page_other q (λ w. absurd (omega (arith, x.there, e, shares_kept q, ap (λ n. (page_at m.pages.pages n).shares) w)))) ∙ x.sound.shared.spare q (sym (shares_kept q) ∙ e);
    };
    guarded = record { readable = readable_now; writable = writable_now };
  }

  -- what the pages show, where the bytes at the new place are those at the old one
  pub bytes_relocated : (slots now : ℕ → List ℕ) → place_bytes m.frames now to ≡ place_bytes m.frames slots from → ((q : ℕ) → q ≢ p → place_bytes m.frames now (page_at m.pages.pages q).place ≡ place_bytes m.frames slots (page_at m.pages.pages q).place) → (q : Option PageId) → page_bytes new.frames new.pages.pages now q ≡ page_bytes m.frames m.pages.pages slots q
  bytes_relocated slots now e h None = refl
  bytes_relocated slots now e h (Some q) = owners_unseen m.frames new.frames.owners now (page_at new.pages.pages q.0).place ∙ elim (same_or q.0 p) [
    | inl s ↦ ap (place_bytes m.frames now) (place_of_p q.0 s) ∙ e ∙ ap (λ n. place_bytes m.frames slots (page_at m.pages.pages n).place) (sym s)
    | inr n ↦ ap (λ (r : PageInfo). place_bytes m.frames now r.place) (page_other q.0 n) ∙ h q.0 n
  ]

  kept_became : ((g : FrameId) → to ≡ Frame g → owner_at m.frames g.0 ≡ Free) → (h : ℕ) → Became m.frames.owners m.frames.counts p from to h (owner_at new.frames h) → is_kept (owner_at new.frames h) (counts_at m.frames h) ≡ is_kept (owner_at m.frames h) (counts_at m.frames h)
  kept_became free h (Gained g t w v) =
      let none : (counts_at m.frames h).strong ≡ 0 = ap (λ n. (counts_at m.frames n).strong) w ∙ strong_lent (counts_at m.frames g.0) (target g t).unlent in
      ap (λ o. is_kept o (counts_at m.frames h)) v ∙ ap (nat_lt 0) none ∙ sym (ap (λ o. is_kept o (counts_at m.frames h)) (ap (owner_at m.frames) w ∙ free g t))
  kept_became free h (Lost f t w v) = ap (λ o. is_kept o (counts_at m.frames h)) v ∙ kept_left (counts_at m.frames h) p (source_unheld f h t w) ∙ sym (ap (λ o. is_kept o (counts_at m.frames h)) (ap (owner_at m.frames) w ∙ owned f t))
  kept_became free h (Stayed a b v) = ap (λ o. is_kept o (counts_at m.frames h)) v

  pub kept_relocated : ((g : FrameId) → to ≡ Frame g → owner_at m.frames g.0 ≡ Free) → (slots now : ℕ → List ℕ) (h : ℕ) → (seen new now).kept_bytes h ≡ (seen m slots).kept_bytes h
  kept_relocated free slots now h = λ k. if kept_became free h (frame_became h) k then bytes_at m.frames h else []

  pub seen_relocated : (slots now : ℕ → List ℕ) → ((g : FrameId) → to ≡ Frame g → owner_at m.frames g.0 ≡ Free) → place_bytes m.frames now to ≡ place_bytes m.frames slots from → ((q : ℕ) → q ≢ p → place_bytes m.frames now (page_at m.pages.pages q).place ≡ place_bytes m.frames slots (page_at m.pages.pages q).place) → seen new now ≡ seen m slots
  seen_relocated slots now free e h = λ k. record {
    entry_bytes = λ o i. bytes_relocated slots now e h (entry_at m.objects o i).page k;
    kept_bytes = λ f. if kept_became free f (frame_became f) k then bytes_at m.frames f else [];
  }

  keeps_frame : (q : Option PageId) (h : ℕ) → frame_of m.pages.pages q ≡ Some h → is_held (counts_at m.frames h) ≡ true → frame_of new.pages.pages q ≡ Some h
  keeps_frame None h e k = e
  keeps_frame (Some q) h e k = elim (same_or q.0 p) [
    | inl s ↦
        let y = frame_is from h (ap (λ n. frame_in (page_at m.pages.pages n).place) (sym s) ∙ e) in
        let bad : true ≡ false = sym k ∙ source_unheld y.frame h y.is y.number in cc
    | inr n ↦ ap (λ (r : PageInfo). frame_in r.place) (page_other q.0 n) ∙ e
  ]

  lasts : (h : ℕ) → is_lent (counts_at m.frames h) ≡ true → Became m.frames.owners m.frames.counts p from to h (owner_at new.frames h) → Lasts m.frames new.frames h
  lasts h l (Gained g t w v) = let bad : true ≡ false = sym l ∙ ap (λ n. is_lent (counts_at m.frames n)) w ∙ (target g t).unlent in cc
  lasts h l (Lost f t w v) = record { lent = l; bytes = refl; owner = inr (ap is_page (ap (owner_at m.frames) w ∙ owned f t), v ∙ ap (λ b. if b then Nobody else Free) l) }
  lasts h l (Stayed a b v) = record { lent = l; bytes = refl; owner = inl v }

  systems : ((g : FrameId) → to ≡ Frame g → owner_at m.frames g.0 ≡ Free) → (h : ℕ) → Became m.frames.owners m.frames.counts p from to h (owner_at new.frames h) → system_owner (owner_at new.frames h) ≡ system_owner (owner_at m.frames h)
  systems free h (Gained g t w v) = ap system_owner v ∙ sym (ap system_owner (ap (owner_at m.frames) w ∙ free g t))
  systems free h (Lost f t w v) = ap system_owner v ∙ unowned_system (counts_at m.frames h) ∙ sym (ap system_owner (ap (owner_at m.frames) w ∙ owned f t))
  systems free h (Stayed a b v) = ap system_owner v

  pub keeps_relocated : ((g : FrameId) → to ≡ Frame g → owner_at m.frames g.0 ≡ Free) → KeepsLoans m new
  keeps_relocated free = record {
    entry_held = λ o i h e k. keeps_frame (entry_at m.objects o i).page h e k;
    held = λ h k. k;
    lent = λ h l. lasts h l (frame_became h);
    loans = λ h. as_many (counts_at m.frames h) (counts_at m.frames h) refl;
    systems = λ h. systems free h (frame_became h);
    entries = λ o. refl;
    number = left_size m.frames.owners m.frames.counts p from to;
    page = refl;
    slots = slots_size m.slots from to;
    most = refl;
  }

  pub touches_relocated : (spoken : ℕ → ℕ → Bool) → ((q : ℕ) → IsOutside spoken m q → q ≢ p) → Touches spoken m new
  touches_relocated spoken inside = record {
    entries = λ o i e. record { page = refl; readable = λ h. h; writable = λ h. h };
    pages = λ q y. page_other q (inside q y);
    outside = λ q y. record { there = rw (shares_kept q) y.there; named = y.named };
    counts = λ q f y e. refl;
  }
