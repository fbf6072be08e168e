-- A page that comes into a free frame with bytes of its own.
use Rattle.std.proofs.Common.{◌≡◌, ◌≢◌, ℕ, ◌<◌, ◌≤◌, ◌+◌, Bool, false, List, [], refl, arith, ap, length, set, get_or, sym, ◌∙◌, get_or-set_other, get_or-set_same, length-set}
use Rattle.std.specs.Prelude.{Option, Some, None, count_by}
use Rattle.genie_base.specs.Lemmas.Places.{num, count_by-set}
use Rattle.genie_frame.specs.declared.frame.Owner.{Owner}
use Rattle.genie_frame.specs.declared.frame.Owner.TheVariants.{Free, Page}
use Rattle.genie_frame.specs.declared.frame.Counts.{Counts}
use Rattle.genie_frame.specs.declared.frame.FrameId.{FrameId}
use Rattle.genie_frame.specs.FrameTable.{owner_at, counts_at, bytes_at, is_free, is_page, is_held, is_lent, no_counts}
use Rattle.genie_frame.specs.Frames.{unowned}
use Rattle.genie_object.specs.declared.pages.Place.{Place}
use Rattle.genie_object.specs.declared.pages.Place.TheVariants.{Zero, Frame, Slot}
use Rattle.genie_object.specs.declared.pages.PageInfo.{PageInfo}
use Rattle.genie_object.specs.declared.pages.PageId.{PageId}
use Rattle.genie_object.specs.declared.memory.Memory.{Memory}
use Rattle.genie_object.specs.Pages.{page_at, no_page, is_there}
use Rattle.genie_object.specs.Memory.{seen, page_bytes, place_bytes}
use Rattle.genie_object.specs.Sound.{IsSound, strong_at}
use Rattle.genie_object.specs.Steps.{filled, with_bytes, left_owners, CanGo}
use Rattle.genie_object.specs.Touching.{KeepsLoans, Touches, IsOutside}
use Rattle.genie_object.specs.Lemmas.Lookup.{page_known, frame_known, strong_lent}
use Rattle.genie_object.specs.Lemmas.Granted.{sound_with, seen_with_bytes, keeps_with, touches_with, page_with, kept_with}
use Rattle.genie_object.specs.Lemmas.Relocated.{sound_relocated, seen_relocated, keeps_relocated, touches_relocated, of_p, page_other, owners_unseen, kept_relocated}
use Rattle.genie_object.specs.Lemmas.Touching.{keeps_on, touches_on}

left_free : (owners : List Owner) (counts : List Counts) (from : Place) → ((f : FrameId) → from ≡ Frame f → f.0 < length owners) → ((f : FrameId) → from ≡ Frame f → is_free (get_or owners f.0 Free) ≡ false) → count_by is_free owners ≤ count_by is_free (left_owners owners counts from)
left_free owners counts Zero l n = omega arith
left_free owners counts (Slot s) l n = omega arith
left_free owners counts (Frame f) l n = omega (arith, count_by-set is_free owners f.0 (unowned (get_or counts f.0 no_counts)) Free (l f refl), ap num (n f refl))

module _ (m : Memory) (p : ℕ) (g : FrameId) (b : List ℕ) (sound : IsSound m) (some : 0 < (page_at m.pages.pages p).shares) (unheld : (f : FrameId) → (page_at m.pages.pages p).place ≡ Frame f → is_held (counts_at m.frames f.0) ≡ false) (there : g.0 < length m.frames.owners) (free : owner_at m.frames g.0 ≡ Free) (full : length b ≡ m.frames.page) where
  abbrev mid : Memory
  mid = with_bytes m g.0 b

  abbrev new : Memory
  new = filled m p g b

  unlent : is_lent (counts_at m.frames g.0) ≡ false
  unlent = (sound.lent g.0).free free

  can_go : CanGo mid p (Frame g)
  can_go = record {
    sound = sound_with m g.0 b sound full free;
    there = some;
    unheld = unheld;
    apart = λ s e. refl;
    claim = record { there = there; unpaged = ap is_page free; unlent = unlent };
    unreadable = λ e o i n. cc;
    unwritable = λ e o i n. cc;
  }

  free_target : (h : FrameId) → Frame g ≡ Frame h → owner_at m.frames h.0 ≡ Free
  free_target h e = let same : h.0 ≡ g.0 = cc in ap (owner_at m.frames) same ∙ free

  pub sound_filled : IsSound new
  sound_filled = sound_relocated mid p (Frame g) can_go

  pub keeps_filled : KeepsLoans m new
  keeps_filled = keeps_on m mid new (keeps_with m g.0 b sound full free) (keeps_relocated mid p (Frame g) can_go free_target)

  pub touches_filled : (spoken : ℕ → ℕ → Bool) → ((q : ℕ) → IsOutside spoken m q → q ≢ p) → Touches spoken m new
  touches_filled spoken inside = touches_on spoken m mid new (touches_with m g.0 b sound full free spoken) (touches_relocated mid p (Frame g) can_go spoken (λ q y. inside q (record { there = y.there; named = y.named })))

  has_bytes : bytes_at mid.frames g.0 ≡ b
  has_bytes = get_or-set_same m.frames.bytes g.0 b [] (omega (arith, sound.shaped.filled, there))

  place_mid : (slots : ℕ → List ℕ) → place_bytes mid.frames slots (page_at m.pages.pages p).place ≡ place_bytes m.frames slots (page_at m.pages.pages p).place
  place_mid slots = page_with m g.0 b sound full free slots (Some (record { 0 = p }))

  pub seen_filled : (slots : ℕ → List ℕ) → b ≡ place_bytes m.frames slots (page_at m.pages.pages p).place → seen new slots ≡ seen m slots
  seen_filled slots e = seen_relocated mid p (Frame g) can_go slots slots free_target (has_bytes ∙ e ∙ sym (place_mid slots)) (λ q n. refl) ∙ seen_with_bytes m g.0 b sound full free slots

  pub of_page : page_at new.pages.pages p ≡ record (page_at m.pages.pages p) { place = Frame g }
  of_page = of_p mid p (Frame g) can_go

  pub of_other : (q : ℕ) → q ≢ p → page_at new.pages.pages q ≡ page_at m.pages.pages q
  of_other = page_other mid p (Frame g) can_go

  pub strong_filled : strong_at m.frames.counts g.0 ≡ 0
  strong_filled = strong_lent (counts_at m.frames g.0) unlent

  pub count_filled : count_by is_there new.pages.pages ≡ count_by is_there m.pages.pages
  count_filled = omega (arith, count_by-set is_there m.pages.pages p (record (page_at m.pages.pages p) { place = Frame g }) no_page (page_known m p some))

  pub free_filled : count_by is_free m.frames.owners ≤ count_by is_free new.frames.owners + 1
  free_filled =
      let claims = set m.frames.owners g.0 (Page p) in
      let taken = count_by-set is_free m.frames.owners g.0 (Page p) Free there in
      let was = ap (λ o. num (is_free o)) free in
      let leaving = left_free claims m.frames.counts (page_at m.pages.pages p).place (λ f e. omega (arith, frame_known m p f sound e, length-set m.frames.owners g.0 (Page p))) (λ f e. ap is_free (get_or-set_other m.frames.owners g.0 f.0 (Page p) Free (λ w. let bad : Page p ≡ Free = sym (sound.placed.in_frame p f e) ∙ ap (owner_at m.frames) w ∙ free in cc) ∙ sound.placed.in_frame p f e)) in
      omega (arith, taken, was, leaving)

  -- what each page shows: page p the new bytes, each other page its own
  pub bytes_here : (slots : ℕ → List ℕ) → page_bytes new.frames new.pages.pages slots (Some (record { 0 = p })) ≡ b
  bytes_here slots = ap (λ (q : PageInfo). place_bytes new.frames slots q.place) of_page ∙ has_bytes

  pub bytes_other : (slots : ℕ → List ℕ) (r : Option PageId) → ((q : PageId) → r ≡ Some q → q.0 ≢ p) → page_bytes new.frames new.pages.pages slots r ≡ page_bytes m.frames m.pages.pages slots r
  bytes_other slots None n = refl
  bytes_other slots (Some r) n = owners_unseen mid.frames new.frames.owners slots (page_at new.pages.pages r.0).place ∙ ap (λ (q : PageInfo). place_bytes mid.frames slots q.place) (of_other r.0 (n r refl)) ∙ page_with m g.0 b sound full free slots (Some r)

  pub kept_filled : (slots : ℕ → List ℕ) (h : ℕ) → (seen new slots).kept_bytes h ≡ (seen m slots).kept_bytes h
  kept_filled slots h = kept_relocated mid p (Frame g) can_go free_target slots slots h ∙ kept_with m g.0 b sound full free slots h
