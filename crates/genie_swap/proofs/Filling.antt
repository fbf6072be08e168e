-- An empty entry is given a page.
use Rattle.std.proofs.Common.{◌≡◌, ◌≢◌, ℕ, ◌<◌, true, false, List, [], refl, arith, ap, sym, ◌∙◌, inl, inr, rules, length-set}
use Rattle.std.specs.Prelude.{Some, None, Option, ◌==◌, ◌&&◌, nat_lt, if◌then◌else◌}
use Rattle.std.proofs.lemmas.List.{get_or-set_same, get_or-set_other}
use Rattle.genie_base.specs.Lemmas.Places.{same_or, num, count_by-set}
use Rattle.genie_frame.specs.declared.frame.FrameId.{FrameId}
use Rattle.genie_frame.specs.declared.frame.Owner.{Owner}
use Rattle.genie_frame.specs.declared.frame.Owner.TheVariants.{Free, Page, Nobody}
use Rattle.genie_frame.specs.declared.frame.Counts.{Counts}
use Rattle.genie_frame.specs.FrameTable.{owner_at, counts_at, bytes_at, is_system, is_lent, is_held}
use Rattle.genie_object.specs.declared.objects.Entry.{Entry}
use Rattle.genie_object.specs.declared.pages.PageId.{PageId}
use Rattle.genie_object.specs.declared.pages.PageInfo.{PageInfo}
use Rattle.genie_object.specs.declared.pages.Place.TheVariants.{Zero, Frame}
use Rattle.genie_object.specs.declared.memory.Memory.{Memory}
use Rattle.genie_object.specs.Pages.{page_at, no_page, one_page}
use Rattle.genie_object.specs.Objects.{entry_at, names}
use Rattle.genie_object.specs.Memory.{seen, see_entry, see_kept, is_kept, page_bytes, place_bytes, entry_frame, frame_of, frame_in}
use Rattle.genie_object.specs.Sound.{IsSound, is_in_slot, times_named}
use Rattle.genie_object.specs.Touching.{Touches, Lasts, is_entry}
use Rattle.genie_swap.specs.Entries.{own_entry, filled, CanFill}
use Rattle.genie_object.specs.Lemmas.Naming.{named_set, same_entry, entry_here, entry_else, names_own, names_other, names_none, named_shared}

unlent_strong : (c : Counts) → is_lent c ≡ false → c.strong ≡ 0
unlent_strong c e = grind (arith, rules)

unlent_held : (c : Counts) → is_lent c ≡ false → is_held c ≡ false
unlent_held c e = grind (arith, rules)

both_tests : (a b o i : ℕ) → a ≡ o → b ≡ i → ((a == o) && (b == i)) ≡ true
both_tests a b o i e d = grind (arith, rules)

system_page : (q : ℕ) (o : Owner) → o ≡ Page q → is_system o ≡ true → ⊥
system_page q o e h = let bad : false ≡ true = sym (ap is_system e) ∙ h in cc

module _ (m : Memory) (o i f : ℕ) (p : PageId) (x : CanFill m o i f p) where
  abbrev new : Memory
  new = filled m o i f p

  abbrev frame : FrameId
  frame = record { 0 = f }

  page_here : page_at new.pages.pages p.0 ≡ one_page (Frame frame)
  page_here = get_or-set_same m.pages.pages p.0 _ no_page x.spare

  pub page_else : (q : ℕ) → q ≢ p.0 → page_at new.pages.pages q ≡ page_at m.pages.pages q
  page_else q n = get_or-set_other m.pages.pages p.0 q _ no_page n

  owner_here : owner_at new.frames f ≡ Page p.0
  owner_here = get_or-set_same m.frames.owners f _ Free x.frame

  owner_else : (g : ℕ) → g ≢ f → owner_at new.frames g ≡ owner_at m.frames g
  owner_else g n = get_or-set_other m.frames.owners f g _ Free n

  none_shares : (page_at m.pages.pages p.0).shares ≡ 0
  none_shares = ap (λ (q : PageInfo). q.shares) x.none

  -- no page was in the frame, and page p was in none
  unplaced : (q : ℕ) (g : FrameId) → (page_at m.pages.pages q).place ≡ Frame g → (g.0 ≢ f) × (q ≢ p.0)
  unplaced q g e = (
    λ s. system_page q (owner_at m.frames f) (ap (owner_at m.frames) (sym s) ∙ x.sound.placed.in_frame q g e) x.of_system,
    λ s. let bad : Zero ≡ Frame g = sym (ap (λ (y : PageInfo). y.place) x.none) ∙ ap (λ n. (page_at m.pages.pages n).place) (sym s) ∙ e in cc,
  )

  pub named_other : (a b : ℕ) (q : PageId) → (entry_at m.objects a b).page ≡ Some q → q.0 ≢ p.0
  named_other a b q e s = let some = named_shared m.pages.pages m.objects a b q x.sound.shared e in omega (arith, some, ap (λ n. (page_at m.pages.pages n).shares) s, none_shares)

  sound : IsSound new
  sound = record {
    shaped = record {
      size = x.sound.shaped.size;
      some = omega (arith, length-set m.frames.owners f (Page p.0), x.sound.shaped.some);
      most = omega (arith, length-set m.frames.owners f (Page p.0), x.sound.shaped.most);
      counted = x.sound.shaped.counted ∙ sym (length-set m.frames.owners f (Page p.0));
      filled = x.sound.shaped.filled ∙ sym (length-set m.frames.owners f (Page p.0));
      paged = x.sound.shaped.paged;
    };
    placed = record {
      in_frame = λ q g e. elim (same_or q p.0) [
        | inl s ↦
            let at : Frame frame ≡ Frame g = sym (ap (λ (y : PageInfo). y.place) page_here) ∙ ap (λ n. (page_at new.pages.pages n).place) (sym s) ∙ e in
            let is : g.0 ≡ f = cc in
            ap (owner_at new.frames) is ∙ owner_here ∙ ap Page (sym s)
        | inr n ↦
            let at : (page_at m.pages.pages q).place ≡ Frame g = sym (ap (λ (y : PageInfo). y.place) (page_else q n)) ∙ e in
            owner_else g.0 (unplaced q g at).0 ∙ x.sound.placed.in_frame q g at
      ];
      of_page = λ g q e. elim (same_or g.0 f) [
        | inl s ↦
            let at : Page p.0 ≡ Page q = sym owner_here ∙ ap (owner_at new.frames) (sym s) ∙ e in
            let is : q ≡ p.0 = cc in
            let same : frame ≡ g = λ k. record { 0 = sym s k } in
            ap (λ n. (page_at new.pages.pages n).place) is ∙ ap (λ (y : PageInfo). y.place) page_here ∙ ap Frame same
        | inr n ↦
            let at = x.sound.placed.of_page g q (sym (owner_else g.0 n) ∙ e) in
            ap (λ (y : PageInfo). y.place) (page_else q (unplaced q g at).1) ∙ at
      ];
    };
    lent = λ g. elim (same_or g f) [
      | inl s ↦ record {
        free = λ e. let bad : Page p.0 ≡ Free = sym owner_here ∙ ap (owner_at new.frames) (sym s) ∙ e in cc;
        nobody = λ e. let bad : Page p.0 ≡ Nobody = sym owner_here ∙ ap (owner_at new.frames) (sym s) ∙ e in cc;
      }
      | inr n ↦ record { free = λ e. (x.sound.lent g).free (sym (owner_else g n) ∙ e); nobody = λ e. (x.sound.lent g).nobody (sym (owner_else g n) ∙ e) }
    ];
    held = record {
      alone = λ g q e h. elim (same_or g f) [
        | inl s ↦ let bad : false ≡ true = sym (unlent_held (counts_at m.frames f) x.unlent) ∙ ap (λ n. is_held (counts_at m.frames n)) (sym s) ∙ h in cc
        | inr n ↦
            let was = sym (owner_else g n) ∙ e in
            let at = x.sound.placed.of_page (record { 0 = g }) q was in
            ap (λ (y : PageInfo). y.shares) (page_else q (unplaced q (record { 0 = g }) at).1) ∙ x.sound.held.alone g q was h
      ];
      unlent = λ g e h. elim (same_or g f) [
        | inl s ↦ let bad : false ≡ true = sym (unlent_held (counts_at m.frames f) x.unlent) ∙ ap (λ n. is_held (counts_at m.frames n)) (sym s) ∙ h in cc
        | inr n ↦ x.sound.held.unlent g (sym (ap is_system (owner_else g n)) ∙ e) h
      ];
    };
    wired = x.sound.wired;
    slotted = record {
      counted = λ s. let was = ap (λ y. num (is_in_slot s y)) x.none in omega (arith, count_by-set (is_in_slot s) m.pages.pages p.0 (one_page (Frame frame)) no_page x.spare, was) ∙ x.sound.slotted.counted s;
    };
    shared = record {
      counted = λ q. elim (same_or q p.0) [
        | inl s ↦
            let was = ap num (names_none (entry_at m.objects o i) p.0 x.empty) in
            let now = ap num (names_own p (own_entry p) refl) in
            let zero_named : times_named m.objects p.0 ≡ 0 = sym (x.sound.shared.counted p.0) ∙ none_shares in
            ap (λ n. (page_at new.pages.pages n).shares) s ∙ ap (λ (y : PageInfo). y.shares) page_here ∙ omega (arith, named_set m.objects o i p.0 (own_entry p) x.there, was, now, zero_named) ∙ ap (times_named new.objects) (sym s)
        | inr n ↦
            let was = ap num (names_none (entry_at m.objects o i) q x.empty) in
            let now = ap num (names_other p (own_entry p) q refl (λ e. n (sym e))) in
            ap (λ (y : PageInfo). y.shares) (page_else q n) ∙ x.sound.shared.counted q ∙ omega (arith, named_set m.objects o i q (own_entry p) x.there, was, now)
      ];
      spare = λ q z. elim (same_or q p.0) [
        | inl s ↦ let one : (page_at new.pages.pages q).shares ≡ 1 = ap (λ n. (page_at new.pages.pages n).shares) s ∙ ap (λ (y : PageInfo). y.shares) page_here in absurd (omega arith)
        | inr n ↦ ap (λ (y : PageInfo). y.place) (page_else q n) ∙ x.sound.shared.spare q (sym (ap (λ (y : PageInfo). y.shares) (page_else q n)) ∙ z)
      ];
    };
    guarded = record {
      readable = λ a b r. elim (same_entry a b o i) [
        | inl s ↦ record {
          number = p;
          frame = frame;
          is_page = (λ k. (entry_at new.objects (s.0 k) (s.1 k)).page) ∙ ap (λ (e : Entry). e.page) (entry_here m.objects o i (own_entry p) x.there);
          is_place = ap (λ (y : PageInfo). y.place) page_here;
        }
        | inr n ↦
            let same = entry_else m.objects o i a b (own_entry p) x.there n in
            let old = x.sound.guarded.readable a b (sym (ap (λ (e : Entry). e.readable) same) ∙ r) in
            record {
              number = old.number;
              frame = old.frame;
              is_page = ap (λ (e : Entry). e.page) same ∙ old.is_page;
              is_place = ap (λ (y : PageInfo). y.place) (page_else old.number.0 (unplaced old.number.0 old.frame old.is_place).1) ∙ old.is_place;
            }
      ];
      writable = λ a b r. elim (same_entry a b o i) [
        | inl s ↦ record {
          number = p;
          frame = frame;
          is_page = (λ k. (entry_at new.objects (s.0 k) (s.1 k)).page) ∙ ap (λ (e : Entry). e.page) (entry_here m.objects o i (own_entry p) x.there);
          is_place = ap (λ (y : PageInfo). y.place) page_here;
          alone = ap (λ (y : PageInfo). y.shares) page_here;
          unlent = unlent_strong (counts_at m.frames f) x.unlent;
        }
        | inr n ↦
            let same = entry_else m.objects o i a b (own_entry p) x.there n in
            let old = x.sound.guarded.writable a b (sym (ap (λ (e : Entry). e.writable) same) ∙ r) in
            let other = page_else old.number.0 (unplaced old.number.0 old.frame old.is_place).1 in
            record {
              number = old.number;
              frame = old.frame;
              is_page = ap (λ (e : Entry). e.page) same ∙ old.is_page;
              is_place = ap (λ (y : PageInfo). y.place) other ∙ old.is_place;
              alone = ap (λ (y : PageInfo). y.shares) other ∙ old.alone;
              unlent = old.unlent;
            }
      ];
    };
  }

  pub filled_sound : IsSound (filled m o i f p)
  filled_sound = sound

  other_bytes : (slots : ℕ → List ℕ) (q : Option PageId) → ((r : PageId) → q ≡ Some r → r.0 ≢ p.0) → page_bytes new.frames new.pages.pages slots q ≡ page_bytes m.frames m.pages.pages slots q
  other_bytes slots None n = refl
  other_bytes slots (Some r) n = ap (λ (y : PageInfo). place_bytes m.frames slots y.place) (page_else r.0 (n r refl))

  -- the bytes of each entry, and of each frame that is seen by itself
  entry_shown : (slots : ℕ → List ℕ) (a b : ℕ) → (seen new slots).entry_bytes a b ≡ (see_entry (seen m slots) o i (bytes_at m.frames f)).entry_bytes a b
  entry_shown slots a b =
      elim ((a == o) && (b == i)) as (λ v. ((a == o) && (b == i)) ≡ v → (seen new slots).entry_bytes a b ≡ (if v then bytes_at m.frames f else (seen m slots).entry_bytes a b)) [
        | true ↦ λ t.
            let s : (a ≡ o) × (b ≡ i) = grind (arith, rules) in
            let is : (entry_at new.objects a b).page ≡ Some p = (λ k. (entry_at new.objects (s.0 k) (s.1 k)).page) ∙ ap (λ (e : Entry). e.page) (entry_here m.objects o i (own_entry p) x.there) in
            ap (page_bytes new.frames new.pages.pages slots) is ∙ ap (place_bytes new.frames slots) (ap (λ (y : PageInfo). y.place) page_here)
        | false ↦ λ t.
            let n : ((a ≡ o) × (b ≡ i) → ⊥) = (λ s. let is : ((a == o) && (b == i)) ≡ true = both_tests a b o i s.0 s.1 in let bad : true ≡ false = sym is ∙ t in cc) in
            ap (λ (e : Entry). page_bytes new.frames new.pages.pages slots e.page) (entry_else m.objects o i a b (own_entry p) x.there n) ∙ other_bytes slots (entry_at m.objects a b).page (named_other a b)
      ] refl

  kept_shown : (slots : ℕ → List ℕ) (g : ℕ) → (seen new slots).kept_bytes g ≡ (see_kept (seen m slots) f []).kept_bytes g
  kept_shown slots g =
      elim (g == f) as (λ v. (g == f) ≡ v → (seen new slots).kept_bytes g ≡ (if v then [] else (seen m slots).kept_bytes g)) [
        | true ↦ λ t.
            let s : g ≡ f = grind (arith, rules) in
            let none : is_kept (owner_at new.frames g) (counts_at m.frames g) ≡ false = (λ k. is_kept (owner_at new.frames (s k)) (counts_at m.frames (s k))) ∙ ap (λ w. is_kept w (counts_at m.frames f)) owner_here ∙ ap (nat_lt 0) (unlent_strong (counts_at m.frames f) x.unlent) in
            ap (λ v. if v then bytes_at m.frames g else []) none
        | false ↦ λ t. let n : g ≢ f = grind (arith, rules) in ap (λ w. if is_kept w (counts_at m.frames g) then bytes_at m.frames g else []) (owner_else g n)
      ] refl

  pub filled_shows : (slots : ℕ → List ℕ) → seen (filled m o i f p) slots ≡ see_kept (see_entry (seen m slots) o i (bytes_at m.frames f)) f []
  filled_shows slots = λ k. record { entry_bytes = λ a b. entry_shown slots a b k; kept_bytes = λ g. kept_shown slots g k }

  pub filled_placed : entry_frame (filled m o i f p) o i ≡ Some f
  filled_placed = ap (λ (e : Entry). frame_of new.pages.pages e.page) (entry_here m.objects o i (own_entry p) x.there) ∙ ap (λ (y : PageInfo). frame_in y.place) page_here

  -- what the filled entry leaves as it was
  spoken_else : (a b : ℕ) → is_entry o i a b ≡ false → ((a ≡ o) × (b ≡ i) → ⊥)
  spoken_else a b e w = let bad : true ≡ false = sym (both_tests a b o i w.0 w.1) ∙ e in cc

  outside_key : (q : ℕ) → 0 < (page_at m.pages.pages q).shares → q ≢ p.0
  outside_key q h e = absurd (omega (arith, h, ap (λ n. (page_at m.pages.pages n).shares) e, none_shares))

  own_names : (q : ℕ) → names q (own_entry p) ≡ true → q ≡ p.0
  own_names q e = elim (same_or q p.0) [
    | inl w ↦ w
    | inr n ↦ let bad : false ≡ true = sym (names_other p (own_entry p) q refl (λ w. n (sym w))) ∙ e in cc
  ]

  pub filled_touches : Touches (is_entry o i) m (filled m o i f p)
  filled_touches = record {
    entries = λ a b e. let same = entry_else m.objects o i a b (own_entry p) x.there (spoken_else a b e) in record {
      page = ap (λ (y : Entry). y.page) same;
      readable = λ h. sym (ap (λ (y : Entry). y.readable) same) ∙ h;
      writable = λ h. sym (ap (λ (y : Entry). y.writable) same) ∙ h;
    };
    pages = λ q u. page_else q (outside_key q u.there);
    outside = λ q u. record {
      there = let same = ap (λ (y : PageInfo). y.shares) (page_else q (outside_key q u.there)) in omega (arith, u.there, same);
      named = λ a b e. elim (same_entry a b o i) [
        | inl w ↦
            let is : entry_at new.objects a b ≡ own_entry p = (λ k. entry_at new.objects (w.0 k) (w.1 k)) ∙ entry_here m.objects o i (own_entry p) x.there in
            absurd (outside_key q u.there (own_names q (sym (ap (names q) is) ∙ e)))
        | inr n ↦ u.named a b (sym (ap (names q) (entry_else m.objects o i a b (own_entry p) x.there n)) ∙ e)
      ];
    };
    counts = λ q g u e. refl;
  }

  pub filled_lasts : (g : ℕ) → is_lent (counts_at m.frames g) ≡ true → Lasts m.frames (filled m o i f p).frames g
  filled_lasts g l = record {
    lent = l;
    bytes = refl;
    owner = inl (owner_else g (λ e. let bad : false ≡ true = sym x.unlent ∙ ap (λ n. is_lent (counts_at m.frames n)) (sym e) ∙ l in cc));
  }
