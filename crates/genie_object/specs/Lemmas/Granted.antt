-- An entry that gets permissions, and a free frame that gets bytes.
use Rattle.std.proofs.Common.{◌≡◌, ◌≢◌, ℕ, ◌<◌, Bool, true, false, List, [], refl, arith, ap, length, sym, ◌∙◌, inl, inr, subst, get_or-set_other, length-set}
use Rattle.std.specs.Prelude.{◌==◌, Option, Some, None}
use Rattle.std.proofs.lemmas.List.Elements.{All-set}
use Rattle.genie_base.specs.Lemmas.Places.{same_or}
use Rattle.genie_frame.specs.declared.frame.Owner.TheVariants.{Free, Page}
use Rattle.genie_frame.specs.FrameTable.{owner_at, counts_at, bytes_at, is_lent}
use Rattle.genie_object.specs.declared.pages.Place.{Place}
use Rattle.genie_object.specs.declared.pages.Place.TheVariants.{Zero, Frame, Slot}
use Rattle.genie_object.specs.declared.pages.PageId.{PageId}
use Rattle.genie_object.specs.declared.objects.Entry.{Entry}
use Rattle.genie_object.specs.declared.memory.Memory.{Memory}
use Rattle.genie_object.specs.Pages.{page_at}
use Rattle.genie_object.specs.Objects.{entry_at, object_at}
use Rattle.genie_object.specs.Memory.{seen, page_bytes, place_bytes, frame_of}
use Rattle.genie_object.specs.Sound.{IsSound, IsFramed, IsPrivate}
use Rattle.genie_object.specs.Steps.{granted, with_bytes}
use Rattle.genie_object.specs.Touching.{KeepsLoans, Touches}
use Rattle.genie_object.specs.Lemmas.Touching.{as_many}
use Rattle.genie_object.specs.Lemmas.Entries.{entry_same, entry_or, times_set, entries_size}

module _ (m : Memory) (o i : ℕ) (writable : Bool) (there : i < length (object_at m.objects o)) where
  abbrev new : Memory
  new = granted m o i writable

  abbrev entry : Entry
  entry = record (entry_at m.objects o i) { readable = true; writable = writable }

  at_here : (a b : ℕ) → a ≡ o → b ≡ i → entry_at new.objects a b ≡ entry
  at_here a b s t = ap (λ n. entry_at new.objects n b) s ∙ ap (entry_at new.objects o) t ∙ entry_same m.objects o i entry there

  was_here : (a b : ℕ) → a ≡ o → b ≡ i → entry_at m.objects a b ≡ entry_at m.objects o i
  was_here a b s t = ap (λ n. entry_at m.objects n b) s ∙ ap (entry_at m.objects o) t

  pub page_granted : (a b : ℕ) → (entry_at new.objects a b).page ≡ (entry_at m.objects a b).page
  page_granted a b = elim (entry_or m.objects o i entry there a b) [
    | inl s ↦ ap (λ (e : Entry). e.page) (at_here a b s.0 s.1) ∙ ap (λ (e : Entry). e.page) (sym (was_here a b s.0 s.1))
    | inr n ↦ ap (λ (e : Entry). e.page) n.1
  ]

  pub sound_granted : IsSound m → IsFramed m.pages.pages (entry_at m.objects o i).page → (writable ≡ true → IsPrivate m.frames.counts m.pages.pages (entry_at m.objects o i).page) → IsSound new
  sound_granted x r w = record {
    shaped = x.shaped;
    placed = x.placed;
    lent = x.lent;
    held = x.held;
    wired = x.wired;
    slotted = x.slotted;
    shared = record { counted = λ p. x.shared.counted p ∙ (let e = times_set m.objects o i entry there p in omega (arith, e)); spare = x.shared.spare };
    guarded = record {
      readable = λ a b h. elim (entry_or m.objects o i entry there a b) [
        | inl s ↦ subst (λ (e : Entry). IsFramed m.pages.pages e.page) (sym (at_here a b s.0 s.1)) r
        | inr n ↦ subst (λ (e : Entry). IsFramed m.pages.pages e.page) (sym n.1) (x.guarded.readable a b (ap (λ (e : Entry). e.readable) (sym n.1) ∙ h))
      ];
      writable = λ a b h. elim (entry_or m.objects o i entry there a b) [
        | inl s ↦ subst (λ (e : Entry). IsPrivate m.frames.counts m.pages.pages e.page) (sym (at_here a b s.0 s.1)) (w (ap (λ (e : Entry). e.writable) (sym (at_here a b s.0 s.1)) ∙ h))
        | inr n ↦ subst (λ (e : Entry). IsPrivate m.frames.counts m.pages.pages e.page) (sym n.1) (x.guarded.writable a b (ap (λ (e : Entry). e.writable) (sym n.1) ∙ h))
      ];
    };
  }

  pub seen_granted : (slots : ℕ → List ℕ) → seen new slots ≡ seen m slots
  seen_granted slots = λ k. record { entry_bytes = λ a b. page_bytes m.frames m.pages.pages slots (page_granted a b k); kept_bytes = (seen m slots).kept_bytes }

  pub keeps_granted : KeepsLoans m new
  keeps_granted = record {
    entry_held = λ a b h e k. ap (frame_of m.pages.pages) (page_granted a b) ∙ e;
    held = λ h k. k;
    lent = λ h l. record { lent = l; bytes = refl; owner = inl refl };
    loans = λ h. as_many (counts_at m.frames h) (counts_at m.frames h) refl;
    systems = λ h. refl;
    entries = entries_size m.objects o i entry there;
    number = refl;
    page = refl;
    slots = refl;
    most = refl;
  }

  pub touches_granted : (spoken : ℕ → ℕ → Bool) → spoken o i ≡ true → Touches spoken m new
  touches_granted spoken h = record {
    entries = λ a b e. elim (entry_or m.objects o i entry there a b) [
      | inl s ↦ let bad : true ≡ false = sym (ap (λ n. spoken n b) s.0 ∙ ap (spoken o) s.1 ∙ h) ∙ e in cc
      | inr n ↦ record { page = ap (λ (t : Entry). t.page) n.1; readable = λ w. ap (λ (t : Entry). t.readable) (sym n.1) ∙ w; writable = λ w. ap (λ (t : Entry). t.writable) (sym n.1) ∙ w }
    ];
    pages = λ r y. refl;
    outside = λ r y. record { there = y.there; named = λ a b e. y.named a b (ap (λ page. elim page [ None ↦ false | Some q ↦ q.0 == r ]) (sym (page_granted a b)) ∙ e) };
    counts = λ r f y e. refl;
  }

module _ (m : Memory) (g : ℕ) (bytes : List ℕ) (sound : IsSound m) (full : length bytes ≡ m.frames.page) (free : owner_at m.frames g ≡ Free) where
  abbrev filled_free : Memory
  filled_free = with_bytes m g bytes

  pub sound_with : IsSound filled_free
  sound_with = record {
    shaped = record {
      size = sound.shaped.size;
      some = sound.shaped.some;
      most = sound.shaped.most;
      counted = sound.shaped.counted;
      filled = length-set m.frames.bytes g bytes ∙ sound.shaped.filled;
      paged = All-set (λ b. length b ≡ m.frames.page) m.frames.bytes g bytes full sound.shaped.paged;
    };
    placed = sound.placed;
    lent = sound.lent;
    held = sound.held;
    wired = sound.wired;
    slotted = sound.slotted;
    shared = sound.shared;
    guarded = sound.guarded;
  }

  unlent : is_lent (counts_at m.frames g) ≡ false
  unlent = (sound.lent g).free free

  bytes_other : (h : ℕ) → h ≢ g → bytes_at filled_free.frames h ≡ bytes_at m.frames h
  bytes_other h n = get_or-set_other m.frames.bytes g h bytes [] n

  -- a page is in another frame
  place_with : (slots : ℕ → List ℕ) (r : ℕ) (place : Place) → (page_at m.pages.pages r).place ≡ place → place_bytes filled_free.frames slots place ≡ place_bytes m.frames slots place
  place_with slots r Zero e = refl
  place_with slots r (Slot s) e = refl
  place_with slots r (Frame h) e = bytes_other h.0 (λ s. let bad : Page r ≡ Free = sym (sound.placed.in_frame r h e) ∙ ap (owner_at m.frames) s ∙ free in cc)

  pub page_with : (slots : ℕ → List ℕ) (r : Option PageId) → page_bytes filled_free.frames m.pages.pages slots r ≡ page_bytes m.frames m.pages.pages slots r
  page_with slots None = refl
  page_with slots (Some r) = place_with slots r.0 (page_at m.pages.pages r.0).place refl

  pub kept_with : (slots : ℕ → List ℕ) (h : ℕ) → (seen filled_free slots).kept_bytes h ≡ (seen m slots).kept_bytes h
  kept_with slots h = elim (same_or h g) [
    | inl s ↦ rw (s, free) refl
    | inr n ↦ rw (bytes_other h n) refl
  ]

  pub seen_with_bytes : (slots : ℕ → List ℕ) → seen filled_free slots ≡ seen m slots
  seen_with_bytes slots = λ k. record { entry_bytes = λ a b. page_with slots (entry_at m.objects a b).page k; kept_bytes = λ h. kept_with slots h k }

  pub keeps_with : KeepsLoans m filled_free
  keeps_with = record {
    entry_held = λ a b h e k. e;
    held = λ h k. k;
    lent = λ h l. record { lent = l; bytes = bytes_other h (λ s. let bad : true ≡ false = sym l ∙ ap (λ n. is_lent (counts_at m.frames n)) s ∙ unlent in cc); owner = inl refl };
    loans = λ h. as_many (counts_at m.frames h) (counts_at m.frames h) refl;
    systems = λ h. refl;
    entries = λ o. refl;
    number = refl;
    page = refl;
    slots = refl;
    most = refl;
  }

  pub touches_with : (spoken : ℕ → ℕ → Bool) → Touches spoken m filled_free
  touches_with spoken = record {
    entries = λ a b e. record { page = refl; readable = λ w. w; writable = λ w. w };
    pages = λ r y. refl;
    outside = λ r y. record { there = y.there; named = y.named };
    counts = λ r f y e. refl;
  }
