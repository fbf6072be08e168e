-- A page that goes from its frame to a slot.
use Rattle.std.proofs.Common.{◌≡◌, ◌≢◌, ℕ, ◌<◌, suc, zero, Bool, true, false, not, List, [], ◌∷◌, refl, arith, ap, length, map, set, get_or, sym, ◌∙◌, subst, inl, inr, eq-eqb}
use Rattle.std.specs.Prelude.{◌==◌, Option, Some, None, count_by, sum_by, if◌then◌else◌}
use Rattle.std.specs.Option.{option_map}
use Rattle.std.proofs.Math.ListN.{get_or-map}
use Rattle.std.proofs.lemmas.List.{length-map, set-set, set-get_or}
use Rattle.std.proofs.lemmas.List.Sums.{sum_by-cons}
use Rattle.std.proofs.lemmas.Bool.Decides.{eqb_tells}
use Rattle.std.proofs.lemmas.Bool.{cases_lt}
use Rattle.genie_base.specs.Lemmas.Places.{num, count_by-set, same_or}
use Rattle.genie_frame.specs.declared.frame.Owner.TheVariants.{Free, Page}
use Rattle.genie_frame.specs.declared.frame.FrameId.{FrameId}
use Rattle.genie_frame.specs.declared.frame.Meters.{Meters}
use Rattle.genie_frame.specs.FrameTable.{FrameTable, owner_at, counts_at, bytes_at, is_held}
use Rattle.genie_frame.specs.Frames.{more_puts}
use Rattle.genie_store.specs.StoreView.{StoreView, set_slot}
use Rattle.genie_store.specs.Slots.{slot_at}
use Rattle.genie_object.specs.declared.pages.Place.{Place}
use Rattle.genie_object.specs.declared.pages.Place.TheVariants.{Zero, Frame, Slot}
use Rattle.genie_object.specs.declared.pages.PageInfo.{PageInfo}
use Rattle.genie_object.specs.declared.objects.Entry.{Entry}
use Rattle.genie_object.specs.declared.memory.Memory.{Memory}
use Rattle.genie_object.specs.Pages.{page_at, no_page, is_there}
use Rattle.genie_object.specs.Objects.{entry_at, object_at, names, no_entry, revoked}
use Rattle.genie_object.specs.Memory.{seen, page_bytes, place_bytes, frame_of}
use Rattle.genie_object.specs.Sound.{IsSound, IsFramed, IsPrivate, times_named}
use Rattle.genie_object.specs.Steps.{metered, relocated, closed, CanGo, left_owners, left_slots}
use Rattle.genie_object.specs.Touching.{KeepsLoans, Touches, Narrows, IsOutside}
use Rattle.genie_object.specs.Lemmas.Lookup.{in_range, slot_taken, page_known}
use Rattle.genie_object.specs.Lemmas.Relocated.{sound_relocated, seen_relocated, keeps_relocated, touches_relocated, page_other, shares_kept, of_p}
use Rattle.genie_object.specs.Lemmas.Costing.{IsNoDearer, costs_same, dear_in_slot, dear_same}
use Rattle.genie_object.specs.Lemmas.Touching.{as_many, keeps_on, touches_on, sound_metered, keeps_metered, touches_metered}
use Rattle.genie_pageout.specs.Evicting.{IsPut, IsGone}

pub slot_undone : (slots : List Bool) (s : ℕ) → slot_at slots s ≡ false → set (set slots s true) s false ≡ slots
slot_undone slots s e = set-set slots s true false ∙ ap (set slots s) (sym e) ∙ set-get_or slots s false

pub put_metered : (old new : FrameTable) → new ≡ more_puts old → new ≡ record old { meters = new.meters }
put_metered old new e = e ∙ (λ k. record old { meters = sym (ap (λ (t : FrameTable). t.meters) e) k })

-- an entry that is revoked keeps its page
revoked_narrows : (p : ℕ) (e : Entry) → Narrows e (revoked p e)
revoked_narrows p e = elim (names p e) as (λ b. Narrows e (if b then record e { readable = false; writable = false } else e)) [
  | true ↦ record { page = refl; readable = λ h. cc; writable = λ h. cc }
  | false ↦ record { page = refl; readable = λ h. h; writable = λ h. h }
]

-- what it still permits it permitted, and it doesn't name the page
revoked_readable : (p : ℕ) (e : Entry) → (revoked p e).readable ≡ true → (names p e ≡ false) × (e.readable ≡ true)
revoked_readable p e = elim (names p e) as (λ b. (if b then record e { readable = false; writable = false } else e).readable ≡ true → (b ≡ false) × (e.readable ≡ true)) [ true ↦ λ h. cc | false ↦ λ h. (refl, h) ]

revoked_writable : (p : ℕ) (e : Entry) → (revoked p e).writable ≡ true → (names p e ≡ false) × (e.writable ≡ true)
revoked_writable p e = elim (names p e) as (λ b. (if b then record e { readable = false; writable = false } else e).writable ≡ true → (b ≡ false) × (e.writable ≡ true)) [ true ↦ λ h. cc | false ↦ λ h. (refl, h) ]

pub entry_closed : (m : Memory) (p o i : ℕ) → entry_at (closed m p).objects o i ≡ revoked p (entry_at m.objects o i)
entry_closed m p o i = ap (λ es. get_or es i no_entry) (get_or-map (map (revoked p)) m.objects o []) ∙ get_or-map (revoked p) (object_at m.objects o) i no_entry

same_names : (q : ℕ) (a b : Entry) → a.page ≡ b.page → names q a ≡ names q b
same_names q a b e = ap (λ page. elim page as (λ _. Bool) [ None ↦ false | Some r ↦ r.0 == q ]) e

sum_map : {X : Type 0} (f : X → X) (g : X → ℕ) (xs : List X) → ((x : X) → g (f x) ≡ g x) → sum_by g (map f xs) ≡ sum_by g xs
sum_map f g [] h = refl
sum_map f g (x ∷ xs) h = omega (arith, sum_by-cons g (f x) (map f xs), sum_by-cons g x xs, h x, sum_map f g xs h)

times_revoked : (p q : ℕ) (objects : List (List Entry)) → times_named (map (map (revoked p)) objects) q ≡ times_named objects q
times_revoked p q objects = sum_map (map (revoked p)) (count_by (names q)) objects (λ es. sum_map (revoked p) (λ x. num (names q x)) es (λ e. ap num (same_names q (revoked p e) e (revoked_narrows p e).page)))

module _ (m : Memory) (p : ℕ) (sound : IsSound m) where
  abbrev mid : Memory
  mid = closed m p

  pub page_closed : (o i : ℕ) → (entry_at mid.objects o i).page ≡ (entry_at m.objects o i).page
  page_closed o i = ap (λ (e : Entry). e.page) (entry_closed m p o i) ∙ (revoked_narrows p (entry_at m.objects o i)).page

  pub names_closed : (q o i : ℕ) → names q (entry_at mid.objects o i) ≡ names q (entry_at m.objects o i)
  names_closed q o i = same_names q (entry_at mid.objects o i) (entry_at m.objects o i) (page_closed o i)

  pub sound_closed : IsSound mid
  sound_closed = record {
    shaped = sound.shaped;
    placed = sound.placed;
    lent = sound.lent;
    held = sound.held;
    wired = sound.wired;
    slotted = sound.slotted;
    shared = record { counted = λ q. sound.shared.counted q ∙ sym (times_revoked p q m.objects); spare = sound.shared.spare };
    guarded = record {
      readable = λ o i w. subst (IsFramed m.pages.pages) (sym (page_closed o i)) (sound.guarded.readable o i (revoked_readable p (entry_at m.objects o i) (ap (λ (e : Entry). e.readable) (sym (entry_closed m p o i)) ∙ w)).1);
      writable = λ o i w. subst (IsPrivate m.frames.counts m.pages.pages) (sym (page_closed o i)) (sound.guarded.writable o i (revoked_writable p (entry_at m.objects o i) (ap (λ (e : Entry). e.writable) (sym (entry_closed m p o i)) ∙ w)).1);
    };
  }

  seen_closed : (slots : ℕ → List ℕ) → seen mid slots ≡ seen m slots
  seen_closed slots = λ k. record { entry_bytes = λ o i. page_bytes m.frames m.pages.pages slots (page_closed o i k); kept_bytes = (seen m slots).kept_bytes }

  row_length : (o : ℕ) → length (object_at mid.objects o) ≡ length (object_at m.objects o)
  row_length o = ap length (get_or-map (map (revoked p)) m.objects o []) ∙ simp length-map

  keeps_closed : KeepsLoans m mid
  keeps_closed = record {
    entry_held = λ o i f e h. ap (frame_of m.pages.pages) (page_closed o i) ∙ e;
    held = λ f h. h;
    lent = λ f l. record { lent = l; bytes = refl; owner = inl refl };
    loans = λ f. as_many (counts_at m.frames f) (counts_at m.frames f) refl;
    systems = λ f. refl;
    entries = row_length;
    number = refl;
    page = refl;
    slots = refl;
    most = refl;
  }

  narrows_closed : (o i : ℕ) → Narrows (entry_at m.objects o i) (entry_at mid.objects o i)
  narrows_closed o i = subst (Narrows (entry_at m.objects o i)) (sym (entry_closed m p o i)) (revoked_narrows p (entry_at m.objects o i))

  touches_closed : (spoken : ℕ → ℕ → Bool) → Touches spoken m mid
  touches_closed spoken = record {
    entries = λ o i e. narrows_closed o i;
    pages = λ q y. refl;
    outside = λ q y. record { there = y.there; named = λ o i e. y.named o i (sym (names_closed q o i) ∙ e) };
    counts = λ q f y e. refl;
  }

-- an entry that names the page
pub record IsNamed (objects : List (List Entry)) (p : ℕ) : Type 0 where
  pub object : ℕ
  pub index : ℕ
  pub named : names p (entry_at objects object index) ≡ true

record Passes {X : Type 0} (q : X → Bool) (d : X) (xs : List X) : Type 0 where
  at : ℕ
  passes : q (get_or xs at d) ≡ true

count_found : {X : Type 0} (q : X → Bool) (d : X) (xs : List X) → 0 < count_by q xs → Passes q d xs
count_found q d [] l = absurd (omega arith)
count_found q d (x ∷ xs) l = elim (q x) as (λ b. q x ≡ b → Passes q d (x ∷ xs)) [
  | true ↦ λ e. record { at = 0; passes = e }
  | false ↦ λ e. let rest : 0 < count_by q xs = omega (arith, l, sum_by-cons (λ y. num (q y)) x xs, ap num e) in let z = count_found q d xs rest in record { at = suc z.at; passes = z.passes }
] refl

pub named_some : (objects : List (List Entry)) (p : ℕ) → 0 < times_named objects p → IsNamed objects p
named_some [] p l = absurd (omega arith)
named_some (row ∷ objects) p l = elim (cases_lt 0 (count_by (names p) row)) [
  | inl h ↦ let z = count_found (names p) no_entry row h in record { object = 0; index = z.at; named = z.passes }
  | inr h ↦ let rest : 0 < times_named objects p = omega (arith, l, h, sum_by-cons (count_by (names p)) row objects) in let z = named_some objects p rest in record { object = suc z.object; index = z.index; named = z.named }
]

module _ (m : Memory) (p s : ℕ) (f : FrameId) (sound : IsSound m) (owned : owner_at m.frames f.0 ≡ Page p) (unheld : is_held (counts_at m.frames f.0) ≡ false) (there : s < length m.slots) (untaken : slot_at m.slots s ≡ false) where
  abbrev base : Memory
  base = closed m p

  abbrev new : Memory
  new = relocated base p (Slot s)

  placed_f : (page_at m.pages.pages p).place ≡ Frame f
  placed_f = sound.placed.of_page f p owned

  -- a page in a frame is shared by some entry
  some : 0 < (page_at m.pages.pages p).shares
  some = shares_some (page_at m.pages.pages p).shares refl where
    shares_some : (n : ℕ) → (page_at m.pages.pages p).shares ≡ n → 0 < n
    shares_some zero e = let bad : Zero ≡ Frame f = sym (sound.shared.spare p e) ∙ placed_f in cc
    shares_some (suc n) e = omega arith

  same_frame : (h : FrameId) → (page_at m.pages.pages p).place ≡ Frame h → h.0 ≡ f.0
  same_frame h e = let w : Frame h ≡ Frame f = sym e ∙ placed_f in cc

  can_go : CanGo base p (Slot s)
  can_go = record {
    sound = sound_closed m p sound;
    there = some;
    unheld = λ h e. ap (λ n. is_held (counts_at m.frames n)) (same_frame h e) ∙ unheld;
    apart = λ r e. let bad : Slot r ≡ Frame f = sym e ∙ placed_f in cc;
    claim = record { there = there; free = untaken };
    unreadable = λ e o i n. not_true _ (λ w. let z = revoked_readable p (entry_at m.objects o i) (ap (λ (e : Entry). e.readable) (sym (entry_closed m p o i)) ∙ w) in sym n ∙ names_closed m p sound p o i ∙ z.0);
    unwritable = λ e o i n. not_true _ (λ w. let z = revoked_writable p (entry_at m.objects o i) (ap (λ (e : Entry). e.writable) (sym (entry_closed m p o i)) ∙ w) in sym n ∙ names_closed m p sound p o i ∙ z.0);
  } where
    not_true : (b : Bool) → (b ≡ true → true ≡ false) → b ≡ false
    not_true true h = h refl
    not_true false h = refl

  no_target : (g : FrameId) → Slot s ≡ Frame g → owner_at m.frames g.0 ≡ Free
  no_target g e = cc

  -- the slots with the page's bytes in its slot
  abbrev stored : (ℕ → List ℕ) → ℕ → List ℕ
  stored slots = set_slot slots s (bytes_at m.frames f.0)

  here_bytes : (slots : ℕ → List ℕ) → place_bytes m.frames (stored slots) (Slot s) ≡ place_bytes m.frames slots (page_at m.pages.pages p).place
  here_bytes slots = ap (λ b. if b then bytes_at m.frames f.0 else slots s) (eq-eqb s s refl) ∙ sym (ap (place_bytes m.frames slots) placed_f)

  there_bytes : (slots : ℕ → List ℕ) (q : ℕ) (place : Place) → (page_at m.pages.pages q).place ≡ place → place_bytes m.frames (stored slots) place ≡ place_bytes m.frames slots place
  there_bytes slots q Zero e = refl
  there_bytes slots q (Frame h) e = refl
  there_bytes slots q (Slot r) e = elim (eqb_tells r s) [
    | inl w ↦
        let known : q < length m.pages.pages = in_range m.pages.pages q no_page (λ n. let h : Slot r ≡ Zero = sym e ∙ ap (λ (q : PageInfo). q.place) n in cc) in
        let bad : true ≡ false = sym (slot_taken m.pages.pages m.slots q r e known sound.slotted) ∙ ap (slot_at m.slots) w.1 ∙ untaken in cc
    | inr n ↦ ap (λ b. if b then bytes_at m.frames f.0 else slots r) n.0
  ]

  seen_new : (slots : ℕ → List ℕ) → seen new (stored slots) ≡ seen m slots
  seen_new slots = seen_relocated base p (Slot s) can_go slots (stored slots) no_target (here_bytes slots) (λ q n. there_bytes slots q (page_at m.pages.pages q).place refl) ∙ seen_closed m p sound slots

  seen_option : (t : Meters) (o : Option (ℕ → List ℕ)) → option_map (seen (metered new t)) (option_map (λ slots. stored slots) o) ≡ option_map (seen m) o
  seen_option t None = refl
  seen_option t (Some slots) = ap Some (seen_new slots)

  -- some entry names the page
  outside_p : (q : ℕ) → IsOutside (λ o i. names p (entry_at m.objects o i)) base q → q ≢ p
  outside_p q y e =
      let times : 0 < times_named m.objects p = omega (arith, some, sound.shared.counted p) in
      let z = named_some m.objects p times in
      let is : names q (entry_at base.objects z.object z.index) ≡ true = names_closed m p sound q z.object z.index ∙ ap (λ n. names n (entry_at m.objects z.object z.index)) e ∙ z.named in
      let bad : true ≡ false = sym z.named ∙ y.named z.object z.index is in cc

  pub gone_now : (v w : StoreView) (t : Meters) → w.slots ≡ option_map (λ slots. stored slots) v.slots → IsGone m (metered new t) v w p f.0
  gone_now v w t e =
      let spoken : ℕ → ℕ → Bool = λ o i. names p (entry_at m.objects o i) in
      record {
        sound = sound_metered new t (sound_relocated base p (Slot s) can_go);
        seen = ap (option_map (seen (metered new t))) e ∙ seen_option t v.slots;
        keeps = keeps_metered m new t (keeps_on m base new (keeps_closed m p sound) (keeps_relocated base p (Slot s) can_go no_target));
        touches = touches_metered spoken m new t (touches_on spoken m base new (touches_closed m p sound spoken) (touches_relocated base p (Slot s) can_go spoken (λ q y. outside_p q y)));
        narrows = narrows_closed m p sound;
        shares = shares_kept base p (Slot s) can_go;
        counts = refl;
        owners = ap (left_owners m.frames.owners m.frames.counts) placed_f;
        slots = omega (arith, ap (λ place. count_by not (left_slots (set m.slots s true) place)) placed_f, count_by-set not m.slots s true false there, ap (λ b. num (not b)) untaken);
        landed = refl;
        pages = omega (arith, count_by-set is_there m.pages.pages p (record (page_at m.pages.pages p) { place = Slot s }) no_page (page_known m p some));
        costs = costs_same m (metered new t) refl (page_closed m p sound) (λ r. elim (same_or r p) [
          | inl w ↦ subst (λ n. IsNoDearer m.frames.counts (page_at m.pages.pages n) (page_at new.pages.pages n)) (sym w) (subst (IsNoDearer m.frames.counts (page_at m.pages.pages p)) (sym (of_p base p (Slot s) can_go)) (dear_in_slot m.frames.counts (page_at m.pages.pages p) s))
          | inr n ↦ dear_same m.frames.counts (page_at m.pages.pages r) (page_at new.pages.pages r) (page_other base p (Slot s) can_go r n)
        ]);
      }

pub evicted : (old new : Memory) (v w : StoreView) (p s : ℕ) (f : FrameId) → IsSound old → owner_at old.frames f.0 ≡ Page p → is_held (counts_at old.frames f.0) ≡ false → IsPut old new v w p f.0 s → IsGone old new v w p f.0
evicted old new v w p s f x owned unheld y = subst (λ n. IsGone old n v w p f.0) (sym y.gone) (gone_now old p s f x owned unheld y.there y.untaken v w new.frames.meters y.stored)
