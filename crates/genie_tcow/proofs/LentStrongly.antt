-- Pages are lent strongly, one after the other.
use Rattle.std.proofs.Common.{◌^◌, ◌≡◌, ◌≢◌, ℕ, zero, suc, ◌+◌, ◌-◌, ◌<◌, ◌≤◌, Bool, true, false, List, [], ◌∷◌, ◌++◌, length, map, refl, ap, sym, ◌∙◌, arith, rules, subst, get_or, length-append, inl, inr, ◌⊎◌}
use Rattle.std.specs.Prelude.{IfSome, Some, None, Option, ◌||◌, count_by, if◌then◌else◌}
use Rattle.std.proofs.lemmas.Bool.{cases_lt}
use Rattle.std.proofs.lemmas.List.{map-append}
use Rattle.genie_frame.specs.declared.frame.Owner.{Owner}
use Rattle.genie_frame.specs.declared.frame.Owner.TheVariants.{Free, Page, System, Pool, Nobody}
use Rattle.genie_frame.specs.declared.frame.Counts.{Counts}
use Rattle.genie_frame.specs.declared.frame.Meters.{Meters}
use Rattle.genie_frame.specs.FrameTable.{FrameTable, owner_at, counts_at, bytes_at, is_held, is_lent, is_owned, is_nobody, is_free, no_counts}
use Rattle.genie_store.specs.StoreView.{StoreView}
use Rattle.genie_object.specs.declared.memory.Memory.{Memory}
use Rattle.genie_object.specs.declared.objects.Entry.{Entry}
use Rattle.genie_object.specs.declared.pages.PageId.{PageId}
use Rattle.genie_object.specs.declared.pages.Place.{Place}
use Rattle.genie_object.specs.declared.pages.Place.TheVariants.{Zero, Frame, Slot}
use Rattle.genie_object.specs.Pages.{page_at, is_there}
use Rattle.genie_object.specs.Objects.{entry_at, object_at, names}
use Rattle.genie_object.specs.Memory.{seen_with, bytes_of, entry_frame, frame_of}
use Rattle.genie_object.specs.Sound.{IsSound, IsSized, IsFramed}
use Rattle.genie_object.specs.Touching.{KeepsLoans, Touches, is_entry, system_owner}
use Rattle.genie_object.specs.Costs.{AreBelow, Spends, CostsNoMore, is_untouched, read_work, gets_for, slot_gets, place_of, is_zero}
use Rattle.genie_object.specs.Steps.{metered, granted}
use Rattle.genie_object.specs.Lemmas.Lookup.{named}
use Rattle.genie_object.specs.Lemmas.Entries.{entry_same, entry_or}
use Rattle.genie_object.specs.Lemmas.Granted.{sound_granted, seen_granted, keeps_granted, touches_granted, page_granted}
use Rattle.genie_object.specs.Lemmas.Spending.{spends_more, spends_none, spends_on}
use Rattle.genie_object.specs.Lemmas.Touching.{touches_on}
use Rattle.genie_plan.specs.Loans.{Strong, Loan}
use Rattle.genie_tcow.specs.Costs.{is_held_in, is_weakly_held, is_copied, send_work, sends_work, OthersNoDearer}
use Rattle.genie_tcow.specs.Lending.{IsBroughtFor, lent_more, loans_on, see_lent, claimed, HasLent, IsOwn, IsClaimed}
use Rattle.genie_tcow.specs.Owning.{AreOwnFrames, KeepsOthers}
use Rattle.genie_tcow.specs.Ranges.{HoldsEntries}
use Rattle.genie_tcow.proofs.Counting.{times_most, on_one, bool_or, on_at, at_last, at_front}
use Rattle.genie_object.specs.Lemmas.Naming.{named_once}
use Rattle.genie_plan.specs.Lemmas.Landings.{page_in}
use Rattle.genie_tcow.proofs.PageFrames.{page_owner, in_own_frame}
use Rattle.genie_tcow.proofs.Owned.{framed_owned}
use Rattle.genie_tcow.proofs.More.{IsSpoken, more_sound, strong_held}
use Rattle.genie_tcow.proofs.Lent.{keeps_from, besides_all, lent_one, lent_on, lent_none, is_out}
use Rattle.genie_tcow.proofs.Holding.{entries_seen, entries_still, framed_bytes, holds_none, holds_one, holds_on}
use Rattle.genie_tcow.proofs.Claimed.{strong_loan, copy_lent, copy_bytes, owner_else, claimed_held}
use Rattle.genie_tcow.proofs.Totals.{chosen_less, chosen_most, total_most, total_grow, spends_next, below_page, below_then, page_most}
use Rattle.genie_tcow.proofs.Within.{own_entry, other_entry}

-- an entry whose page no device holds is closed to writes, and its frame is lent strongly
module _ (m : Memory) (o i f : ℕ) (s : IsSound m) (there : i < length (object_at m.objects o)) (e : entry_frame m o i ≡ Some f) where
  abbrev shut : Memory
  shut = granted m o i false

  abbrev shut_entry : Entry
  shut_entry = record (entry_at m.objects o i) { readable = true; writable = false }

  framed : IsFramed m.pages.pages (entry_at m.objects o i).page
  framed = let y = page_in m o i f e in record { number = y.number; frame = record { 0 = f }; is_page = y.is_page; is_place = y.is_place }

  shut_sound : IsSound (granted m o i false)
  shut_sound = sound_granted m o i false there s framed (λ bad. cc)

  -- then no entry may write to the frame
  shut_closed : (a b : ℕ) → (entry_at shut.objects a b).writable ≡ true → entry_frame shut a b ≡ Some f → ⊥
  shut_closed a b w d = elim (entry_or m.objects o i shut_entry there a b) [
    | inl h ↦
        let is : entry_at shut.objects a b ≡ shut_entry = ap (λ n. entry_at shut.objects n b) h.0 ∙ ap (entry_at shut.objects o) h.1 ∙ entry_same m.objects o i shut_entry there in
        let bad : false ≡ true = sym (ap (λ (x : Entry). x.writable) is) ∙ w in cc
    | inr n ↦
        let is : entry_at shut.objects a b ≡ entry_at m.objects a b = n.1 in
        let was : (entry_at m.objects a b).writable ≡ true = ap (λ (x : Entry). x.writable) (sym is) ∙ w in
        let own = s.guarded.writable a b was in
        let x = page_in m o i f e in
        let y = page_in m a b f (ap (λ (x : Entry). frame_of m.pages.pages x.page) (sym is) ∙ d) in
        let two : Page x.number.0 ≡ Page y.number.0 = sym (page_owner m o i f x s) ∙ page_owner m a b f y s in
        let number : y.number.0 ≡ x.number.0 = cc in
        let same : y.number ≡ x.number = λ k. record { 0 = number k } in
        let third : Some own.number ≡ Some y.number = sym own.is_page ∙ y.is_page in
        let its : own.number ≡ y.number = cc in
        let one = named_once m.pages.pages m.objects a b o i x.number s.shared (ap (λ (q : PageId). (page_at m.pages.pages q.0).shares) (sym (its ∙ same)) ∙ own.alone) (y.is_page ∙ ap Some same) x.is_page in
        let bad : true ≡ false = sym (own_entry o i) ∙ (λ k. is_entry o i (sym one.0 k) (sym one.1 k)) ∙ n.0 in cc
  ]

  owned : is_owned (owner_at shut.frames f) ≡ true
  owned = framed_owned m o i f s e

  after : is_held (counts_at m.frames f) ≡ false → IsSound (lent_more shut Strong f)
  after unheld = more_sound Strong shut f shut_sound owned
      (λ p d h. let bad : true ≡ false = sym h ∙ unheld in cc)
      (λ d h. let bad : true ≡ false = sym h ∙ unheld in cc)
      (λ a b w d. absurd (shut_closed a b w d))

  unsystem : (h : ℕ) → 0 < loans_on (strong_loan f ∷ []) h → system_owner (owner_at m.frames h) ≡ Free
  unsystem h l = elim (on_one Strong f h) [
    | inl y ↦ ap (λ n. system_owner (owner_at m.frames n)) y.0 ∙ ap system_owner (page_owner m o i f (page_in m o i f e) s)
    | inr y ↦ absurd (omega (arith, l, y.1))
  ]

  of_entry : (spoken : ℕ → ℕ → Bool) → spoken o i ≡ true → (p : ℕ) → owner_at m.frames f ≡ Page p → IsSpoken spoken shut p
  of_entry spoken here p q =
      let y = page_in m o i f e in
      let two : Page y.number.0 ≡ Page p = sym (page_owner m o i f y s) ∙ q in
      let is : y.number.0 ≡ p = cc in
      record { object = o; index = i; here = here; named = subst (λ n. names n (entry_at shut.objects o i) ≡ true) is (named y.number (entry_at shut.objects o i) (page_granted m o i false there o i ∙ y.is_page)) }

  own_lent : (id : ℕ) (spoken : ℕ → ℕ → Bool) (old : Memory) (v w : StoreView) → spoken o i ≡ true → is_held (counts_at m.frames f) ≡ false → seen_with m w ≡ seen_with old v → KeepsLoans old m → Touches spoken old m → m.frames.counts ≡ old.frames.counts → m.frames.landed ≡ old.frames.landed
      → count_by is_free old.frames.owners ≤ count_by is_free m.frames.owners + 1 → count_by is_there m.pages.pages ≤ count_by is_there old.pages.pages + 1
      → HasLent Strong id spoken (strong_loan f ∷ []) old (lent_more (granted m o i false) Strong f) v w
  own_lent id spoken old v w here unheld same keeps touches counts landed free added = lent_one Strong id spoken f old m shut v w (record {
    sound = shut_sound;
    owned = owned;
    after = after unheld;
    of = of_entry spoken here;
    base_shows = same;
    shows = λ slots k. see_lent Strong (strong_loan f ∷ []) (lent_more shut Strong f).frames (seen_granted m o i false there slots k);
    keeps = keeps_from id (strong_loan f ∷ []) old m shut keeps (besides_all id (strong_loan f ∷ []) m shut (keeps_granted m o i false there) unsystem);
    touches = touches_on spoken old m shut touches (touches_granted m o i false there spoken here);
    counts = counts;
    landed = landed;
    free = free;
    added = added;
  })

  -- no entry has become dearer to lend
  own_untouched : (a b : ℕ) → is_untouched m a b ≡ false → is_untouched shut a b ≡ false
  own_untouched a b h = ap (λ page. elim page as (λ _. Bool) [ None ↦ true | Some p ↦ is_zero (page_at m.pages.pages p.0).place ]) (page_granted m o i false there a b) ∙ h

  own_held : (a b : ℕ) → is_weakly_held m a b ≡ false → is_weakly_held (lent_more shut Strong f) a b ≡ false
  own_held a b h = ap (λ page. is_held_in (lent_more shut Strong f).frames (frame_of m.pages.pages page)) (page_granted m o i false there a b) ∙ held_by (entry_frame m a b) ∙ h
    where
      held_by : (x : Option ℕ) → is_held_in (lent_more shut Strong f).frames x ≡ is_held_in m.frames x
      held_by None = refl
      held_by (Some g) = strong_held shut f shut_sound owned g

or_left : (a b : Bool) → (a || b) ≡ false → a ≡ false
or_left a b e = grind (rules, e)

or_right : (a b : Bool) → (a || b) ≡ false → b ≡ false
or_right a b e = grind (rules, e)

or_none : (a b : Bool) → a ≡ false → b ≡ false → (a || b) ≡ false
or_none a b x y = rw (x, y) refl

-- a page that is held after it was brought in was held before
held_frame : (t : FrameTable) (x : Option ℕ) → is_held_in t x ≡ true → (f : ℕ) × (x ≡ Some f) × (is_held (counts_at t f) ≡ true)
held_frame t None h = let bad : false ≡ true = h in cc
held_frame t (Some f) h = (f, refl, h)

held_lent : (c : Counts) → is_held c ≡ true → is_lent c ≡ true
held_lent c h = grind (arith, rules)

module _ (old m : Memory) (o i : ℕ) (s : IsSound old) (z : IsSound m) (keeps : KeepsLoans old m) (touches : Touches (is_entry o i) old m) (counts : m.frames.counts ≡ old.frames.counts) where
  held_before : (a b : ℕ) → is_entry o i a b ≡ false → is_weakly_held m a b ≡ true → is_weakly_held old a b ≡ true
  held_before a b out h =
      let f = held_frame m.frames (entry_frame m a b) h in
      let y = page_in m a b f.0 f.1 in
      let page : (entry_at old.objects a b).page ≡ Some y.number = sym (touches.entries a b out).page ∙ y.is_page in
      let was : is_held (counts_at old.frames f.0) ≡ true = ap (λ cs. is_held (get_or cs f.0 no_counts)) (sym counts) ∙ f.2 in
      let owner : owner_at old.frames f.0 ≡ Page y.number.0 = elim (keeps.lent f.0 (held_lent (counts_at old.frames f.0) was)).owner [
        | inl d ↦ sym d ∙ page_owner m a b f.0 y z
        | inr d ↦ let bad : Page y.number.0 ≡ Nobody = sym (page_owner m a b f.0 y z) ∙ d.1 in cc
      ] in
      ap (is_held_in old.frames) (in_own_frame old a b f.0 y.number s page owner) ∙ was

  still_unheld : (a b : ℕ) → is_entry o i a b ≡ false → is_weakly_held old a b ≡ false → is_weakly_held m a b ≡ false
  still_unheld a b out h = elim (bool_or (is_weakly_held m a b)) [
    | inl t ↦ let bad : true ≡ false = sym (held_before a b out t) ∙ h in cc
    | inr t ↦ t
  ]

  others_brought : CostsNoMore old m → OthersNoDearer o i old m
  others_brought c a b out h = or_none (is_untouched m a b) (is_weakly_held m a b) (c.read a b (or_left (is_untouched old a b) (is_weakly_held old a b) h)) (still_unheld a b out (or_right (is_untouched old a b) (is_weakly_held old a b) h))

  pub others_own : (f : ℕ) (new : Memory) → i < length (object_at m.objects o) → entry_frame m o i ≡ Some f → CostsNoMore old m → new ≡ lent_more (granted m o i false) Strong f → OthersNoDearer o i old new
  others_own f new there e c is a b out h =
      let x = others_brought c a b out h in
      ap (λ n. is_copied n a b) is ∙ or_none (is_untouched (granted m o i false) a b) (is_weakly_held (lent_more (granted m o i false) Strong f) a b) (own_untouched m o i f z there e a b (or_left (is_untouched m a b) (is_weakly_held m a b) x)) (own_held m o i f z there e a b (or_right (is_untouched m a b) (is_weakly_held m a b) x))

  pub others_failed : (t : Meters) (new : Memory) → CostsNoMore old m → new ≡ metered m t → OthersNoDearer o i old new
  others_failed t new c is a b out h = ap (λ n. is_copied n a b) is ∙ others_brought c a b out h

  -- every other entry names the page that it named, and no other page has become weakly held
  pub keeps_own : (f : ℕ) (new : Memory) → i < length (object_at m.objects o) → entry_frame m o i ≡ Some f → new ≡ lent_more (granted m o i false) Strong f → KeepsOthers o i old new
  keeps_own f new there e is = record {
    pages = λ a b out. ap (λ (n : Memory). (entry_at n.objects a b).page) is ∙ page_granted m o i false there a b ∙ (touches.entries a b out).page;
    unheld = λ a b out h. ap (λ n. is_weakly_held n a b) is ∙ own_held m o i f z there e a b (still_unheld a b out h);
  }

  pub keeps_copy : (g id : ℕ) (bytes : List ℕ) (new : Memory) → IsClaimed m new id g bytes → KeepsOthers o i old new
  keeps_copy g id bytes new x = record {
    pages = λ a b out. ap (λ (n : Memory). (entry_at n.objects a b).page) x.is ∙ (touches.entries a b out).page;
    unheld = λ a b out h. ap (λ n. is_weakly_held n a b) x.is ∙ claimed_same g id bytes new x (entry_frame m a b) ∙ still_unheld a b out h;
  }
    where
      claimed_same : (g id : ℕ) (bytes : List ℕ) (new : Memory) → IsClaimed m new id g bytes → (q : Option ℕ) → is_held_in (lent_more (claimed m g id bytes) Strong g).frames q ≡ is_held_in m.frames q
      claimed_same g id bytes new x None = refl
      claimed_same g id bytes new x (Some h) = claimed_held m g id bytes z x.there x.was_free x.full h

or_last : (a b : Bool) → b ≡ true → (a || b) ≡ true
or_last true b e = refl
or_last false b e = e

-- an untouched page is one that bytes are moved for
read_less : (old : Memory) (o i : ℕ) → read_work old o i ≤ send_work old o i
read_less old o i = chosen (is_untouched old o i) (is_weakly_held old o i) old.frames.page
  where
    chosen : (a b : Bool) (n : ℕ) → (if a then n else 0) ≤ (if a || b then n else 0)
    chosen true b n = omega arith
    chosen false b n = omega arith

others_copy : (old m : Memory) (o i : ℕ) → IsSound old → IsSound m → KeepsLoans old m → Touches (is_entry o i) old m → m.frames.counts ≡ old.frames.counts → (g id : ℕ) (bytes : List ℕ) (new : Memory) → CostsNoMore old m → IsClaimed m new id g bytes → OthersNoDearer o i old new
others_copy old m o i s z keeps touches counts g id bytes new c x a b out h =
    let y = others_brought old m o i s z keeps touches counts c a b out h in
    ap (λ n. is_copied n a b) x.is ∙ or_none (is_untouched m a b) (is_weakly_held (lent_more (claimed m g id bytes) Strong g) a b) (or_left (is_untouched m a b) (is_weakly_held m a b) y) (same_held (entry_frame m a b) ∙ or_right (is_untouched m a b) (is_weakly_held m a b) y)
  where
    same_held : (q : Option ℕ) → is_held_in (lent_more (claimed m g id bytes) Strong g).frames q ≡ is_held_in m.frames q
    same_held None = refl
    same_held (Some h) = claimed_held m g id bytes z x.there x.was_free x.full h

option_or : (x : Option ℕ) → (x ≡ None) ⊎ ((h : ℕ) × (x ≡ Some h))
option_or None = inl refl
option_or (Some h) = inr (h, refl)

slot_most : (place : Place) → slot_gets place ≤ 1
slot_most Zero = omega arith
slot_most (Frame f) = omega arith
slot_most (Slot r) = omega arith

own_one : (old new : Memory) (o i : ℕ) (loan : Loan) → (is_weakly_held old o i ≡ false → entry_frame new o i ≡ Some loan.frame) → AreOwnFrames old new o i (loan ∷ [])
own_one old new o i loan h zero d l unheld =
    let place : i + 0 ≡ i = omega arith in
    subst (λ j. entry_frame new o j ≡ Some loan.frame) (sym place) (h (subst (λ j. is_weakly_held old o j ≡ false) place unheld))
own_one old new o i loan h (suc k) d l unheld = absurd (omega (arith, l))

module _ (old m : Memory) (v w : StoreView) (o i f : ℕ) (x : IsBroughtFor old m v w o i f) where
  -- a page that is held was in the frame before, and no frame has changed
  pub held_stays : is_held (counts_at m.frames f) ≡ true → (m.frames ≡ old.frames) × (entry_frame old o i ≡ Some f)
  held_stays h = elim (option_or (entry_frame old o i)) [
    | inl n ↦
        let lent : is_lent (counts_at old.frames f) ≡ true = ap (λ cs. is_lent (get_or cs f no_counts)) (sym x.moves.counts) ∙ held_lent (counts_at m.frames f) h in
        let bad : true ≡ false = sym lent ∙ x.brings.fresh n in cc
    | inr y ↦ let z = x.brings.stays y.0 y.1 in (z.1, y.1 ∙ ap Some (sym z.0))
  ]

  pub held_free : is_held (counts_at m.frames f) ≡ true → count_by is_free old.frames.owners ≤ count_by is_free m.frames.owners
  held_free h = let e = ap (λ (t : FrameTable). count_by is_free t.owners) (held_stays h).0 in omega (arith, e)

  its_bytes : IfSome (bytes_of old v o i) (λ b. bytes_at m.frames f ≡ b)
  its_bytes = subst (λ y. IfSome y (λ b. bytes_at m.frames f ≡ b)) (entries_seen old m v w x.moves.seen o i) (framed_bytes m w o i f x.framed)

  module _ (new : Memory) (id g : ℕ) (own : is_held (counts_at m.frames f) ≡ false → IsOwn m new o i f g) (copy : is_held (counts_at m.frames f) ≡ true → IsClaimed m new id g (bytes_at m.frames f)) where
    pub page_lent : (spoken : ℕ → ℕ → Bool) → spoken o i ≡ true → Touches spoken old m → HasLent Strong id spoken (strong_loan g ∷ []) old new v w
    page_lent spoken here touches = elim (bool_or (is_held (counts_at m.frames f))) [
      | inr h ↦
          let y = own h in
          subst (λ n. HasLent Strong id spoken (strong_loan n ∷ []) old new v w) (sym y.same) (subst (λ n. HasLent Strong id spoken (strong_loan f ∷ []) old n v w) (sym y.is) (own_lent m o i f x.moves.sound x.there x.framed id spoken old v w here h x.moves.seen x.moves.keeps touches x.moves.counts x.moves.landed x.takes.free x.takes.added))
      | inl h ↦ copy_lent id spoken g (bytes_at m.frames f) old m new v w x.moves.sound x.moves.seen x.moves.keeps touches x.moves.counts x.moves.landed (held_free h) x.takes.added (copy h)
    ]

    pub page_others : KeepsOthers o i old new
    page_others = elim (bool_or (is_held (counts_at m.frames f))) [
      | inr h ↦ keeps_own old m o i x.before x.moves.sound x.moves.keeps x.moves.touches x.moves.counts f new x.there x.framed (own h).is
      | inl h ↦ keeps_copy old m o i x.before x.moves.sound x.moves.keeps x.moves.touches x.moves.counts g id (bytes_at m.frames f) new (copy h)
    ]

    -- a page that wasn't weakly held is lent in its frame
    own_frame : is_weakly_held old o i ≡ false → entry_frame new o i ≡ Some g
    own_frame unheld = elim (bool_or (is_held (counts_at m.frames f))) [
      | inr h ↦ ap (λ (n : Memory). entry_frame n o i) (own h).is ∙ ap (frame_of m.pages.pages) (page_granted m o i false x.there o i) ∙ x.framed ∙ ap Some (sym (own h).same)
      | inl h ↦
          let stays = held_stays h in
          let held : is_weakly_held old o i ≡ true = ap (is_held_in old.frames) stays.1 ∙ ap (λ (t : FrameTable). is_held (counts_at t f)) (sym stays.0) ∙ h in
          let bad : true ≡ false = sym held ∙ unheld in cc
    ]

    pub page_own : AreOwnFrames old new o i (strong_loan g ∷ [])
    page_own = own_one old new o i (strong_loan g) own_frame

    new_bytes : bytes_at new.frames g ≡ bytes_at m.frames f
    new_bytes = elim (bool_or (is_held (counts_at m.frames f))) [
      | inr h ↦ ap (λ (n : Memory). bytes_at n.frames g) (own h).is ∙ ap (bytes_at m.frames) (own h).same
      | inl h ↦ copy_bytes id g (bytes_at m.frames f) m new x.moves.sound (copy h)
    ]

    pub page_bytes : HoldsEntries old v o i (strong_loan g ∷ []) new.frames
    page_bytes = holds_one old v o i (strong_loan g) new.frames (subst (λ bs. IfSome (bytes_of old v o i) (λ b. bs ≡ b)) (sym new_bytes) its_bytes)

    pub page_owners : (h : ℕ) → is_free (owner_at old.frames h) ≡ false → owner_at new.frames h ≡ owner_at old.frames h
    page_owners h d = elim (bool_or (is_held (counts_at m.frames f))) [
      | inr k ↦ ap (λ (n : Memory). owner_at n.frames h) (own k).is ∙ x.brings.owners h d
      | inl k ↦
          let y = copy k in
          let apart : h ≢ g = λ e. let bad : true ≡ false = ap is_free (sym y.was_free) ∙ ap (λ n. is_free (owner_at m.frames n)) (sym e) ∙ ap is_free (x.brings.owners h d) ∙ d in cc in
          ap (λ (n : Memory). owner_at n.frames h) y.is ∙ owner_else m g id (bytes_at m.frames f) x.moves.sound y.there y.was_free y.full h apart ∙ x.brings.owners h d
    ]

    pub page_costs : OthersNoDearer o i old new
    page_costs = elim (bool_or (is_held (counts_at m.frames f))) [
      | inr h ↦ others_own old m o i x.before x.moves.sound x.moves.keeps x.moves.touches x.moves.counts f new x.there x.framed x.moves.costs (own h).is
      | inl h ↦ others_copy old m o i x.before x.moves.sound x.moves.keeps x.moves.touches x.moves.counts g id (bytes_at m.frames f) new x.moves.costs (copy h)
    ]

    pub page_spends : Spends (if is_held (counts_at m.frames f) then m.frames.page else 0) 0 0 (if is_held (counts_at m.frames f) then 1 else 0) m.frames.meters new.frames.meters → Spends (send_work old o i) 1 0 1 old.frames.meters new.frames.meters
    page_spends y = elim (bool_or (is_held (counts_at m.frames f))) [
      | inr h ↦
          let z : Spends 0 0 0 0 m.frames.meters new.frames.meters = subst (λ b. Spends (if b then m.frames.page else 0) 0 0 (if b then 1 else 0) m.frames.meters new.frames.meters) h y in
          spends_more _ _ _ _ _ _ _ _ old.frames.meters new.frames.meters (spends_on (read_work old o i) (gets_for old o i) 0 1 0 0 0 0 old.frames.meters m.frames.meters new.frames.meters x.spends z) (let r = read_less old o i in omega (arith, r)) (let q = slot_most (place_of old o i) in omega (arith, q)) (omega arith) (omega arith)
      | inl h ↦
          let z : Spends m.frames.page 0 0 1 m.frames.meters new.frames.meters = subst (λ b. Spends (if b then m.frames.page else 0) 0 0 (if b then 1 else 0) m.frames.meters new.frames.meters) h y in
          let stays = held_stays h in
          let meters : m.frames.meters ≡ old.frames.meters = ap (λ (t : FrameTable). t.meters) stays.0 in
          let held : is_weakly_held old o i ≡ true = ap (is_held_in old.frames) stays.1 ∙ ap (λ (t : FrameTable). is_held (counts_at t f)) (sym stays.0) ∙ h in
          let all : send_work old o i ≡ old.frames.page = ap (λ b. if b then old.frames.page else 0) (or_last (is_untouched old o i) (is_weakly_held old o i) held) in
          let page = x.moves.keeps.page in
          spends_more _ _ _ _ _ _ _ _ old.frames.meters new.frames.meters (subst (λ u. Spends m.frames.page 0 0 1 u new.frames.meters) meters z) (omega (arith, all, page)) (omega arith) (omega arith) (omega arith)
    ]

-- meters after a fault
pub failed_spends : (old new : Memory) (o i : ℕ) → Spends (read_work old o i) (gets_for old o i) 0 1 old.frames.meters new.frames.meters → Spends (send_work old o i) 1 0 1 old.frames.meters new.frames.meters
failed_spends old new o i x = spends_more _ _ _ _ _ _ _ _ old.frames.meters new.frames.meters x (read_less old o i) (slot_most (place_of old o i)) (omega arith) (omega arith)

pub can_copy : (old m : Memory) (o i : ℕ) → IsSound old → m.frames.page ≡ old.frames.page → AreBelow (2 ^ 64 - 2 ^ 20) old.frames.meters → Spends (read_work old o i) (gets_for old o i) 0 1 old.frames.meters m.frames.meters → m.frames.meters.copied + m.frames.page < 2 ^ 64
can_copy old m o i s same b x =
    let p = page_most old.frames s.shaped in
    let w = chosen_most (is_untouched old o i) old.frames.page in
    omega (arith, b.copied, x.work, x.read, x.written, x.copied, x.zeroed, w, p, same)

-- the pages that were lent so far
pub record LentStrongSoFar (id : ℕ) (spoken : ℕ → ℕ → Bool) (o i : ℕ) (loans : List Loan) (n : ℕ) (old new : Memory) (before now : StoreView) : Type 0 where
  pub lent : HasLent Strong id spoken loans old new before now
  pub bytes : HoldsEntries old before o i loans new.frames
  pub own : AreOwnFrames old new o i loans
  pub unheld : (k : ℕ) → n ≤ k → is_weakly_held old o (i + k) ≡ false → is_weakly_held new o (i + k) ≡ false
  pub costs : (k : ℕ) → n ≤ k → is_copied old o (i + k) ≡ false → is_copied new o (i + k) ≡ false
  pub number : length loans ≡ n
  pub spends : Spends (sends_work old o i n) n 0 n old.frames.meters new.frames.meters
  pub sized : IsSized new now
  pub faults : now.faults ≡ before.faults

pub strong_none : {X : Type 0} (loan_of : X → Loan) (id : ℕ) (spoken : ℕ → ℕ → Bool) (o i : ℕ) (loans : List X) (m : Memory) (v : StoreView) → loans ≡ [] → IsSound m → IsSized m v → LentStrongSoFar id spoken o i (map loan_of loans) 0 m m v v
strong_none loan_of id spoken o i loans m v e s z = subst (λ xs. LentStrongSoFar id spoken o i (map loan_of xs) 0 m m v v) (sym e) (record {
  lent = lent_none Strong id spoken m v s;
  bytes = holds_none m v o i m.frames;
  own = λ k d l unheld. absurd (omega (arith, l));
  unheld = λ k l h. h;
  costs = λ k l h. h;
  number = refl;
  spends = spends_none _ _ _ _ m.frames.meters;
  sized = z;
  faults = refl;
})

-- a lent frame isn't free
lent_taken : (o : Owner) (c : Counts) → (o ≡ Free → is_lent c ≡ false) → is_lent c ≡ true → is_free o ≡ false
lent_taken Free c h l = let bad : true ≡ false = sym l ∙ h refl in cc
lent_taken (Page p) c h l = refl
lent_taken (System t) c h l = refl
lent_taken (Pool d) c h l = refl
lent_taken Nobody c h l = refl

-- pages that are lent in their own frames stay there while the next one is lent
own_on : (old m new : Memory) (o i j : ℕ) (loans : List Loan) (loan : Loan) → IsSound new → IsSound m → j ≡ i + length loans → AreOwnFrames old m o i loans → ((f : ℕ) → 0 < loans_on loans f → owner_at new.frames f ≡ owner_at m.frames f) → KeepsOthers o j m new → (is_weakly_held old o (i + length loans) ≡ false → is_weakly_held m o (i + length loans) ≡ false) → AreOwnFrames m new o j (loan ∷ []) → AreOwnFrames old new o i (loans ++ loan ∷ [])
own_on old m new o i j loans loan sound was at own owners others unheld last k d l free = elim (cases_lt k (length loans)) [
  | inl h ↦
      let f : ℕ = (get_or loans k d).frame in
      let framed = own k d h free in
      let y = page_in m o (i + k) f framed in
      let out = other_entry o j (i + k) (λ e. absurd (omega (arith, h, e, at))) in
      let page = others.pages o (i + k) out ∙ y.is_page in
      let owner = owners f (on_at loans k d h) ∙ page_owner m o (i + k) f y was in
      in_own_frame new o (i + k) f y.number sound page owner ∙ ap Some (sym (ap (λ (q : Loan). q.frame) (at_front loans loan d k h)))
  | inr h ↦
      let size : length (loans ++ loan ∷ []) ≡ length loans + 1 = length-append loans (loan ∷ []) in
      let e : k ≡ length loans = omega (arith, size, l, h) in
      let place : j + 0 ≡ i + k = omega (arith, e, at) in
      let here : is_weakly_held m o (j + 0) ≡ false = subst (λ n. is_weakly_held m o n ≡ false) (omega (arith, at)) (unheld (subst (λ n. is_weakly_held old o (i + n) ≡ false) e free)) in
      subst (λ n. entry_frame new o n ≡ Some (get_or (loans ++ loan ∷ []) k d).frame) place (last 0 d (omega arith) here ∙ ap Some (sym (ap (λ (q : Loan). q.frame) (at_last loans loan d k e))))
]

work_less : (old m : Memory) (o i : ℕ) → m.frames.page ≡ old.frames.page → (is_copied old o i ≡ false → is_copied m o i ≡ false) → send_work m o i ≤ send_work old o i
work_less old m o i e c = chosen_less (is_copied old o i) (is_copied m o i) old.frames.page m.frames.page e c

pub strong_more : {X : Type 0} (loan_of : X → Loan) (id : ℕ) (spoken : ℕ → ℕ → Bool) (o first i j : ℕ) (loans items : List X) (loan : X) (old m new : Memory) (before mid now : StoreView) → j ≡ first + i → LentStrongSoFar id spoken o first (map loan_of loans) i old m before mid → items ≡ loans ++ loan ∷ [] → HasLent Strong id spoken (loan_of loan ∷ []) m new mid now → HoldsEntries m mid o j (loan_of loan ∷ []) new.frames → AreOwnFrames m new o j (loan_of loan ∷ []) → KeepsOthers o j m new → ((h : ℕ) → is_free (owner_at m.frames h) ≡ false → owner_at new.frames h ≡ owner_at m.frames h) → OthersNoDearer o j m new → Spends (send_work m o j) 1 0 1 m.frames.meters new.frames.meters → IsSized new now → now.faults ≡ mid.faults → LentStrongSoFar id spoken o first (map loan_of items) (i + 1) old new before now
strong_more loan_of id spoken o first i j loans items loan old m new before mid now at x is y bytes own others owners costs spends sized faults =
    let all : map loan_of items ≡ map loan_of loans ++ loan_of loan ∷ [] = ap (map loan_of) is ∙ map-append loan_of loans (loan ∷ []) in
    let size : length (map loan_of loans ++ loan_of loan ∷ []) ≡ length (map loan_of loans) + 1 = length-append (map loan_of loans) (loan_of loan ∷ []) in
    let less : send_work m o j ≤ send_work old o (first + i) = subst (λ n. send_work m o n ≤ send_work old o (first + i)) (sym at) (work_less old m o (first + i) x.lent.keeps.page (x.costs i (omega arith))) in
    subst (λ xs. LentStrongSoFar id spoken o first xs (i + 1) old new before now) (sym all) (record {
      lent = lent_on Strong id spoken (map loan_of loans) (loan_of loan) old m new before mid now somebody x.lent y;
      bytes = holds_on old m before mid o first j (map loan_of loans) (loan_of loan) m.frames new.frames (omega (arith, at, x.number)) (entries_still Strong id spoken (map loan_of loans) old m before mid x.lent) (λ f h. (y.keeps.lent f (is_out Strong id spoken (map loan_of loans) old m before mid x.lent f h)).bytes) x.bytes bytes;
      own = own_on old m new o first j (map loan_of loans) (loan_of loan) y.sound x.lent.sound (omega (arith, at, x.number)) x.own (λ f h. owners f (out_taken f h)) others (λ h. subst (λ n. is_weakly_held m o (first + n) ≡ false) (sym x.number) (x.unheld i (omega arith) (subst (λ n. is_weakly_held old o (first + n) ≡ false) x.number h))) own;
      unheld = λ k l h. others.unheld o (first + k) (other_entry o j (first + k) (λ e. absurd (omega (arith, l, e, at)))) (x.unheld k (omega (arith, l)) h);
      costs = λ k l h. costs o (first + k) (other_entry o j (first + k) (λ e. absurd (omega (arith, l, e, at)))) (x.costs k (omega (arith, l)) h);
      number = omega (arith, size, x.number);
      spends = spends_next (sends_work old o first) (send_work m o j) i old.frames.meters m.frames.meters new.frames.meters x.spends spends (omega (arith, less));
      sized = sized;
      faults = faults ∙ x.faults;
    })
  where
    out_taken : (f : ℕ) → 0 < loans_on (map loan_of loans) f → is_free (owner_at m.frames f) ≡ false
    out_taken f h = lent_taken (owner_at m.frames f) (counts_at m.frames f) ((x.lent.sound.lent f).free) (is_out Strong id spoken (map loan_of loans) old m before mid x.lent f h)

    somebody : (f : ℕ) → 0 < loans_on (map loan_of loans) f → is_nobody (owner_at new.frames f) ≡ false
    somebody f h = ap is_nobody (owners f (out_taken f h)) ∙ x.lent.owned f h

-- what the next page asks for
pub record CanGoOn (m : Memory) (o first i : ℕ) : Type 0 where
  pub there : first + i < length (object_at m.objects o)
  pub free : 0 < count_by is_free m.frames.owners
  pub room : count_by is_there m.pages.pages < m.pages.most
  pub meters : AreBelow (2 ^ 64 - 2 ^ 20) m.frames.meters
  pub few : (f : ℕ) → (counts_at m.frames f).strong < 2 ^ 32 - 1

pub goes_on : (id : ℕ) (spoken : ℕ → ℕ → Bool) (o first i n : ℕ) (loans : List Loan) (old m : Memory) (before now : StoreView) → IsSound old → first + n ≤ length (object_at old.objects o) → n ≤ 65 → n ≤ count_by is_free old.frames.owners → count_by is_there old.pages.pages + n ≤ old.pages.most → AreBelow (2 ^ 64 - 2 ^ 21) old.frames.meters → ((f : ℕ) → (counts_at old.frames f).strong < 2 ^ 31) → LentStrongSoFar id spoken o first loans i old m before now → i < n → CanGoOn m o first i
goes_on id spoken o first i n loans old m before now s within few free room meters strong x l = record {
  there = omega (arith, within, l, x.lent.keeps.entries o);
  free = omega (arith, x.lent.free, free, l, x.number);
  room = omega (arith, x.lent.added, room, l, x.number, x.lent.keeps.most);
  meters = below_then (sends_work old o first i) i old.frames.meters m.frames.meters meters x.spends (below_page old.frames.page i (sends_work old o first i) (page_most old.frames s.shaped) (omega (arith, few, l)) (total_most (λ k. send_work old o (first + k)) old.frames.page i (λ k. chosen_most (is_copied old o (first + k)) old.frames.page))) (omega (arith, few, l));
  few = λ f. omega (arith, strong f, ap (λ (c : Counts). c.strong) (x.lent.counts f), times_most loans Strong f, x.number, few, l);
}

-- the next page failed
pub spends_failed : (id : ℕ) (spoken : ℕ → ℕ → Bool) (o first i n : ℕ) (loans : List Loan) (old m new : Memory) (before mid : StoreView) → i < n → LentStrongSoFar id spoken o first loans i old m before mid → Spends (send_work m o (first + i)) 1 0 1 m.frames.meters new.frames.meters → Spends (sends_work old o first n) n 0 n old.frames.meters new.frames.meters
spends_failed id spoken o first i n loans old m new before mid l x y =
    let less = work_less old m o (first + i) x.lent.keeps.page (x.costs i (omega arith)) in
    spends_more _ _ _ _ _ _ _ _ old.frames.meters new.frames.meters (spends_on (sends_work old o first i) i 0 i (send_work m o (first + i)) 1 0 1 old.frames.meters m.frames.meters new.frames.meters x.spends y) (omega (arith, less, total_grow (λ k. send_work old o (first + k)) i n l)) (omega (arith, l)) (omega arith) (omega (arith, l))

pub holds_failed : (old m new : Memory) (v : StoreView) (o i : ℕ) (loans : List Loan) → HoldsEntries old v o i loans m.frames → new ≡ metered m new.frames.meters → HoldsEntries old v o i loans new.frames
holds_failed old m new v o i loans x is = subst (λ (n : Memory). HoldsEntries old v o i loans n.frames) (sym is) x

pub same_costs : (old new : Memory) (o i : ℕ) → new ≡ metered old new.frames.meters → OthersNoDearer o i old new
same_costs old new o i is a b out h = ap (λ n. is_copied n a b) is ∙ h
