-- A free frame becomes a transfer's, with bytes of its own, and is lent.
use Rattle.std.proofs.Common.{◌≡◌, ◌≢◌, ℕ, ◌+◌, ◌<◌, ◌≤◌, Bool, true, false, List, [], ◌∷◌, length, refl, ap, sym, ◌∙◌, arith, subst, length-set, inl, inr}
use Rattle.std.specs.Prelude.{count_by, nat_lt, if◌then◌else◌}
use Rattle.std.proofs.lemmas.List.{get_or-set_same, get_or-set_other}
use Rattle.genie_base.specs.Lemmas.Places.{same_or, num, count_by-set}
use Rattle.genie_frame.specs.declared.frame.Owner.TheVariants.{Free, Page, System, Nobody}
use Rattle.genie_frame.specs.FrameTable.{owner_at, counts_at, bytes_at, is_held, is_lent, is_owned, is_nobody, is_system, is_free}
use Rattle.genie_store.specs.StoreView.{StoreView}
use Rattle.genie_object.specs.declared.memory.Memory.{Memory}
use Rattle.genie_object.specs.Pages.{is_there}
use Rattle.genie_object.specs.Objects.{entry_at}
use Rattle.genie_object.specs.Memory.{seen, seen_with, is_kept}
use Rattle.genie_object.specs.Sound.{IsSound}
use Rattle.genie_object.specs.Steps.{with_bytes}
use Rattle.genie_object.specs.Touching.{KeepsLoans, Touches, system_owner}
use Rattle.genie_object.specs.Lemmas.Granted.{sound_with, page_with, kept_with, keeps_with}
use Rattle.genie_object.specs.Lemmas.Touching.{touches_on}
use Rattle.genie_plan.specs.Loans.{Strong, Loan}
use Rattle.genie_tcow.specs.Lending.{lent_more, claimed, loans_on, see_lent, KeepsBesides, HasLent, IsClaimed}
use Rattle.genie_tcow.proofs.Counting.{on_one}
use Rattle.genie_plan.specs.Lemmas.Landings.{page_in}
use Rattle.genie_tcow.proofs.PageFrames.{page_owner}
use Rattle.genie_tcow.proofs.More.{lt_some, lt_none, more_sound, strong_held}
use Rattle.genie_tcow.proofs.Lent.{keeps_from, lent_one, lent_metered}

abbrev pub strong_loan : ℕ → Loan
strong_loan f = record { kind = Strong; frame = f }

module _ (m : Memory) (g id : ℕ) (bytes : List ℕ) (s : IsSound m) (there : g < length m.frames.owners) (empty : owner_at m.frames g ≡ Free) (full : length bytes ≡ m.frames.page) where
  abbrev claim : Memory
  claim = claimed m g id bytes

  mid_sound : IsSound (with_bytes m g bytes)
  mid_sound = sound_with m g bytes s full empty

  mid_keeps : KeepsLoans m (with_bytes m g bytes)
  mid_keeps = keeps_with m g bytes s full empty

  owner_here : owner_at claim.frames g ≡ System id
  owner_here = get_or-set_same m.frames.owners g (System id) Free there

  pub owner_else : (h : ℕ) → h ≢ g → owner_at (claimed m g id bytes).frames h ≡ owner_at m.frames h
  owner_else h n = get_or-set_other m.frames.owners g h (System id) Free n

  page_was : (h p : ℕ) → owner_at claim.frames h ≡ Page p → (h ≢ g) × (owner_at m.frames h ≡ Page p)
  page_was h p d = elim (same_or h g) [
    | inl t ↦ let bad : System id ≡ Page p = sym owner_here ∙ ap (owner_at claim.frames) (sym t) ∙ d in cc
    | inr n ↦ (n, sym (owner_else h n) ∙ d)
  ]

  page_now : (h p : ℕ) → owner_at m.frames h ≡ Page p → owner_at claim.frames h ≡ Page p
  page_now h p d = elim (same_or h g) [
    | inl t ↦ let bad : Free ≡ Page p = sym empty ∙ ap (owner_at m.frames) (sym t) ∙ d in cc
    | inr n ↦ owner_else h n ∙ d
  ]

  claimed_sound : IsSound claim
  claimed_sound = record {
    shaped = record {
      size = mid_sound.shaped.size;
      some = let l = length-set m.frames.owners g (System id) in omega (arith, l, mid_sound.shaped.some);
      most = let l = length-set m.frames.owners g (System id) in omega (arith, l, mid_sound.shaped.most);
      counted = mid_sound.shaped.counted ∙ sym (length-set m.frames.owners g (System id));
      filled = mid_sound.shaped.filled ∙ sym (length-set m.frames.owners g (System id));
      paged = mid_sound.shaped.paged;
    };
    placed = record {
      in_frame = λ p h d. page_now h.0 p (s.placed.in_frame p h d);
      of_page = λ h p d. s.placed.of_page h p (page_was h.0 p d).1;
    };
    lent = λ h. elim (same_or h g) [
      | inl t ↦ record {
        free = λ d. let bad : System id ≡ Free = sym owner_here ∙ ap (owner_at claim.frames) (sym t) ∙ d in cc;
        nobody = λ d. let bad : System id ≡ Nobody = sym owner_here ∙ ap (owner_at claim.frames) (sym t) ∙ d in cc;
      }
      | inr n ↦ record { free = λ d. (s.lent h).free (sym (owner_else h n) ∙ d); nobody = λ d. (s.lent h).nobody (sym (owner_else h n) ∙ d) }
    ];
    held = record {
      alone = λ h p d k. s.held.alone h p (page_was h p d).1 k;
      unlent = λ h d k. elim (same_or h g) [
        | inl t ↦ let bad : true ≡ false = sym (ap is_system (ap (owner_at claim.frames) t ∙ owner_here)) ∙ d in cc
        | inr n ↦ s.held.unlent h (sym (ap is_system (owner_else h n)) ∙ d) k
      ];
    };
    wired = s.wired;
    slotted = s.slotted;
    shared = s.shared;
    guarded = s.guarded;
  }

  pub claimed_bytes : bytes_at (claimed m g id bytes).frames g ≡ bytes
  claimed_bytes = get_or-set_same m.frames.bytes g bytes [] (omega (arith, there, s.shaped.filled))

  claimed_free : count_by is_free m.frames.owners ≤ count_by is_free claim.frames.owners + 1
  claimed_free = let taken = count_by-set is_free m.frames.owners g (System id) Free there in let was = ap (λ w. num (is_free w)) empty in omega (arith, taken, was)

  unlent : is_lent (counts_at m.frames g) ≡ false
  unlent = (s.lent g).free empty

  claimed_keeps : KeepsBesides id (strong_loan g ∷ []) m claim
  claimed_keeps = record {
    entry_held = mid_keeps.entry_held;
    held = mid_keeps.held;
    lent = λ h l. record {
      lent = l;
      bytes = (mid_keeps.lent h l).bytes;
      owner = inl (owner_else h (λ t. let bad : true ≡ false = sym l ∙ ap (λ n. is_lent (counts_at m.frames n)) t ∙ unlent in cc));
    };
    systems = λ h z. elim (on_one Strong g h) [
      | inl y ↦ absurd (omega (arith, z, y.1))
      | inr y ↦ ap system_owner (owner_else h y.0)
    ];
    taken = λ h z. elim (on_one Strong g h) [
      | inl y ↦ record { was = ap (λ n. system_owner (owner_at m.frames n)) y.0 ∙ ap system_owner empty; is = inr (ap (λ n. system_owner (owner_at claim.frames n)) y.0 ∙ ap system_owner owner_here) }
      | inr y ↦ absurd (omega (arith, z, y.1))
    ];
    entries = λ a. refl;
    number = length-set m.frames.owners g (System id);
    page = refl;
    slots = refl;
    most = refl;
  }

  kept_else : (slots : ℕ → List ℕ) (h : ℕ) → h ≢ g → (seen claim slots).kept_bytes h ≡ (seen m slots).kept_bytes h
  kept_else slots h n = (λ k. if is_kept (owner_else h n k) (counts_at m.frames h) then bytes_at claim.frames h else []) ∙ kept_with m g bytes s full empty slots h

  claimed_shows : (slots : ℕ → List ℕ) → see_lent Strong (strong_loan g ∷ []) (lent_more claim Strong g).frames (seen claim slots) ≡ see_lent Strong (strong_loan g ∷ []) (lent_more claim Strong g).frames (seen m slots)
  claimed_shows slots = λ k. record {
    entry_bytes = λ a b. page_with m g bytes s full empty slots (entry_at m.objects a b).page k;
    kept_bytes = λ h. by_frame h k;
  } where
    by_frame : (h : ℕ) → (if nat_lt 0 (loans_on (strong_loan g ∷ []) h) then bytes_at claim.frames h else (seen claim slots).kept_bytes h) ≡ (if nat_lt 0 (loans_on (strong_loan g ∷ []) h) then bytes_at claim.frames h else (seen m slots).kept_bytes h)
    by_frame h = elim (on_one Strong g h) [
      | inl y ↦ rw (lt_some (loans_on (strong_loan g ∷ []) h) (omega (arith, y.1))) refl
      | inr y ↦ rw (lt_none (loans_on (strong_loan g ∷ []) h) y.1) (kept_else slots h y.0)
    ]

  touches_claimed : (spoken : ℕ → ℕ → Bool) → Touches spoken m claim
  touches_claimed spoken = record {
    entries = λ a b d. record { page = refl; readable = λ h. h; writable = λ h. h };
    pages = λ r y. refl;
    outside = λ r y. record { there = y.there; named = y.named };
    counts = λ r h y d. refl;
  }

  claimed_owned : is_owned (owner_at claim.frames g) ≡ true
  claimed_owned = ap is_owned owner_here

  not_page : (p : ℕ) → owner_at claim.frames g ≡ Page p → ⊥
  not_page p q = let bad : System id ≡ Page p = sym owner_here ∙ q in cc

  after : IsSound (lent_more claim Strong g)
  after = more_sound Strong claim g claimed_sound claimed_owned
      (λ p e h. absurd (not_page p e))
      (λ e h. let bad : true ≡ false = sym (ap is_system owner_here) ∙ e in cc)
      (λ a b e d. let y = page_in claim a b g d in absurd (not_page y.number.0 (page_owner claim a b g y claimed_sound)))

  -- the frame was lent for a call that began in memory old, and that had brought about nothing else
  pub claimed_lent : (spoken : ℕ → ℕ → Bool) (old : Memory) (v w : StoreView) → seen_with m w ≡ seen_with old v → KeepsLoans old m → Touches spoken old m → m.frames.counts ≡ old.frames.counts → m.frames.landed ≡ old.frames.landed
      → count_by is_free old.frames.owners ≤ count_by is_free m.frames.owners → count_by is_there m.pages.pages ≤ count_by is_there old.pages.pages + 1
      → HasLent Strong id spoken (strong_loan g ∷ []) old (lent_more (claimed m g id bytes) Strong g) v w
  claimed_lent spoken old v w same keeps touches counts landed free added = lent_one Strong id spoken g old m claim v w (record {
    sound = claimed_sound;
    owned = claimed_owned;
    after = after;
    of = λ p q. absurd (not_page p q);
    base_shows = same;
    shows = claimed_shows;
    keeps = keeps_from id (strong_loan g ∷ []) old m claim keeps claimed_keeps;
    touches = touches_on spoken old m claim touches (touches_claimed spoken);
    counts = counts;
    landed = landed;
    free = omega (arith, free, claimed_free);
    added = added;
  })

-- no other frame is held then
pub claimed_held : (m : Memory) (g id : ℕ) (bytes : List ℕ) (s : IsSound m) (there : g < length m.frames.owners) (empty : owner_at m.frames g ≡ Free) (full : length bytes ≡ m.frames.page) (h : ℕ) → is_held (counts_at (lent_more (claimed m g id bytes) Strong g).frames h) ≡ is_held (counts_at m.frames h)
claimed_held m g id bytes s there empty full h = strong_held (claimed m g id bytes) g (claimed_sound m g id bytes s there empty full) (claimed_owned m g id bytes s there empty full) h

-- the same of a memory that is known by IsClaimed
pub copy_lent : (id : ℕ) (spoken : ℕ → ℕ → Bool) (g : ℕ) (bytes : List ℕ) (old m new : Memory) (v w : StoreView) → IsSound m → seen_with m w ≡ seen_with old v → KeepsLoans old m → Touches spoken old m → m.frames.counts ≡ old.frames.counts → m.frames.landed ≡ old.frames.landed
    → count_by is_free old.frames.owners ≤ count_by is_free m.frames.owners → count_by is_there m.pages.pages ≤ count_by is_there old.pages.pages + 1 → IsClaimed m new id g bytes
    → HasLent Strong id spoken (strong_loan g ∷ []) old new v w
copy_lent id spoken g bytes old m new v w s same keeps touches counts landed free added x = subst (λ n. HasLent Strong id spoken (strong_loan g ∷ []) old n v w) (sym x.is) (lent_metered Strong id spoken (strong_loan g ∷ []) old (lent_more (claimed m g id bytes) Strong g) v w new.frames.meters (claimed_lent m g id bytes s x.there x.was_free x.full spoken old v w same keeps touches counts landed free added))

pub copy_bytes : (id g : ℕ) (bytes : List ℕ) (m new : Memory) → IsSound m → IsClaimed m new id g bytes → bytes_at new.frames g ≡ bytes
copy_bytes id g bytes m new s x = ap (λ (n : Memory). bytes_at n.frames g) x.is ∙ claimed_bytes m g id bytes s x.there x.was_free x.full

-- a frame that was somebody's is somebody's then
pub copy_somebody : (id g : ℕ) (bytes : List ℕ) (m new : Memory) (f : ℕ) → IsSound m → IsClaimed m new id g bytes → is_nobody (owner_at m.frames f) ≡ false → is_nobody (owner_at new.frames f) ≡ false
copy_somebody id g bytes m new f s x h = elim (same_or f g) [
  | inl e ↦ ap (λ (n : Memory). is_nobody (owner_at n.frames f)) x.is ∙ ap (λ n. is_nobody (owner_at (claimed m g id bytes).frames n)) e ∙ ap is_nobody (owner_here m g id bytes s x.there x.was_free x.full)
  | inr n ↦ ap (λ (n : Memory). is_nobody (owner_at n.frames f)) x.is ∙ ap is_nobody (owner_else m g id bytes s x.there x.was_free x.full f n) ∙ h
]

-- its frame is the transfer's then, and each that was stays so
pub copy_system : (id g : ℕ) (bytes : List ℕ) (m new : Memory) (f : ℕ) → IsSound m → IsClaimed m new id g bytes → (f ≢ g → owner_at m.frames f ≡ System id) → owner_at new.frames f ≡ System id
copy_system id g bytes m new f s x h = elim (same_or f g) [
  | inl e ↦ ap (λ (n : Memory). owner_at n.frames f) x.is ∙ ap (λ n. owner_at (claimed m g id bytes).frames n) e ∙ owner_here m g id bytes s x.there x.was_free x.full
  | inr n ↦ ap (λ (n : Memory). owner_at n.frames f) x.is ∙ owner_else m g id bytes s x.there x.was_free x.full f n ∙ h n
]
