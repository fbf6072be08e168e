-- One loan more in a memory.
use Rattle.std.proofs.Common.{◌≡◌, ◌≢◌, ℕ, ◌<◌, Bool, true, false, List, [], ◌∷◌, length, refl, ap, sym, ◌∙◌, arith, rules, length-set, inl, inr}
use Rattle.std.specs.Prelude.{Some, nat_lt, if◌then◌else◌}
use Rattle.std.proofs.lemmas.List.{get_or-set_same, get_or-set_other}
use Rattle.genie_base.specs.Lemmas.Places.{same_or}
use Rattle.genie_frame.specs.declared.frame.Owner.{Owner}
use Rattle.genie_frame.specs.declared.frame.Owner.TheVariants.{Free, Page, System, Pool, Nobody}
use Rattle.genie_frame.specs.declared.frame.Counts.{Counts}
use Rattle.genie_frame.specs.FrameTable.{owner_at, counts_at, bytes_at, is_held, is_lent, is_owned, is_system, no_counts}
use Rattle.genie_object.specs.declared.memory.Memory.{Memory}
use Rattle.genie_object.specs.Pages.{page_at}
use Rattle.genie_object.specs.Objects.{entry_at, names}
use Rattle.genie_object.specs.Memory.{seen, is_kept, entry_frame, frame_of, frame_in}
use Rattle.genie_object.specs.Sound.{IsSound}
use Rattle.genie_object.specs.Touching.{KeepsLoans, Touches}
use Rattle.genie_object.specs.Lemmas.Touching.{fewer_set}
use Rattle.genie_plan.specs.Lemmas.Staying.{one_loan_more}
use Rattle.genie_plan.specs.Loans.{LoanKind, Strong, Weak, Input, one_more, more}
use Rattle.genie_tcow.specs.Lending.{lent_more, see_lent, loans_on}
use Rattle.genie_tcow.proofs.Counting.{on_one, one_here, one_else, held_more, lent_one_more, wires_more}
use Rattle.genie_tcow.proofs.Owned.{in_owners}

pub lt_some : (n : ℕ) → 0 < n → nat_lt 0 n ≡ true
lt_some n h = grind (arith, rules)

pub lt_none : (n : ℕ) → n ≡ 0 → nat_lt 0 n ≡ false
lt_none n e = ap (nat_lt 0) e

-- whether a frame is seen by itself hangs on its owner and its strong loans
pub kept_by : (o : Owner) (a b : Counts) → a.strong ≡ b.strong → is_kept o a ≡ is_kept o b
kept_by Free a b e = refl
kept_by (Page p) a b e = ap (nat_lt 0) e
kept_by (System t) a b e = refl
kept_by (Pool d) a b e = refl
kept_by Nobody a b e = refl

kept_strong : (o : Owner) (c : Counts) → is_owned o ≡ true → 0 < c.strong → is_kept o c ≡ true
kept_strong Free c w h = cc
kept_strong (Page p) c w h = lt_some c.strong h
kept_strong (System t) c w h = refl
kept_strong (Pool d) c w h = refl
kept_strong Nobody c w h = refl

-- an entry that the call speaks of names the page
pub record IsSpoken (spoken : ℕ → ℕ → Bool) (m : Memory) (p : ℕ) : Type 0 where
  pub object : ℕ
  pub index : ℕ
  pub here : spoken object index ≡ true
  pub named : names p (entry_at m.objects object index) ≡ true

module _ (kind : LoanKind) (m : Memory) (g : ℕ) (s : IsSound m) (owned : is_owned (owner_at m.frames g) ≡ true) where
  abbrev new : Memory
  new = lent_more m kind g

  abbrev grown : Counts
  grown = one_more kind (counts_at m.frames g)

  there : g < length m.frames.counts
  there = let l = in_owners m.frames.owners g owned in omega (arith, l, s.shaped.counted)

  counts_here : counts_at new.frames g ≡ grown
  counts_here = get_or-set_same m.frames.counts g grown no_counts there

  counts_else : (h : ℕ) → h ≢ g → counts_at new.frames h ≡ counts_at m.frames h
  counts_else h n = get_or-set_other m.frames.counts g h grown no_counts n

  at_g : {X : Type 0} (q : Counts → X) (h : ℕ) → h ≡ g → q (counts_at new.frames h) ≡ q grown
  at_g q h e = ap (λ n. q (counts_at new.frames n)) e ∙ ap q counts_here

  held_still : (h : ℕ) → is_held (counts_at m.frames h) ≡ true → is_held (counts_at new.frames h) ≡ true
  held_still h k = elim (same_or h g) [
    | inl e ↦ at_g is_held h e ∙ held_more kind (counts_at m.frames g) (ap (λ n. is_held (counts_at m.frames n)) (sym e) ∙ k)
    | inr n ↦ ap is_held (counts_else h n) ∙ k
  ]

  lent_still : (h : ℕ) → is_lent (counts_at m.frames h) ≡ true → is_lent (counts_at new.frames h) ≡ true
  lent_still h k = elim (same_or h g) [
    | inl e ↦ at_g is_lent h e ∙ lent_one_more kind (counts_at m.frames g)
    | inr n ↦ ap is_lent (counts_else h n) ∙ k
  ]

  wires_same : (h : ℕ) → (counts_at new.frames h).wires ≡ (counts_at m.frames h).wires
  wires_same h = elim (same_or h g) [
    | inl e ↦ at_g (λ (c : Counts). c.wires) h e ∙ wires_more kind (counts_at m.frames g) ∙ ap (λ n. (counts_at m.frames n).wires) (sym e)
    | inr n ↦ ap (λ (c : Counts). c.wires) (counts_else h n)
  ]

  pub more_counts : (h : ℕ) → counts_at new.frames h ≡ more (record { kind = kind; frame = g } ∷ []) h (counts_at m.frames h)
  more_counts h = elim (same_or h g) [
    | inl e ↦ at_g (λ c. c) h e ∙ ap (λ n. one_more kind (counts_at m.frames n)) (sym e) ∙ one_here kind g h (counts_at m.frames h) e
    | inr n ↦ counts_else h n ∙ one_else kind g h (counts_at m.frames h) n
  ]

  -- the memory stays sound where a page that is held then is one entry's own, where no frame but the system's is both held
  -- and strongly lent, and where no entry may write to a strongly lent one
  pub more_sound : ((p : ℕ) → owner_at m.frames g ≡ Page p → is_held grown ≡ true → (page_at m.pages.pages p).shares ≡ 1)
      → (is_system (owner_at m.frames g) ≡ false → is_held grown ≡ true → grown.strong ≡ 0)
      → ((a b : ℕ) → (entry_at m.objects a b).writable ≡ true → entry_frame m a b ≡ Some g → grown.strong ≡ 0)
      → IsSound (lent_more m kind g)
  more_sound alone unlent closed = record {
    shaped = record { size = s.shaped.size; some = s.shaped.some; most = s.shaped.most; counted = length-set m.frames.counts g grown ∙ s.shaped.counted; filled = s.shaped.filled; paged = s.shaped.paged };
    placed = s.placed;
    lent = λ h. elim (same_or h g) [
      | inl e ↦ record {
        free = λ w. let bad : true ≡ false = sym owned ∙ ap (λ n. is_owned (owner_at m.frames n)) (sym e) ∙ ap is_owned w in cc;
        nobody = λ w. let bad : true ≡ false = sym owned ∙ ap (λ n. is_owned (owner_at m.frames n)) (sym e) ∙ ap is_owned w in cc;
      }
      | inr n ↦ record { free = λ w. ap is_lent (counts_else h n) ∙ (s.lent h).free w; nobody = λ w. ap is_lent (counts_else h n) ∙ (s.lent h).nobody w }
    ];
    held = record {
      alone = λ h p w k. elim (same_or h g) [
        | inl e ↦ alone p (ap (owner_at m.frames) (sym e) ∙ w) (sym (at_g is_held h e) ∙ k)
        | inr n ↦ s.held.alone h p w (sym (ap is_held (counts_else h n)) ∙ k)
      ];
      unlent = λ h w k. elim (same_or h g) [
        | inl e ↦ at_g (λ (c : Counts). c.strong) h e ∙ unlent (ap (λ n. is_system (owner_at m.frames n)) (sym e) ∙ w) (sym (at_g is_held h e) ∙ k)
        | inr n ↦ ap (λ (c : Counts). c.strong) (counts_else h n) ∙ s.held.unlent h w (sym (ap is_held (counts_else h n)) ∙ k)
      ];
    };
    wired = λ h w. held_still h (s.wired h (omega (arith, w, wires_same h)));
    slotted = s.slotted;
    shared = s.shared;
    guarded = record {
      readable = s.guarded.readable;
      writable = λ a b w.
          let h = s.guarded.writable a b w in
          record {
            number = h.number;
            frame = h.frame;
            is_page = h.is_page;
            is_place = h.is_place;
            alone = h.alone;
            unlent = elim (same_or h.frame.0 g) [
              | inl e ↦ at_g (λ (c : Counts). c.strong) h.frame.0 e ∙ closed a b w (ap (frame_of m.pages.pages) h.is_page ∙ ap frame_in h.is_place ∙ ap Some e)
              | inr n ↦ ap (λ (c : Counts). c.strong) (counts_else h.frame.0 n) ∙ h.unlent
            ];
          };
    };
  }

  pub more_keeps : KeepsLoans m (lent_more m kind g)
  more_keeps = record {
    entry_held = λ a b h e k. e;
    held = held_still;
    lent = λ h l. record { lent = lent_still h l; bytes = refl; owner = inl refl };
    loans = fewer_set m.frames g grown there (one_loan_more kind (counts_at m.frames g));
    systems = λ h. refl;
    entries = λ a. refl;
    number = refl;
    page = refl;
    slots = refl;
    most = refl;
  }

  -- where only entries that the call speaks of may have their page in the frame
  pub more_touches : (spoken : ℕ → ℕ → Bool) → ((p : ℕ) → owner_at m.frames g ≡ Page p → IsSpoken spoken m p) → Touches spoken m (lent_more m kind g)
  more_touches spoken of = record {
    entries = λ a b e. record { page = refl; readable = λ h. h; writable = λ h. h };
    pages = λ p u. refl;
    outside = λ p u. record { there = u.there; named = u.named };
    counts = λ p h u e. counts_else h.0 (λ same.
        let y = of p (ap (owner_at m.frames) (sym same) ∙ s.placed.in_frame p h e) in
        let bad : true ≡ false = sym y.here ∙ u.named y.object y.index y.named in cc);
  }

  kept_else : (slots : ℕ → List ℕ) (h : ℕ) → (counts_at new.frames h).strong ≡ (counts_at m.frames h).strong → (seen new slots).kept_bytes h ≡ (seen m slots).kept_bytes h
  kept_else slots h e = ap (λ b. if b then bytes_at m.frames h else []) (kept_by (owner_at m.frames h) (counts_at new.frames h) (counts_at m.frames h) e)

-- what is seen then
pub more_shows : (kind : LoanKind) (m : Memory) (g : ℕ) (s : IsSound m) (owned : is_owned (owner_at m.frames g) ≡ true) (slots : ℕ → List ℕ) → seen (lent_more m kind g) slots ≡ see_lent kind (record { kind = kind; frame = g } ∷ []) (lent_more m kind g).frames (seen m slots)
more_shows Strong m g s owned slots = λ k. record { entry_bytes = (seen m slots).entry_bytes; kept_bytes = λ h. by_frame h k }
  where
    by_frame : (h : ℕ) → (seen (lent_more m Strong g) slots).kept_bytes h ≡ (if nat_lt 0 (loans_on (record { kind = Strong; frame = g } ∷ []) h) then bytes_at m.frames h else (seen m slots).kept_bytes h)
    by_frame h = elim (on_one Strong g h) [
      | inl y ↦
          let strong : 0 < (counts_at (lent_more m Strong g).frames h).strong = omega (arith, at_g Strong m g s owned (λ (c : Counts). c.strong) h y.0) in
          let kept = kept_strong (owner_at m.frames h) (counts_at (lent_more m Strong g).frames h) (ap (λ n. is_owned (owner_at m.frames n)) y.0 ∙ owned) strong in
          ap (λ b. if b then bytes_at m.frames h else []) kept ∙ ap (λ b. if b then bytes_at m.frames h else (seen m slots).kept_bytes h) (sym (lt_some (loans_on (record { kind = Strong; frame = g } ∷ []) h) (omega (arith, y.1))))
      | inr y ↦ kept_else Strong m g s owned slots h (ap (λ (c : Counts). c.strong) (counts_else Strong m g s owned h y.0)) ∙ ap (λ b. if b then bytes_at m.frames h else (seen m slots).kept_bytes h) (sym (lt_none (loans_on (record { kind = Strong; frame = g } ∷ []) h) y.1))
    ]
more_shows Weak m g s owned slots = λ k. record { entry_bytes = (seen m slots).entry_bytes; kept_bytes = λ h. kept_else Weak m g s owned slots h (same h) k }
  where
    same : (h : ℕ) → (counts_at (lent_more m Weak g).frames h).strong ≡ (counts_at m.frames h).strong
    same h = elim (same_or h g) [ inl e ↦ at_g Weak m g s owned (λ (c : Counts). c.strong) h e ∙ ap (λ n. (counts_at m.frames n).strong) (sym e) | inr n ↦ ap (λ (c : Counts). c.strong) (counts_else Weak m g s owned h n) ]
more_shows Input m g s owned slots = λ k. record { entry_bytes = (seen m slots).entry_bytes; kept_bytes = λ h. kept_else Input m g s owned slots h (same h) k }
  where
    same : (h : ℕ) → (counts_at (lent_more m Input g).frames h).strong ≡ (counts_at m.frames h).strong
    same h = elim (same_or h g) [ inl e ↦ at_g Input m g s owned (λ (c : Counts). c.strong) h e ∙ ap (λ n. (counts_at m.frames n).strong) (sym e) | inr n ↦ ap (λ (c : Counts). c.strong) (counts_else Input m g s owned h n) ]

-- a strong loan changes nothing of what devices hold
pub strong_held : (m : Memory) (g : ℕ) (s : IsSound m) (owned : is_owned (owner_at m.frames g) ≡ true) (h : ℕ) → is_held (counts_at (lent_more m Strong g).frames h) ≡ is_held (counts_at m.frames h)
strong_held m g s owned h = elim (same_or h g) [
  | inl e ↦ at_g Strong m g s owned is_held h e ∙ ap (λ n. is_held (counts_at m.frames n)) (sym e)
  | inr n ↦ ap is_held (counts_else Strong m g s owned h n)
]
