-- Strong loans that begin or end on a page's frame.
use Rattle.std.proofs.Common.{◌≡◌, ◌≢◌, ℕ, ◌<◌, true, false, refl, arith, ap, length, set, sym, ◌∙◌, subst, inl, inr, get_or-set_same, get_or-set_other, length-set}
use Rattle.std.specs.Prelude.{Some}
use Rattle.std.proofs.lemmas.List.{set-get_or}
use Rattle.genie_base.specs.Lemmas.Places.{same_or}
use Rattle.genie_frame.specs.declared.frame.Owner.TheVariants.{Free, Page, Nobody}
use Rattle.genie_frame.specs.declared.frame.Counts.{Counts}
use Rattle.genie_frame.specs.FrameTable.{owner_at, counts_at, is_held, is_lent, no_counts, set_counts}
use Rattle.genie_frame.specs.Frames.{left_to, loan_ended, one_output_less}
use Rattle.genie_object.specs.declared.memory.Memory.{Memory}
use Rattle.genie_object.specs.Memory.{frame_of, frame_in}
use Rattle.genie_object.specs.Sound.{IsSound}
use Rattle.genie_object.specs.Laws.{LendsSoundly, CanLendStrong}
use Rattle.genie_object.specs.Lemmas.Lookup.{in_range}

module _ (m : Memory) (f p n : ℕ) (x : CanLendStrong m f p) where
  abbrev left : Counts
  left = record (counts_at m.frames f) { strong = n }

  abbrev new : Memory
  new = record m { frames = set_counts m.frames f left }

  there : f < length m.frames.counts
  there = let l = in_range m.frames.owners f Free (λ e. let bad : Free ≡ Page p = sym e ∙ x.owner in cc) in omega (arith, l, x.sound.shaped.counted)

  here : counts_at new.frames f ≡ left
  here = get_or-set_same m.frames.counts f left no_counts there

  elsewhere : (g : ℕ) → g ≢ f → counts_at new.frames g ≡ counts_at m.frames g
  elsewhere g d = get_or-set_other m.frames.counts f g left no_counts d

  -- nothing but strong loans changes
  same_at : {X : Type 0} (q : Counts → X) → ((c : Counts) (k : ℕ) → q (record c { strong = k }) ≡ q c) → (g : ℕ) → q (counts_at new.frames g) ≡ q (counts_at m.frames g)
  same_at q e g = elim (same_or g f) [
    | inl s ↦ ap (λ k. q (counts_at new.frames k)) s ∙ ap q here ∙ e (counts_at m.frames f) n ∙ ap (λ k. q (counts_at m.frames k)) (sym s)
    | inr d ↦ ap q (elsewhere g d)
  ]

  held_same : (g : ℕ) → is_held (counts_at new.frames g) ≡ is_held (counts_at m.frames g)
  held_same = same_at is_held (λ c k. refl)

  wires_same : (g : ℕ) → (counts_at new.frames g).wires ≡ (counts_at m.frames g).wires
  wires_same = same_at (λ (c : Counts). c.wires) (λ c k. refl)

  not_held : (g : ℕ) → g ≡ f → is_held (counts_at new.frames g) ≡ true → true ≡ false
  not_held g s h = sym h ∙ held_same g ∙ ap (λ k. is_held (counts_at m.frames k)) s ∙ x.unheld

  pub sound_strong : IsSound new
  sound_strong = record {
    shaped = record { size = x.sound.shaped.size; some = x.sound.shaped.some; most = x.sound.shaped.most; counted = length-set m.frames.counts f left ∙ x.sound.shaped.counted; filled = x.sound.shaped.filled; paged = x.sound.shaped.paged };
    placed = x.sound.placed;
    lent = λ g. elim (same_or g f) [
      | inl s ↦ record {
        free = λ w. let bad : Page p ≡ Free = sym x.owner ∙ ap (owner_at m.frames) (sym s) ∙ w in cc;
        nobody = λ w. let bad : Page p ≡ Nobody = sym x.owner ∙ ap (owner_at m.frames) (sym s) ∙ w in cc;
      }
      | inr d ↦ record { free = λ w. ap is_lent (elsewhere g d) ∙ (x.sound.lent g).free w; nobody = λ w. ap is_lent (elsewhere g d) ∙ (x.sound.lent g).nobody w }
    ];
    held = record {
      alone = λ g q w h. x.sound.held.alone g q w (sym (held_same g) ∙ h);
      unlent = λ g w h. elim (same_or g f) [
        | inl s ↦ let bad : true ≡ false = not_held g s h in cc
        | inr d ↦ ap (λ (c : Counts). c.strong) (elsewhere g d) ∙ x.sound.held.unlent g w (sym (held_same g) ∙ h)
      ];
    };
    wired = λ g w. held_same g ∙ x.sound.wired g (omega (arith, w, wires_same g));
    slotted = x.sound.slotted;
    shared = x.sound.shared;
    guarded = record {
      readable = x.sound.guarded.readable;
      writable = λ a b w.
          let h = x.sound.guarded.writable a b w in
          record {
            number = h.number;
            frame = h.frame;
            is_page = h.is_page;
            is_place = h.is_place;
            alone = h.alone;
            unlent = elim (same_or h.frame.0 f) [
              | inl s ↦ let bad : true ≡ false = sym w ∙ x.unwritable a b (ap (frame_of m.pages.pages) h.is_page ∙ ap frame_in h.is_place ∙ ap Some s) in cc
              | inr d ↦ ap (λ (c : Counts). c.strong) (elsewhere h.frame.0 d) ∙ h.unlent
            ];
          };
    };
  }

-- the owner stays the page as a loan ends
ended_same : (m : Memory) (f p : ℕ) (left : Counts) → owner_at m.frames f ≡ Page p → record m { frames = loan_ended m.frames f left } ≡ record m { frames = set_counts m.frames f left }
ended_same m f p left e =
    let same : left_to (owner_at m.frames f) left ≡ owner_at m.frames f = ap (λ o. left_to o left) e ∙ sym e in
    λ k. record m { frames = record (set_counts m.frames f left) { owners = (ap (set m.frames.owners f) same ∙ set-get_or m.frames.owners f Free) k } }

pub lends_soundly : LendsSoundly
lends_soundly m f p x = record {
  begins = sound_strong m f p _ x;
  ends = subst IsSound (sym (ended_same m f p (one_output_less true (counts_at m.frames f)) x.owner)) (sound_strong m f p _ x);
}
