-- The loans of a plan end in a memory.
use Rattle.std.proofs.Common.{◌≡◌, ℕ, ◌+◌, ◌<◌, Bool, true, false, List, [], refl, ap, sym, ◌∙◌, arith, rules, get_or, inl, inr, ◌⊎◌}
use Rattle.std.specs.Prelude.{nat_lt, if◌then◌else◌}
use Rattle.genie_frame.specs.declared.frame.Owner.{Owner}
use Rattle.genie_frame.specs.declared.frame.Owner.TheVariants.{Free, Page, System, Pool, Nobody}
use Rattle.genie_frame.specs.declared.frame.Counts.{Counts}
use Rattle.genie_frame.specs.FrameTable.{FrameTable, owner_at, counts_at, bytes_at, is_system, is_held, is_lent, IsShaped, AreLoansOwned}
use Rattle.genie_frame.specs.Frames.{unowned}
use Rattle.genie_object.specs.declared.memory.Memory.{Memory}
use Rattle.genie_object.specs.Objects.{entry_at}
use Rattle.genie_object.specs.Memory.{is_kept, page_bytes}
use Rattle.genie_object.specs.Sound.{IsSound, strong_at}
use Rattle.genie_plan.specs.Loans.{Loan, less, let_go, Ended}
use Rattle.genie_plan.specs.Lemmas.Ending.{some_or, frame_times}
use Rattle.genie_plan.specs.Ending.{CanEnd, ShowsStill, EndsSoundly, ShowsAfterEnd}

chosen : (b : Bool) (P : Owner → Type 0) → P Nobody → P Free → P (if b then Nobody else Free)
chosen true P a b = a
chosen false P a b = b

unowned_page : (c : Counts) (p : ℕ) → unowned c ≡ Page p → ⊥
unowned_page c p = chosen (is_lent c) (λ o. o ≡ Page p → ⊥) (λ e. cc) (λ e. cc)

go_page : (o : Owner) (c : Counts) (p : ℕ) → let_go o c ≡ Page p → o ≡ Page p
go_page Free c p e = cc
go_page (Page q) c p e = e
go_page (System t) c p e = absurd (unowned_page c p e)
go_page (Pool d) c p e = absurd (unowned_page c p e)
go_page Nobody c p e = absurd (unowned_page c p e)

held_some : (d : Counts) → is_held d ≡ true → 0 < d.weak + d.input
held_some d h = grind (arith, rules)

held_by : (c : Counts) → 0 < c.weak + c.input → is_held c ≡ true
held_by c h = grind (arith, rules)

less_held : (loans : List Loan) (f : ℕ) (c : Counts) → is_held (less loans f c) ≡ true → is_held c ≡ true
less_held loans f c h = let some = held_some (less loans f c) h in held_by c (omega arith)

bool_or : (b : Bool) → (b ≡ true) ⊎ (b ≡ false)
bool_or true = inl refl
bool_or false = inr refl

unlent_held : (c : Counts) → is_lent c ≡ false → is_held c ≡ false
unlent_held c e = grind (arith, rules)

module _ (m : Memory) (t : FrameTable) (loans : List Loan) (x : Ended loans m.frames t) where
  was_page : (f p : ℕ) → owner_at t f ≡ Page p → owner_at m.frames f ≡ Page p
  was_page f p e = elim (some_or (frame_times loans f)) [
    | inl h ↦ go_page (owner_at m.frames f) (counts_at t f) p (sym (x.owners f h) ∙ e)
    | inr z ↦ sym (x.others f z) ∙ e
  ]

  page_still : (f p : ℕ) → owner_at m.frames f ≡ Page p → owner_at t f ≡ Page p
  page_still f p e = elim (some_or (frame_times loans f)) [
    | inl h ↦ x.owners f h ∙ ap (λ o. let_go o (counts_at t f)) e
    | inr z ↦ x.others f z ∙ e
  ]

  held_was : (f : ℕ) → is_held (counts_at t f) ≡ true → is_held (counts_at m.frames f) ≡ true
  held_was f h = less_held loans f (counts_at m.frames f) (sym (ap is_held (x.counts f)) ∙ h)

  strong_less : (f : ℕ) → strong_at m.frames.counts f ≡ 0 → strong_at t.counts f ≡ 0
  strong_less f z = ap (λ (c : Counts). c.strong) (x.counts f) ∙ omega arith

  system_now : (can : CanEnd loans m.frames t) (f : ℕ) → is_held (counts_at t f) ≡ true → is_system (owner_at t f) ≡ false → is_system (owner_at m.frames f) ≡ false
  system_now can f h e = elim (bool_or (is_system (owner_at m.frames f))) [
    | inr n ↦ n
    | inl y ↦ elim (some_or (frame_times loans f)) [
      | inr z ↦ ap is_system (sym (x.others f z)) ∙ e
      | inl w ↦ let bad : false ≡ true = sym (unlent_held (counts_at t f) (can.buffers f w y)) ∙ h in cc
    ]
  ]

  pub sound_ended : IsSound m → IsShaped t.page t.owners t.counts t.bytes → AreLoansOwned t.owners t.counts → CanEnd loans m.frames t → IsSound (record m { frames = t })
  sound_ended s shaped lent can = record {
    shaped = shaped;
    placed = record {
      in_frame = λ p f e. page_still f.0 p (s.placed.in_frame p f e);
      of_page = λ f p e. s.placed.of_page f p (was_page f.0 p e);
    };
    lent = lent;
    held = record {
      alone = λ f p e h. s.held.alone f p (was_page f p e) (held_was f h);
      unlent = λ f e h. strong_less f (s.held.unlent f (system_now can f h e) (held_was f h));
    };
    wired = can.wired;
    slotted = s.slotted;
    shared = s.shared;
    guarded = record {
      readable = s.guarded.readable;
      writable = λ o i w. let h = s.guarded.writable o i w in record { number = h.number; frame = h.frame; is_page = h.is_page; is_place = h.is_place; alone = h.alone; unlent = strong_less h.frame.0 h.unlent };
    };
  }

  -- a frame that is seen by itself now was so before
  kept_go : (o : Owner) (c d : Counts) → (0 < d.strong → 0 < c.strong) → is_kept (let_go o d) d ≡ true → is_kept o c ≡ true
  kept_go Free c d h k = k
  kept_go (Page p) c d h k = kept_page c d h k
    where
      kept_page : (c d : Counts) → (0 < d.strong → 0 < c.strong) → nat_lt 0 d.strong ≡ true → nat_lt 0 c.strong ≡ true
      kept_page c d h k = let w : 0 < d.strong = grind (arith, rules) in let v = h w in grind (arith, rules)
  kept_go (System q) c d h k = refl
  kept_go (Pool q) c d h k = refl
  kept_go Nobody c d h k = refl

  kept_same : (o : Owner) (c d : Counts) → (0 < d.strong → 0 < c.strong) → is_kept o d ≡ true → is_kept o c ≡ true
  kept_same Free c d h k = k
  kept_same (Page p) c d h k = kept_go (Page p) c d h k
  kept_same (System q) c d h k = refl
  kept_same (Pool q) c d h k = refl
  kept_same Nobody c d h k = refl

  strong_was : (f : ℕ) → 0 < (counts_at t f).strong → 0 < (counts_at m.frames f).strong
  strong_was f h = omega (arith, h, ap (λ (c : Counts). c.strong) (x.counts f))

  kept_was : (f : ℕ) → is_kept (owner_at t f) (counts_at t f) ≡ true → is_kept (owner_at m.frames f) (counts_at m.frames f) ≡ true
  kept_was f k = elim (some_or (frame_times loans f)) [
    | inl h ↦ kept_go (owner_at m.frames f) (counts_at m.frames f) (counts_at t f) (strong_was f) (sym (ap (λ o. is_kept o (counts_at t f)) (x.owners f h)) ∙ k)
    | inr z ↦ kept_same (owner_at m.frames f) (counts_at m.frames f) (counts_at t f) (strong_was f) (sym (ap (λ o. is_kept o (counts_at t f)) (x.others f z)) ∙ k)
  ]

  pub shows_ended : ShowsStill m (record m { frames = t })
  shows_ended = record {
    entries = λ slots k a b. let u : FrameTable = record { page = x.page k; owners = t.owners; counts = t.counts; bytes = x.bytes k; meters = t.meters; landed = t.landed } in page_bytes u m.pages.pages slots (entry_at m.objects a b).page;
    still = λ slots f k. ap (λ v. if v then bytes_at t f else []) k ∙ ap (λ bs. get_or bs f []) x.bytes ∙ sym (ap (λ v. if v then bytes_at m.frames f else []) (kept_was f k));
    gone = λ slots f k. ap (λ v. if v then bytes_at t f else []) k;
  }

pub ends_soundly : EndsSoundly
ends_soundly m t loans s shaped lent x can = sound_ended m t loans x s shaped lent can

pub shows_after : ShowsAfterEnd
shows_after m t loans x = shows_ended m t loans x
