-- Fresh frames that are lent leave a memory sound.
use Rattle.std.proofs.Common.{◌≡◌, ℕ, ◌+◌, ◌<◌, true, false, List, [], ap, sym, ◌∙◌, arith, rules, get_or, inl, inr}
use Rattle.std.specs.Prelude.{if◌then◌else◌}
use Rattle.genie_frame.specs.declared.frame.Owner.{Owner}
use Rattle.genie_frame.specs.declared.frame.Owner.TheVariants.{Free, Page}
use Rattle.genie_frame.specs.declared.frame.Counts.{Counts}
use Rattle.genie_frame.specs.FrameTable.{FrameTable, owner_at, counts_at, is_system, is_held, IsShaped, AreLoansOwned}
use Rattle.genie_object.specs.declared.memory.Memory.{Memory}
use Rattle.genie_object.specs.Objects.{entry_at}
use Rattle.genie_object.specs.Memory.{is_kept, page_bytes}
use Rattle.genie_object.specs.Sound.{IsSound, strong_at}
use Rattle.genie_plan.specs.Plans.{times}
use Rattle.genie_plan.specs.Buffers.{AreLentFresh}
use Rattle.genie_plan.specs.Lemmas.Ending.{some_or}
use Rattle.genie_plan.specs.Fresh.{ShowsBesides}

system_page : (o : Owner) (p : ℕ) → is_system o ≡ true → o ≡ Page p → ⊥
system_page o p e h = let bad : false ≡ true = sym (ap is_system h) ∙ e in cc

module _ (m : Memory) (t : FrameTable) (owner : Owner) (frames : List ℕ) (s : IsSound m) (system : is_system owner ≡ true) (x : AreLentFresh owner frames m.frames t) where
  abbrev new : Memory
  new = record m { frames = t }

  -- a frame that is none of them, or a fresh one
  page_else : (f p : ℕ) → owner_at t f ≡ Page p → (times frames f ≡ 0) × (owner_at m.frames f ≡ Page p)
  page_else f p e = elim (some_or (times frames f)) [
    | inl h ↦ absurd (system_page owner p system (sym (x.owned f h) ∙ e))
    | inr z ↦ (z, sym (x.others f z) ∙ e)
  ]

  page_still : (f p : ℕ) → owner_at m.frames f ≡ Page p → owner_at t f ≡ Page p
  page_still f p e = elim (some_or (times frames f)) [
    | inl h ↦ let bad : Free ≡ Page p = sym (x.were_free f h) ∙ e in cc
    | inr z ↦ x.others f z ∙ e
  ]

  counts_else : (f : ℕ) → times frames f ≡ 0 → counts_at t f ≡ counts_at m.frames f
  counts_else f z = let e : (counts_at m.frames f).input + times frames f ≡ (counts_at m.frames f).input = omega arith in x.counts f ∙ (λ k. record (counts_at m.frames f) { input = e k })

  strong_same : (f : ℕ) → strong_at t.counts f ≡ strong_at m.frames.counts f
  strong_same f = ap (λ (c : Counts). c.strong) (x.counts f)

  held_more : (c : Counts) (n : ℕ) → is_held c ≡ true → is_held (record c { input = c.input + n }) ≡ true
  held_more c n h = grind (arith, rules)

  pub fresh_sound : IsShaped t.page t.owners t.counts t.bytes → AreLoansOwned t.owners t.counts → IsSound (record m { frames = t })
  fresh_sound shaped lent = record {
    shaped = shaped;
    placed = record {
      in_frame = λ p f e. page_still f.0 p (s.placed.in_frame p f e);
      of_page = λ f p e. s.placed.of_page f p (page_else f.0 p e).1;
    };
    lent = lent;
    held = record {
      alone = λ f p e h. let o = page_else f p e in s.held.alone f p o.1 (sym (ap is_held (counts_else f o.0)) ∙ h);
      unlent = λ f e h. elim (some_or (times frames f)) [
        | inl w ↦ let bad : true ≡ false = sym system ∙ sym (ap is_system (x.owned f w)) ∙ e in cc
        | inr z ↦ strong_same f ∙ s.held.unlent f (sym (ap is_system (x.others f z)) ∙ e) (sym (ap is_held (counts_else f z)) ∙ h)
      ];
    };
    wired = λ f w.
        let old : 0 < (counts_at m.frames f).wires = omega (arith, w, ap (λ (c : Counts). c.wires) (x.counts f)) in
        ap is_held (x.counts f) ∙ held_more (counts_at m.frames f) (times frames f) (s.wired f old);
    slotted = s.slotted;
    shared = s.shared;
    guarded = record {
      readable = s.guarded.readable;
      writable = λ o i w. let h = s.guarded.writable o i w in record { number = h.number; frame = h.frame; is_page = h.is_page; is_place = h.is_place; alone = h.alone; unlent = strong_same h.frame.0 ∙ h.unlent };
    };
  }

  pub fresh_shows : ShowsBesides frames m (record m { frames = t })
  fresh_shows = record {
    entries = λ slots k a b. let u : FrameTable = record { page = x.page k; owners = t.owners; counts = t.counts; bytes = x.bytes k; meters = t.meters; landed = t.landed } in page_bytes u m.pages.pages slots (entry_at m.objects a b).page;
    others = λ slots f z k. if is_kept (x.others f z k) (counts_else f z k) then get_or (x.bytes k) f [] else [];
  }
