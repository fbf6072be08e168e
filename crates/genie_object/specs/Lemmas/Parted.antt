-- An entry that gets a page of its own in a free frame, with the bytes that it showed.
use Rattle.std.proofs.Common.{◌≡◌, ◌≢◌, ℕ, ◌<◌, true, false, List, arith, ap, length, sym, ◌∙◌, inl, inr}
use Rattle.std.specs.Prelude.{Some}
use Rattle.genie_frame.specs.declared.frame.FrameId.{FrameId}
use Rattle.genie_frame.specs.declared.frame.Owner.TheVariants.{Free}
use Rattle.genie_frame.specs.FrameTable.{owner_at, counts_at, is_held}
use Rattle.genie_object.specs.declared.pages.Place.TheVariants.{Zero, Frame}
use Rattle.genie_object.specs.declared.pages.PageInfo.{PageInfo}
use Rattle.genie_object.specs.declared.pages.PageId.{PageId}
use Rattle.genie_object.specs.declared.objects.Entry.{Entry}
use Rattle.genie_object.specs.declared.memory.Memory.{Memory}
use Rattle.genie_object.specs.Pages.{page_at}
use Rattle.genie_object.specs.Objects.{entry_at, names}
use Rattle.genie_object.specs.Memory.{seen, page_bytes}
use Rattle.genie_object.specs.Sound.{IsSound}
use Rattle.genie_object.specs.Steps.{filled, renamed, CanRename, fresh_entry}
use Rattle.genie_object.specs.Lemmas.Lookup.{named}
use Rattle.genie_object.specs.Lemmas.Entries.{entry_or, unnamed}
use Rattle.genie_object.specs.Lemmas.Filled.{sound_filled, bytes_here, bytes_other, kept_filled}
use Rattle.genie_object.specs.Lemmas.Renamed.{sound_renamed, bytes_renamed, of_q, here}

module _ (m : Memory) (o i q : ℕ) (x : CanRename m o i q) where
  abbrev base : Memory
  base = renamed m o i q

  pub fresh_some : 0 < (page_at base.pages.pages q).shares
  fresh_some = omega (arith, ap (λ (r : PageInfo). r.shares) (of_q m o i q x))

  pub fresh_unheld : (f : FrameId) → (page_at base.pages.pages q).place ≡ Frame f → is_held (counts_at m.frames f.0) ≡ false
  fresh_unheld f e = let bad : Zero ≡ Frame f = sym (ap (λ (r : PageInfo). r.place) (of_q m o i q x)) ∙ e in cc

  pub names_fresh : (entry_at base.objects o i).page ≡ Some (record { 0 = q })
  names_fresh = ap (λ (e : Entry). e.page) (here m o i q x)

  -- no entry named the page before
  pub names_older : (a c : ℕ) (r : PageId) → (entry_at m.objects a c).page ≡ Some r → r.0 ≢ q
  names_older a c r e s = let bad : true ≡ false = sym (ap (λ n. names n (entry_at m.objects a c)) (sym s) ∙ named r (entry_at m.objects a c) e) ∙ unnamed m q a c x.sound.shared (ap (λ (p : PageInfo). p.shares) x.spare) in cc

  module _ (g : FrameId) (b : List ℕ) (there : g.0 < length m.frames.owners) (free : owner_at m.frames g.0 ≡ Free) (full : length b ≡ m.frames.page) where
    abbrev new : Memory
    new = filled base q g b

    pub sound_parted : IsSound new
    sound_parted = sound_filled base q g b (sound_renamed m o i q x) fresh_some fresh_unheld there free full

    entry_bytes : (slots : ℕ → List ℕ) → b ≡ (seen m slots).entry_bytes o i → (a c : ℕ) → (seen new slots).entry_bytes a c ≡ (seen m slots).entry_bytes a c
    entry_bytes slots h a c = elim (entry_or m.objects o i (fresh_entry q) x.there a c) [
      | inl s ↦
          let is : (entry_at base.objects a c).page ≡ Some (record { 0 = q }) = ap (λ n. (entry_at base.objects n c).page) s.0 ∙ ap (λ n. (entry_at base.objects o n).page) s.1 ∙ names_fresh in
          ap (page_bytes new.frames new.pages.pages slots) is
          ∙ bytes_here base q g b (sound_renamed m o i q x) fresh_some fresh_unheld there free full slots
          ∙ h
          ∙ ap (λ n. (seen m slots).entry_bytes o n) (sym s.1) ∙ ap (λ n. (seen m slots).entry_bytes n c) (sym s.0)
      | inr n ↦
          ap (λ (e : Entry). page_bytes new.frames new.pages.pages slots e.page) n.1
          ∙ bytes_other base q g b (sound_renamed m o i q x) fresh_some fresh_unheld there free full slots (entry_at m.objects a c).page (names_older a c)
          ∙ bytes_renamed m o i q x slots (entry_at m.objects a c).page
    ]

    pub seen_parted : (slots : ℕ → List ℕ) → b ≡ (seen m slots).entry_bytes o i → seen (filled (renamed m o i q) q g b) slots ≡ seen m slots
    seen_parted slots h = λ k. record {
      entry_bytes = λ a c. entry_bytes slots h a c k;
      kept_bytes = λ f. kept_filled base q g b (sound_renamed m o i q x) fresh_some fresh_unheld there free full slots f k;
    }
