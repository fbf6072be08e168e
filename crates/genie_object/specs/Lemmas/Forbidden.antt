-- An entry that loses its permission to be written.
use Rattle.std.proofs.Common.{◌≡◌, ℕ, ◌<◌, Bool, true, false, List, refl, arith, ap, rules, length, sym, ◌∙◌, inl, inr, subst}
use Rattle.std.specs.Prelude.{◌==◌, Option, Some, None}
use Rattle.genie_frame.specs.declared.frame.Owner.TheVariants.{Page}
use Rattle.genie_frame.specs.FrameTable.{owner_at, counts_at}
use Rattle.genie_object.specs.declared.pages.PageId.{PageId}
use Rattle.genie_object.specs.declared.objects.Entry.{Entry}
use Rattle.genie_object.specs.declared.memory.Memory.{Memory}
use Rattle.genie_object.specs.Pages.{page_at}
use Rattle.genie_object.specs.Objects.{entry_at, object_at, names}
use Rattle.genie_object.specs.Memory.{seen, page_bytes, frame_of, entry_frame}
use Rattle.genie_object.specs.Sound.{IsSound, IsFramed, IsPrivate}
use Rattle.genie_object.specs.Steps.{forbidden}
use Rattle.genie_object.specs.Touching.{KeepsLoans, Touches, Narrows}
use Rattle.genie_object.specs.Lemmas.Touching.{as_many}
use Rattle.genie_object.specs.Lemmas.Lookup.{named}
use Rattle.genie_object.specs.Lemmas.Naming.{named_once}
use Rattle.genie_object.specs.Lemmas.Relocated.{frame_is}
use Rattle.genie_object.specs.Lemmas.Entries.{entry_same, entry_or, times_set, entries_size}

module _ (m : Memory) (o i : ℕ) (there : i < length (object_at m.objects o)) where
  abbrev new : Memory
  new = forbidden m o i

  abbrev entry : Entry
  entry = record (entry_at m.objects o i) { writable = false }

  at_here : (a b : ℕ) → a ≡ o → b ≡ i → entry_at new.objects a b ≡ entry
  at_here a b s t = ap (λ n. entry_at new.objects n b) s ∙ ap (entry_at new.objects o) t ∙ entry_same m.objects o i entry there

  was_here : (a b : ℕ) → a ≡ o → b ≡ i → entry_at m.objects a b ≡ entry_at m.objects o i
  was_here a b s t = ap (λ n. entry_at m.objects n b) s ∙ ap (entry_at m.objects o) t

  -- each entry names what it named, and permits no more
  pub narrows : (a b : ℕ) → Narrows (entry_at m.objects a b) (entry_at new.objects a b)
  narrows a b = elim (entry_or m.objects o i entry there a b) [
    | inl s ↦
        let now = at_here a b s.0 s.1 in
        let was = sym (was_here a b s.0 s.1) in
        record {
          page = ap (λ (e : Entry). e.page) now ∙ ap (λ (e : Entry). e.page) was;
          readable = λ h. ap (λ (e : Entry). e.readable) (sym was) ∙ sym (ap (λ (e : Entry). e.readable) now) ∙ h;
          writable = λ h. let bad : false ≡ true = sym (ap (λ (e : Entry). e.writable) now) ∙ h in cc;
        }
    | inr n ↦ record { page = ap (λ (e : Entry). e.page) n.1; readable = λ h. sym (ap (λ (e : Entry). e.readable) n.1) ∙ h; writable = λ h. sym (ap (λ (e : Entry). e.writable) n.1) ∙ h }
  ]

  pub unwritable_now : (entry_at new.objects o i).writable ≡ false
  unwritable_now = ap (λ (e : Entry). e.writable) (at_here o i refl refl)

  pub sound_forbidden : IsSound m → IsSound (forbidden m o i)
  sound_forbidden x = record {
    shaped = x.shaped;
    placed = x.placed;
    lent = x.lent;
    held = x.held;
    wired = x.wired;
    slotted = x.slotted;
    shared = record { counted = λ p. x.shared.counted p ∙ (let e = times_set m.objects o i entry there p in omega (arith, e)); spare = x.shared.spare };
    guarded = record {
      readable = λ a b h. let n = narrows a b in subst (IsFramed m.pages.pages) (sym n.page) (x.guarded.readable a b (n.readable h));
      writable = λ a b h. let n = narrows a b in subst (IsPrivate m.frames.counts m.pages.pages) (sym n.page) (x.guarded.writable a b (n.writable h));
    };
  }

  pub seen_forbidden : (slots : ℕ → List ℕ) → seen (forbidden m o i) slots ≡ seen m slots
  seen_forbidden slots = λ k. record { entry_bytes = λ a b. page_bytes m.frames m.pages.pages slots ((narrows a b).page k); kept_bytes = (seen m slots).kept_bytes }

  pub keeps_forbidden : KeepsLoans m (forbidden m o i)
  keeps_forbidden = record {
    entry_held = λ a b h e k. ap (frame_of m.pages.pages) ((narrows a b).page) ∙ e;
    held = λ h k. k;
    lent = λ h l. record { lent = l; bytes = refl; owner = inl refl };
    loans = λ h. as_many (counts_at m.frames h) (counts_at m.frames h) refl;
    systems = λ h. refl;
    entries = entries_size m.objects o i entry there;
    number = refl;
    page = refl;
    slots = refl;
    most = refl;
  }

  pub touches_forbidden : (spoken : ℕ → ℕ → Bool) → Touches spoken m (forbidden m o i)
  touches_forbidden spoken = record {
    entries = λ a b e. narrows a b;
    pages = λ r y. refl;
    outside = λ r y. record { there = y.there; named = λ a b e. y.named a b (ap (λ page. elim page as (λ _. Bool) [ None ↦ false | Some q ↦ q.0 == r ]) (sym (narrows a b).page) ∙ e) };
    counts = λ r f y e. refl;
  }

-- where one entry that names a page can't be written, no entry that names it can
pub others_unwritable : (m : Memory) (o i : ℕ) (p : PageId) → IsSound m → (entry_at m.objects o i).page ≡ Some p → (entry_at m.objects o i).writable ≡ false → (a b : ℕ) → names p.0 (entry_at m.objects a b) ≡ true → (entry_at m.objects a b).writable ≡ false
others_unwritable m o i p s is shut a b n = by_flag (entry_at m.objects a b).writable refl where
  by_flag : (v : Bool) → (entry_at m.objects a b).writable ≡ v → v ≡ false
  by_flag false w = refl
  by_flag true w =
      let h = s.guarded.writable a b w in
      let number : h.number.0 ≡ p.0 = names_page h.number p.0 (entry_at m.objects a b) h.is_page n in
      let same : h.number ≡ p = (λ k. record { 0 = number k }) in
      let one = named_once m.pages.pages m.objects a b o i p s.shared (ap (λ k. (page_at m.pages.pages k).shares) (sym number) ∙ h.alone) (h.is_page ∙ ap Some same) is in
      sym w ∙ (λ k. (entry_at m.objects (one.0 k) (one.1 k)).writable) ∙ shut
    where
      names_page : (q : PageId) (r : ℕ) (e : Entry) → e.page ≡ Some q → names r e ≡ true → q.0 ≡ r
      names_page q r e is t = let u : (q.0 == r) ≡ true = sym (ap (λ page. elim page as (λ _. Bool) [ None ↦ false | Some k ↦ k.0 == r ]) is) ∙ t in grind (arith, rules, u)

-- an entry whose page is in a page's frame names that page
pub names_owner : (m : Memory) (f a b : ℕ) (p : PageId) → IsSound m → owner_at m.frames f ≡ Page p.0 → entry_frame m a b ≡ Some f → names p.0 (entry_at m.objects a b) ≡ true
names_owner m f a b p s own at = by_page (entry_at m.objects a b).page refl at where
  by_page : (page : Option PageId) → (entry_at m.objects a b).page ≡ page → frame_of m.pages.pages page ≡ Some f → names p.0 (entry_at m.objects a b) ≡ true
  by_page None e h = cc
  by_page (Some q) e h =
      let y = frame_is (page_at m.pages.pages q.0).place f h in
      let two : Page q.0 ≡ Page p.0 = sym (s.placed.in_frame q.0 y.frame y.is) ∙ ap (owner_at m.frames) (sym y.number) ∙ own in
      let same : q.0 ≡ p.0 = cc in
      ap (λ n. names n (entry_at m.objects a b)) (sym same) ∙ named q (entry_at m.objects a b) e
