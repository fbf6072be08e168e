-- The entries of an object are emptied, one after the other.
use Rattle.std.proofs.Common.{◌≡◌, ℕ, ◌+◌, ◌<◌, ◌≤◌, true, false, List, refl, sym, ap, subst, arith, rules, ◌∙◌, length, ⊎_elim}
use Rattle.std.specs.Prelude.{Option, Some, None, count_by, ◌==◌}
use Rattle.std.proofs.lemmas.Bool.{cases_lt}
use Rattle.genie_base.specs.Lemmas.Places.{past_end, num, count_by-set}
use Rattle.genie_frame.specs.declared.frame.Counts.{Counts}
use Rattle.genie_frame.specs.declared.frame.FrameId.{FrameId}
use Rattle.genie_frame.specs.declared.frame.Owner.TheVariants.{Free}
use Rattle.genie_frame.specs.FrameTable.{FrameTable, counts_at, is_free, is_held, owner_at}
use Rattle.genie_frame.specs.Frames.{unowned}
use Rattle.genie_object.specs.declared.memory.Memory.{Memory}
use Rattle.genie_object.specs.declared.objects.Entry.{Entry}
use Rattle.genie_object.specs.Leaving.{Empties, IsEmpty, IsUnheld, emptied_entry, is_object, left_by, left_one}
use Rattle.genie_object.specs.Memory.{Seen, entry_frame, frame_in, frame_of, see_entry, seen, zeros}
use Rattle.genie_object.specs.Costs.{place_of}
use Rattle.genie_object.specs.Pages.{page_at}
use Rattle.genie_object.specs.declared.pages.PageId.{PageId}
use Rattle.genie_object.specs.declared.pages.Place.{Place}
use Rattle.genie_object.specs.declared.pages.Place.TheVariants.{Zero, Frame, Slot}
use Rattle.genie_object.specs.Steps.{left_owners}
use Rattle.genie_object.specs.Lemmas.Lookup.{frame_known}
use Rattle.genie_object.specs.Objects.{entry_at, object_at, no_entry}
use Rattle.genie_object.specs.Sound.{IsSound}
use Rattle.genie_object.specs.Touching.{KeepsLoans, is_entry}
use Rattle.genie_object.specs.Lemmas.Emptied.{empties_more, empties_none, empties_on, entry_object}
use Rattle.genie_object.specs.Lemmas.Removed.{empty_more}
use Rattle.genie_object.specs.Lemmas.Touching.{keeps_all, keeps_on}
use Rattle.genie_arrivals.specs.Clearing.{ClearsObject}

-- what was done when n entries are empty
pub record ClearsSoFar (old now : Memory) (o n : ℕ) : Type 0 where
  pub empties : Empties (is_object o) old now
  pub keeps : KeepsLoans old now
  pub empty : (j : ℕ) → j < n → IsEmpty now o j
  pub shows : (slots : ℕ → List ℕ) → (seen now slots).kept_bytes ≡ (seen old slots).kept_bytes
  pub unheld : (j : ℕ) → n ≤ j → IsUnheld now o j
  pub free : count_by is_free old.frames.owners ≤ count_by is_free now.frames.owners

-- no free frame is taken as a place is given up
free_left : (m : Memory) (place : Place) → ((f : FrameId) → place ≡ Frame f → (f.0 < length m.frames.owners) × (is_free (owner_at m.frames f.0) ≡ false)) → count_by is_free m.frames.owners ≤ count_by is_free (left_owners m.frames.owners m.frames.counts place)
free_left m Zero h = omega arith
free_left m (Slot s) h = omega arith
free_left m (Frame f) h = let k = h f refl in omega (arith, count_by-set is_free m.frames.owners f.0 (unowned (counts_at m.frames f.0)) Free k.0, ap num k.1)

free_by : (m : Memory) (o i : ℕ) (page : Option PageId) → IsSound m → count_by is_free m.frames.owners ≤ count_by is_free (left_by m o i page).frames.owners
free_by m o i None s = omega arith
free_by m o i (Some p) s = elim ((page_at m.pages.pages p.0).shares == 1) as (λ b. count_by is_free m.frames.owners ≤ count_by is_free (left_one m o i p b).frames.owners) [
  | true ↦ free_left m (page_at m.pages.pages p.0).place (λ f e. (frame_known m p.0 f s e, ap is_free (s.placed.in_frame p.0 f e)))
  | false ↦ omega arith
]

free_emptied : (m new : Memory) (o i : ℕ) → IsSound m → new ≡ emptied_entry m o i → count_by is_free m.frames.owners ≤ count_by is_free new.frames.owners
free_emptied m new o i s e = subst (λ (z : Memory). count_by is_free m.frames.owners ≤ count_by is_free z.frames.owners) (sym e) (free_by m o i (entry_at m.objects o i).page s)

pub clears_none : (m : Memory) (o : ℕ) → IsSound m → ((i : ℕ) → IsUnheld m o i) → ClearsSoFar m m o 0
clears_none m o s unheld = record { empties = empties_none (is_object o) m s; keeps = keeps_all m; empty = λ j l. absurd (omega (arith, l)); shows = λ slots. refl; unheld = λ j l. unheld j; free = omega arith }

not_entry : (o n j : ℕ) → n < j → is_entry o n o j ≡ false
not_entry o n j l = grind (arith, rules, l)

pub clears_more : (old now new : Memory) (o n : ℕ) → ClearsSoFar old now o n → Empties (is_entry o n) now new → IsEmpty new o n → (IsUnheld now o n → KeepsLoans now new) → (IsUnheld now o n → (slots : ℕ → List ℕ) → seen new slots ≡ see_entry (seen now slots) o n (zeros now.frames)) → new ≡ emptied_entry now o n → ClearsSoFar old new o (n + 1)
clears_more old now new o n h e empty keeps shows is =
    let here = h.unheld n (omega arith) in
    record {
      empties = empties_on (is_object o) old now new h.empties (empties_more (is_entry o n) (is_object o) now new (entry_object o n) e);
      keeps = keeps_on old now new h.keeps (keeps here);
      empty = empty_more now new o n e.touches empty h.empty;
      shows = λ slots. ap (λ (s : Seen). s.kept_bytes) (shows here slots) ∙ h.shows slots;
      unheld = λ j l f at.
          let narrow = e.touches.entries o j (not_entry o n j (omega (arith, l))) in
          let other = e.places o j (not_entry o n j (omega (arith, l))) in
          let was : entry_frame now o j ≡ Some f = still now new o j f narrow.page other at in
          subst (λ (c : Counts). is_held c ≡ false) (sym (ap (λ (t : FrameTable). counts_at t f) e.frames)) (h.unheld j (omega (arith, l)) f was);
      free = omega (arith, h.free, free_emptied now new o n h.empties.sound is);
    }
  where
    still : (now new : Memory) (o j f : ℕ) → (entry_at new.objects o j).page ≡ (entry_at now.objects o j).page → place_of new o j ≡ place_of now o j → entry_frame new o j ≡ Some f → entry_frame now o j ≡ Some f
    still now new o j f page place at = sym (framed now o j) ∙ ap frame_in (sym place) ∙ framed new o j ∙ at
      where
        framed : (m : Memory) (o j : ℕ) → frame_in (place_of m o j) ≡ entry_frame m o j
        framed m o j = elim ((entry_at m.objects o j).page) as (λ q. frame_in (elim q [ None ↦ Zero | Some p ↦ (page_at m.pages.pages p.0).place ]) ≡ frame_of m.pages.pages q) [ None ↦ refl | Some p ↦ refl ]

pub clears_all : (old now : Memory) (o n : ℕ) → n ≡ length (object_at old.objects o) → ClearsSoFar old now o n → ClearsObject old now o
clears_all old now o n size h = record {
  empties = h.empties;
  keeps = h.keeps;
  empty = λ i. ⊎_elim (λ l. h.empty i l) (λ (past : n ≤ i). let s = h.empties.sizes o in ap (λ (e : Entry). e.page) (past_end (object_at now.objects o) i no_entry (omega (arith, s, size, past)))) (cases_lt i n);
  shows = h.shows;
  free = h.free;
}
