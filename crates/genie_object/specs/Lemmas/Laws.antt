-- The laws of steps, from the lemmas on each step.
use Rattle.std.proofs.Common.{◌≡◌, ◌≢◌, ℕ, ◌<◌, Bool, true, false, List, refl, arith, ap, rules, sym, ◌∙◌, inl, inr}
use Rattle.std.specs.Prelude.{◌==◌, Option, Some, None}
use Rattle.genie_base.specs.Lemmas.Places.{same_or}
use Rattle.genie_object.specs.declared.pages.Place.{Place}
use Rattle.genie_object.specs.declared.pages.Place.TheVariants.{Zero, Frame, Slot}
use Rattle.genie_object.specs.declared.pages.PageId.{PageId}
use Rattle.genie_object.specs.declared.memory.Memory.{Memory}
use Rattle.genie_object.specs.Pages.{page_at}
use Rattle.genie_object.specs.Objects.{entry_at}
use Rattle.genie_object.specs.Memory.{seen, see_entry, page_bytes, place_bytes}
use Rattle.genie_object.specs.Leaving.{is_object}
use Rattle.genie_object.specs.Laws.{GoesUnseen, PartsUnseen, SharesSoundly, DropsSoundly, LeavesSoundly, EmptiesSoundly, RemovesUnseen}
use Rattle.genie_object.specs.Lemmas.Lookup.{page_known, slot_taken}
use Rattle.genie_object.specs.Lemmas.Relocated.{seen_relocated}
use Rattle.genie_object.specs.Lemmas.Parted.{sound_parted, seen_parted}
use Rattle.genie_object.specs.Lemmas.Shared.{sound_shared, seen_shared, keeps_shared}
use Rattle.genie_object.specs.Lemmas.Dropped.{sound_dropped, shows_dropped, seen_dropped, keeps_dropped}
use Rattle.genie_object.specs.Lemmas.Left.{sound_left, seen_left, keeps_left}
use Rattle.genie_object.specs.Lemmas.Emptied.{can_drop, is_emptied, empties_none, empties_entry, shows_emptied, seen_emptied, keeps_emptied}
use Rattle.genie_object.specs.Lemmas.Removed.{removes, seen_removed}

-- the slot that a page goes to isn't another page's
pub goes_unseen : GoesUnseen
goes_unseen m p s slots now x same others = seen_relocated m p (Slot s) x slots now (λ g e. cc) same (λ q n. other_place (page_at m.pages.pages q).place q refl)
  where
    -- no page is in the slot
    spare : (q : ℕ) (r : ℕ) → (page_at m.pages.pages q).place ≡ Slot r → r ≢ s
    spare q r e w = let bad : true ≡ false = sym (slot_taken m.pages.pages m.slots q s (e ∙ ap Slot w) (page_known m q (some q r e)) x.sound.slotted) ∙ x.claim.free in cc
      where
        some : (q : ℕ) (r : ℕ) → (page_at m.pages.pages q).place ≡ Slot r → 0 < (page_at m.pages.pages q).shares
        some q r e = elim (same_or (page_at m.pages.pages q).shares 0) [
          | inl z ↦ let bad : Zero ≡ Slot r = sym (x.sound.shared.spare q z) ∙ e in cc
          | inr n ↦ omega (arith, n)
        ]

    other_place : (place : Place) (q : ℕ) → (page_at m.pages.pages q).place ≡ place → place_bytes m.frames now place ≡ place_bytes m.frames slots place
    other_place Zero q e = refl
    other_place (Frame f) q e = refl
    other_place (Slot r) q e = others r (spare q r e)

pub parts_unseen : PartsUnseen
parts_unseen m o i q g bytes x = record {
  sound = sound_parted m o i q x.renames g bytes x.there x.free x.full;
  shown = seen_parted m o i q x.renames g bytes x.there x.free x.full;
  zeroed = λ slots none e. seen_parted m o i q x.renames g bytes x.there x.free x.full slots (e ∙ sym (ap (page_bytes m.frames m.pages.pages slots) none));
}

-- an entry that names the page shows its bytes
shown_by : (m : Memory) (slots : ℕ → List ℕ) (p : ℕ) (page : Option PageId) → elim page as (λ _. Bool) [ None ↦ false | Some q ↦ q.0 == p ] ≡ true → place_bytes m.frames slots (page_at m.pages.pages p).place ≡ page_bytes m.frames m.pages.pages slots page
shown_by m slots p None e = cc
shown_by m slots p (Some q) e = let same : p ≡ q.0 = grind (arith, rules, e) in ap (λ n. place_bytes m.frames slots (page_at m.pages.pages n).place) same

pub shares_soundly : SharesSoundly
shares_soundly m o i p x = record {
  sound = sound_shared m o i p x;
  keeps = keeps_shared m o i p x;
  shown = λ slots a b e. seen_shared m o i p x slots ∙ ap (see_entry (seen m slots) o i) (shown_by m slots p (entry_at m.objects a b).page e);
}

pub drops_soundly : DropsSoundly
drops_soundly m o i p x = record {
  sound = sound_dropped m o i p x;
  shown = shows_dropped m o i p x;
  unheld = λ slots h. seen_dropped m o i p (can_drop m o i p h x) slots;
  keeps = λ h. keeps_dropped m o i p (can_drop m o i p h x);
}

pub leaves_soundly : LeavesSoundly
leaves_soundly m o i p x = record { sound = sound_left m o i p x; shown = seen_left m o i p x; keeps = keeps_left m o i p x }

pub empties_soundly : EmptiesSoundly
empties_soundly m o i s = record {
  empty = is_emptied m o i s;
  empties = empties_entry m o i s;
  shown = λ slots. shows_emptied m o i slots s;
  unheld = λ slots h. seen_emptied m o i slots s h;
  keeps = keeps_emptied m o i s;
}

pub removes_unseen : RemovesUnseen
removes_unseen m o slots s there empty =
    let x = empties_none (is_object o) m s in (removes m m o x there empty, seen_removed m m o x there empty slots)
