-- An object that is taken away.
use Rattle.std.proofs.Common.{◌≡◌, ◌≢◌, ℕ, ◌<◌, ◌+◌, Bool, true, false, List, [], arith, ap, rules, length, get_or, sym, ◌∙◌, subst, inl, inr, get_or-set_other, get_or-set_same}
use Rattle.std.specs.Prelude.{◌==◌, Option, Some, None, All, count_by}
use Rattle.std.proofs.lemmas.Bool.{cases_lt}
use Rattle.genie_base.specs.Lemmas.Places.{same_or, sum_by-set, any_default, past_end}
use Rattle.genie_object.specs.declared.objects.Entry.{Entry}
use Rattle.genie_object.specs.declared.memory.Memory.{Memory}
use Rattle.genie_object.specs.declared.pages.PageId.{PageId}
use Rattle.genie_object.specs.Objects.{entry_at, object_at, names, no_entry}
use Rattle.genie_object.specs.Memory.{seen, page_bytes}
use Rattle.genie_object.specs.Sound.{IsSound, IsFramed, IsPrivate, times_named}
use Rattle.genie_object.specs.Lemmas.PlaceOf.{place_in}
use Rattle.genie_object.specs.Lemmas.ObjectLaws.{object_in}
use Rattle.genie_object.specs.Touching.{Touches, is_entry}
use Rattle.genie_object.specs.Leaving.{removed, IsEmpty, Empties, Removes, is_object}
use Rattle.genie_object.specs.Lemmas.Lookup.{count_none}
use Rattle.genie_object.specs.Lemmas.Emptied.{other_entry}

names_none : (r : ℕ) (page : Option PageId) → page ≡ None → elim page as (λ _. Bool) [ None ↦ false | Some q ↦ q.0 == r ] ≡ false
names_none r page e = ap (λ p. elim p as (λ _. Bool) [ None ↦ false | Some q ↦ q.0 == r ]) e

module _ (old m : Memory) (o : ℕ) (x : Empties (is_object o) old m) (there : object_at m.objects o ≢ []) (empty : (i : ℕ) → i < length (object_at m.objects o) → IsEmpty m o i) where
  abbrev new : Memory
  new = removed m o

  known : o < length m.objects
  known = object_in m.objects o there

  gone : object_at new.objects o ≡ []
  gone = get_or-set_same m.objects o [] [] known

  row_other : (a : ℕ) → a ≢ o → object_at new.objects a ≡ object_at m.objects a
  row_other a n = get_or-set_other m.objects o a [] [] n

  entry_here : (b : ℕ) → entry_at new.objects o b ≡ no_entry
  entry_here b = ap (λ es. get_or es b no_entry) gone

  entry_other : (a b : ℕ) → a ≢ o → entry_at new.objects a b ≡ entry_at m.objects a b
  entry_other a b n = ap (λ es. get_or es b no_entry) (row_other a n)

  counted : (r : ℕ) → times_named new.objects r ≡ times_named m.objects r
  counted r =
      let none = count_none (names r) no_entry (object_at m.objects o) (λ k l. names_none r (entry_at m.objects o k).page (empty k l)) in
      let sums = sum_by-set (count_by (names r)) m.objects o [] [] known in
      omega (arith, none, sums)

  pub sound_removed : IsSound new
  sound_removed = let s = x.sound in record {
    shaped = s.shaped;
    placed = s.placed;
    lent = s.lent;
    held = s.held;
    wired = s.wired;
    slotted = s.slotted;
    shared = record { counted = λ r. s.shared.counted r ∙ sym (counted r); spare = s.shared.spare };
    guarded = record {
      readable = λ a b w. elim (same_or a o) [
        | inl e ↦ let bad : false ≡ true = sym (ap (λ n. (entry_at new.objects n b).readable) e ∙ ap (λ (t : Entry). t.readable) (entry_here b)) ∙ w in cc
        | inr n ↦ subst (λ (t : Entry). IsFramed m.pages.pages t.page) (sym (entry_other a b n)) (s.guarded.readable a b (ap (λ (t : Entry). t.readable) (sym (entry_other a b n)) ∙ w))
      ];
      writable = λ a b w. elim (same_or a o) [
        | inl e ↦ let bad : false ≡ true = sym (ap (λ n. (entry_at new.objects n b).writable) e ∙ ap (λ (t : Entry). t.writable) (entry_here b)) ∙ w in cc
        | inr n ↦ subst (λ (t : Entry). IsPrivate m.frames.counts m.pages.pages t.page) (sym (entry_other a b n)) (s.guarded.writable a b (ap (λ (t : Entry). t.writable) (sym (entry_other a b n)) ∙ w))
      ];
    };
  }

  -- an entry of the object is empty, and so is one that isn't there
  empty_any : (b : ℕ) → (entry_at m.objects o b).page ≡ None
  empty_any b = elim (cases_lt b (length (object_at m.objects o))) [ inl l ↦ empty b l | inr l ↦ ap (λ (t : Entry). t.page) (past_end (object_at m.objects o) b no_entry l) ]

  pub seen_removed : (slots : ℕ → List ℕ) → seen new slots ≡ seen m slots
  seen_removed slots = λ k. record { entry_bytes = λ a b. entry_bytes a b k; kept_bytes = (seen m slots).kept_bytes }
    where
      entry_bytes : (a b : ℕ) → (seen new slots).entry_bytes a b ≡ (seen m slots).entry_bytes a b
      entry_bytes a b = elim (same_or a o) [
        | inl e ↦ ap (λ n. page_bytes m.frames m.pages.pages slots (entry_at new.objects n b).page) e ∙ ap (λ (t : Entry). page_bytes m.frames m.pages.pages slots t.page) (entry_here b) ∙ sym (ap (page_bytes m.frames m.pages.pages slots) (empty_any b)) ∙ ap (λ n. page_bytes m.frames m.pages.pages slots (entry_at m.objects n b).page) (sym e)
        | inr n ↦ ap (λ (t : Entry). page_bytes m.frames m.pages.pages slots t.page) (entry_other a b n)
      ]

  apart : (a b : ℕ) → is_object o a b ≡ false → a ≢ o
  apart a b e = grind (arith, rules, e)

  pub removes : Removes o old new
  removes = record {
    sound = sound_removed;
    gone = gone;
    entries = λ slots a b e. ap (λ (t : Entry). page_bytes m.frames m.pages.pages slots t.page) (entry_other a b (apart a b e)) ∙ x.entries slots a b e;
    others = λ a b e. entry_other a b (apart a b e) ∙ x.others a b e;
    places = λ a b e. ap (λ (t : Entry). place_in m.pages.pages t.page) (entry_other a b (apart a b e)) ∙ x.places a b e;
    touches = record {
      entries = λ a b e. let n = entry_other a b (apart a b e) in let t = x.touches.entries a b e in record { page = ap (λ (t : Entry). t.page) n ∙ t.page; readable = λ w. t.readable (ap (λ (t : Entry). t.readable) (sym n) ∙ w); writable = λ w. t.writable (ap (λ (t : Entry). t.writable) (sym n) ∙ w) };
      pages = x.touches.pages;
      outside = λ r y. let z = x.touches.outside r y in record {
        there = z.there;
        named = λ a b e. elim (same_or a o) [
          | inl w ↦ let bad : false ≡ true = sym (ap (λ n. names r (entry_at new.objects n b)) w ∙ ap (names r) (entry_here b)) ∙ e in cc
          | inr n ↦ z.named a b (ap (names r) (sym (entry_other a b n)) ∙ e)
        ];
      };
      counts = x.touches.counts;
    };
    lent = x.lent;
    systems = x.systems;
    sizes = λ a n. ap length (row_other a n) ∙ x.sizes a;
    frames = x.frames;
    number = x.number;
    slots = x.slots;
    fewer = x.fewer;
    most = x.most;
  }

-- the entries up to this one are empty
pub empty_more : (old new : Memory) (o i : ℕ) → Touches (is_entry o i) old new → IsEmpty new o i → ((j : ℕ) → j < i → IsEmpty old o j) → (j : ℕ) → j < i + 1 → IsEmpty new o j
empty_more old new o i t e h j l = elim (same_or j i) [
  | inl s ↦ subst (IsEmpty new o) (sym s) e
  | inr n ↦ (t.entries o j (other_entry o i j n)).page ∙ h j (omega (arith, l, n))
]

-- an empty row passes what removal asks for
pub all_empty : (m : Memory) (o : ℕ) → ((i : ℕ) → i < length (object_at m.objects o) → IsEmpty m o i) → All (λ e. e.page ≡ None) (object_at m.objects o)
all_empty m o h = λ k d l. ap (λ (e : Entry). e.page) (any_default (object_at m.objects o) k d no_entry l) ∙ h k l
