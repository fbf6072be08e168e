-- Write permission that is taken from the entries of an object.
use Rattle.std.proofs.Common.{◌≡◌, ℕ, ◌+◌, ◌<◌, ◌≤◌, false, List, refl, sym, ap, subst, arith, ◌∙◌, length, ⊎_elim}
use Rattle.std.proofs.lemmas.Bool.{cases_eq, cases_lt}
use Rattle.genie_base.specs.Lemmas.Places.{past_end, num}
use Rattle.genie_object.specs.declared.memory.Memory.{Memory}
use Rattle.genie_object.specs.declared.objects.Entry.{Entry}
use Rattle.genie_object.specs.Memory.{seen, page_bytes, frame_of}
use Rattle.genie_object.specs.Objects.{entry_at, object_at, set_entry, no_entry}
use Rattle.genie_object.specs.Sound.{IsSound, IsFramed, IsPrivate}
use Rattle.genie_object.specs.Touching.{KeepsLoans, Touches, Narrows}
use Rattle.genie_object.specs.Lemmas.Entries.{entry_same, entry_or, times_set, entries_size}
use Rattle.genie_object.specs.Lemmas.Touching.{keeps_all}
use Rattle.genie_hiding.specs.Lemmas.Naming.{names_same}
use Rattle.genie_arrivals.specs.Clearing.{NarrowsAll, Forbids}

narrows_none : (e : Entry) → Narrows e e
narrows_none e = record { page = refl; readable = λ h. h; writable = λ h. h }

narrows_nothing : (os : List (List Entry)) → NarrowsAll os os
narrows_nothing os = record { narrows = λ o i. narrows_none (entry_at os o i); sizes = λ o. refl; named = λ p. refl }

pub forbids_none : (o : ℕ) (os : List (List Entry)) → Forbids o 0 os os
forbids_none o os = record { all = narrows_nothing os; first = λ i l. absurd (omega (arith, l)) }

abbrev shut : Entry → Entry
shut e = record e { writable = false }

shut_narrows : (a b : Entry) → Narrows a b → Narrows a (shut b)
shut_narrows a b n = record { page = n.page; readable = n.readable; writable = λ h. absurd (cc) }

module _ (o i : ℕ) (old cur : List (List Entry)) (h : Forbids o i old cur) (l : i < length (object_at cur o)) where
  abbrev new : List (List Entry)
  new = set_entry cur o i (shut (entry_at cur o i))

  narrows_more : (a b : ℕ) → Narrows (entry_at old a b) (entry_at new a b)
  narrows_more a b = ⊎_elim
      (λ (s : (a ≡ o) × (b ≡ i)).
      let here : entry_at new a b ≡ shut (entry_at cur o i) = ap (λ n. entry_at new n b) s.0 ∙ ap (entry_at new o) s.1 ∙ entry_same cur o i (shut (entry_at cur o i)) l in
      let was : entry_at old a b ≡ entry_at old o i = ap (λ n. entry_at old n b) s.0 ∙ ap (entry_at old o) s.1 in
      subst (λ (e : Entry). Narrows (entry_at old a b) e) (sym here) (subst (λ (e : Entry). Narrows e (shut (entry_at cur o i))) (sym was) (shut_narrows (entry_at old o i) (entry_at cur o i) (h.all.narrows o i))))
      (λ n. subst (λ (e : Entry). Narrows (entry_at old a b) e) (sym n.1) (h.all.narrows a b))
      (entry_or cur o i (shut (entry_at cur o i)) l a b)

  first_more : (j : ℕ) → j < i + 1 → (entry_at new o j).writable ≡ false
  first_more j m = ⊎_elim
      (λ (s : (o ≡ o) × (j ≡ i)). ap (λ n. (entry_at new o n).writable) s.1 ∙ ap (λ (e : Entry). e.writable) (entry_same cur o i (shut (entry_at cur o i)) l))
      (λ n. ⊎_elim
      (λ (s : j ≡ i). ap (λ k. (entry_at new o k).writable) s ∙ ap (λ (e : Entry). e.writable) (entry_same cur o i (shut (entry_at cur o i)) l))
      (λ other. ap (λ (e : Entry). e.writable) n.1 ∙ h.first j (omega (arith, m, other)))
      (cases_eq j i))
      (entry_or cur o i (shut (entry_at cur o i)) l o j)

  -- one entry more
  forbids_next : Forbids o (i + 1) old new
  forbids_next = record {
    all = record {
      narrows = narrows_more;
      sizes = λ a. entries_size cur o i (shut (entry_at cur o i)) l a ∙ h.all.sizes a;
      named = λ p. let same = ap num (names_same p (shut (entry_at cur o i)) (entry_at cur o i) refl) in let was = h.all.named p in omega (arith, times_set cur o i (shut (entry_at cur o i)) l p, same, was);
    };
    first = first_more;
  }

pub forbids_more : (o i : ℕ) (old cur new : List (List Entry)) → Forbids o i old cur → i < length (object_at cur o) → new ≡ set_entry cur o i (shut (entry_at cur o i)) → Forbids o (i + 1) old new
forbids_more o i old cur new h l is = subst (Forbids o (i + 1) old) (sym is) (forbids_next o i old cur h l)

-- an entry past the end permits nothing
pub all_forbidden : (o n : ℕ) (old new : List (List Entry)) → n ≡ length (object_at old o) → Forbids o n old new → (i : ℕ) → (entry_at new o i).writable ≡ false
all_forbidden o n old new size h i = ⊎_elim (λ l. h.first i l) (λ (past : n ≤ i). let s = h.all.sizes o in ap (λ (e : Entry). e.writable) (past_end (object_at new o) i no_entry (omega (arith, s, size, past)))) (cases_lt i n)

-- the memory with such entries
abbrev pub with_entries : Memory → List (List Entry) → Memory
with_entries m os = record m { objects = os }

module _ (m : Memory) (os : List (List Entry)) (h : NarrowsAll m.objects os) where
  page_same : (o i : ℕ) → (entry_at os o i).page ≡ (entry_at m.objects o i).page
  page_same o i = (h.narrows o i).page

  pub narrowed_seen : (slots : ℕ → List ℕ) → seen (with_entries m os) slots ≡ seen m slots
  narrowed_seen slots = λ j. record { entry_bytes = λ o i. page_bytes m.frames m.pages.pages slots (page_same o i j); kept_bytes = (seen m slots).kept_bytes }

  pub narrowed_sound : IsSound m → IsSound (with_entries m os)
  narrowed_sound s = record {
    shaped = s.shaped;
    placed = s.placed;
    lent = s.lent;
    held = s.held;
    wired = s.wired;
    slotted = s.slotted;
    shared = record { counted = λ p. s.shared.counted p ∙ sym (h.named p); spare = s.shared.spare };
    guarded = record {
      readable = λ o i w. subst (IsFramed m.pages.pages) (sym (page_same o i)) (s.guarded.readable o i ((h.narrows o i).readable w));
      writable = λ o i w. subst (IsPrivate m.frames.counts m.pages.pages) (sym (page_same o i)) (s.guarded.writable o i ((h.narrows o i).writable w));
    };
  }

  pub narrowed_keeps : KeepsLoans m (with_entries m os)
  narrowed_keeps = let all = keeps_all m in record {
    entry_held = λ o i f e held. ap (frame_of m.pages.pages) (page_same o i) ∙ e;
    held = all.held;
    lent = all.lent;
    loans = all.loans;
    systems = all.systems;
    entries = h.sizes;
    number = refl;
    page = refl;
    slots = refl;
    most = refl;
  }

  -- it speaks of no entry
  pub narrowed_touches : Touches (λ o i. false) m (with_entries m os)
  narrowed_touches = record {
    entries = λ o i e. h.narrows o i;
    pages = λ p out. refl;
    outside = λ p out. record { there = out.there; named = λ o i n. refl };
    counts = λ p f out e. refl;
  }
