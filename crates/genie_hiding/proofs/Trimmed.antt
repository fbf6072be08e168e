-- A region whose pages may stay hidden.
use Rattle.std.proofs.Common.{◌≡◌, ◌≢◌, ℕ, ◌<◌, ◌≤◌, ◌+◌, Bool, true, false, List, [], ◌∷◌, ◌++◌, length-append, refl, arith, ap, rules, length, get_or, sym, ◌∙◌, subst, inl, inr}
use Rattle.std.specs.Prelude.{◌==◌, Some}
use Rattle.genie_base.specs.Lemmas.Places.{same_or}
use Rattle.genie_frame.specs.declared.frame.FrameId.{FrameId}
use Rattle.genie_frame.specs.FrameTable.{counts_at, is_held}
use Rattle.genie_object.specs.declared.pages.Place.{Place}
use Rattle.genie_object.specs.declared.pages.Place.TheVariants.{Frame}
use Rattle.genie_object.specs.declared.pages.PageInfo.{PageInfo}
use Rattle.genie_object.specs.declared.pages.PageId.{PageId}
use Rattle.genie_object.specs.declared.memory.Memory.{Memory}
use Rattle.genie_object.specs.Pages.{page_at}
use Rattle.genie_object.specs.Objects.{entry_at, object_at}
use Rattle.genie_object.specs.Sound.{IsSound, IsCached, FitsHidden}
use Rattle.genie_object.specs.Lemmas.Showing.{named_within}
use Rattle.std.proofs.Math.ListN.{get_or-append}
use Rattle.std.proofs.Math.Seq.{get_or-append_seam}
use Rattle.std.proofs.lemmas.Bool.{cases_lt}
use Rattle.genie_hiding.specs.Hidden.{is_among}
use Rattle.genie_hiding.specs.Lemmas.Searching.{among_found}
use Rattle.genie_object.specs.Touching.{Touches, IsOutside, is_entry}
use Rattle.genie_object.specs.Lemmas.Lookup.{other_at}
use Rattle.genie_object.specs.Leaving.{is_object, Empties}
use Rattle.genie_hiding.specs.Trimming.{MayStay, IsTrimmed, Stays, AllStay}
use Rattle.genie_hiding.specs.Lemmas.Naming.{only_namer, names_page, cached_kept}
use Rattle.genie_object.specs.Lemmas.Emptied.{other_entry}

-- what may stay hidden may stay so after a call that doesn't speak of the entry
pub stays_trimmed : (spoken : ℕ → ℕ → Bool) (old new : Memory) (o j : ℕ) → IsSound old → Touches spoken old new → spoken o j ≡ false → IsTrimmed old o j → IsTrimmed new o j
stays_trimmed spoken old new o j s t q h p e =
    let was : (entry_at old.objects o j).page ≡ Some p = sym ((t.entries o j q).page) ∙ e in
    let y = h p was in
    let out : IsOutside spoken old p.0 = record {
      there = omega (arith, y.alone);
      named = λ a b n. let z = only_namer old p a b o j s y.alone (names_page p (entry_at old.objects a b) n) was in ap (λ k. spoken k b) z.0 ∙ ap (spoken o) z.1 ∙ q;
    } in
    let same = t.pages p.0 out in
    record {
      alone = ap (λ (r : PageInfo). r.shares) same ∙ y.alone;
      frame = y.frame;
      is_place = ap (λ (r : PageInfo). r.place) same ∙ y.is_place;
      unheld = ap is_held (t.counts p.0 y.frame out y.is_place) ∙ y.unheld;
    }

pub trimmed_more : (old new : Memory) (o i : ℕ) → IsSound old → Touches (is_entry o i) old new → IsTrimmed new o i → ((j : ℕ) → j < i → IsTrimmed old o j) → (j : ℕ) → j < i + 1 → IsTrimmed new o j
trimmed_more old new o i s t here' h j l = elim (same_or j i) [
  | inl e ↦ subst (IsTrimmed new o) (sym e) here'
  | inr n ↦ stays_trimmed (is_entry o i) old new o j s t (grind (arith, rules, n)) (h j (omega (arith, l, n)))
]

-- an object whose entries were trimmed fits the cache
pub cached_trimmed : (m : Memory) (o : ℕ) → 0 < length (object_at m.objects o) → ((i : ℕ) → i < length (object_at m.objects o) → IsTrimmed m o i) → IsCached m o
cached_trimmed m o some h = record {
  there = some;
  own = λ i q e. (y i q e).alone;
  frame = λ i q e. (y i q e).frame;
  in_frame = λ i q e. (y i q e).is_place;
  unheld = λ i q e. (y i q e).unheld;
} where
  y : (i : ℕ) (q : PageId) → (entry_at m.objects o i).page ≡ Some q → MayStay m q.0
  y i q e = h i (named_within m.objects o i q e).1 q e

-- one region more is hidden
pub fits_more : (hidden : List ℕ) (old new : Memory) (o : ℕ) → IsSound old → FitsHidden old hidden → Empties (is_object o) old new → is_among o hidden ≡ false → IsCached new o → FitsHidden new (hidden ++ o ∷ [])
fits_more hidden old new o s f x n c = record {
  cached = λ k l. elim (cases_lt k (length hidden)) [
    | inl h ↦ subst (IsCached new) (sym (get_or-append hidden (o ∷ []) 0 k h)) (cached_kept (is_object o) old new (get_or hidden k 0) s x.touches (x.sizes (get_or hidden k 0)) (λ i q e. other k h) (f.cached k h))
    | inr h ↦ subst (IsCached new) (sym (at_end k l h)) c
  ];
  apart = λ j k lj lk e. elim (cases_lt j (length hidden)) [
    | inl hj ↦ elim (cases_lt k (length hidden)) [
      | inl hk ↦ f.apart j k hj hk (sym (get_or-append hidden (o ∷ []) 0 j hj) ∙ e ∙ get_or-append hidden (o ∷ []) 0 k hk)
      | inr hk ↦ absurd (differs j hj (sym (get_or-append hidden (o ∷ []) 0 j hj) ∙ e ∙ at_end k lk hk))
    ]
    | inr hj ↦ elim (cases_lt k (length hidden)) [
      | inl hk ↦ absurd (differs k hk (sym (get_or-append hidden (o ∷ []) 0 k hk) ∙ sym e ∙ at_end j lj hj))
      | inr hk ↦ omega (arith, lj, lk, hj, hk, length-append hidden (o ∷ []))
    ]
  ];
} where
  at_end : (k : ℕ) → k < length (hidden ++ o ∷ []) → length hidden ≤ k → get_or (hidden ++ o ∷ []) k 0 ≡ o
  at_end k l h = let same : k ≡ length hidden = omega (arith, l, h, length-append hidden (o ∷ [])) in ap (λ n. get_or (hidden ++ o ∷ []) n 0) same ∙ get_or-append_seam hidden o [] 0

  differs : (k : ℕ) → k < length hidden → get_or hidden k 0 ≢ o
  differs k l e = let bad : true ≡ false = sym (among_found hidden k l) ∙ ap (λ a. is_among a hidden) e ∙ n in cc

  other : (k : ℕ) → k < length hidden → (get_or hidden k 0 == o) ≡ false
  other k l = other_at (get_or hidden k 0) o (λ e. differs k l (sym e))

pub may_not : (m : Memory) (p : ℕ) → 1 < (page_at m.pages.pages p).shares → MayStay m p → true ≡ false
may_not m p l y = absurd (omega (arith, l, y.alone))

pub may_in : (m : Memory) (p : ℕ) (place : Place) → (page_at m.pages.pages p).place ≡ place → ((f : FrameId) → place ≡ Frame f → is_held (counts_at m.frames f.0) ≡ true) → MayStay m p → true ≡ false
may_in m p place e h y = sym (h y.frame (sym e ∙ y.is_place)) ∙ y.unheld

pub stays_all : (m : Memory) (o : ℕ) → AllStay m m o
stays_all m o i p e y = record { is_page = e; same = refl; may = y }

-- one entry was trimmed
pub stays_more : (old mid after : Memory) (o i : ℕ) → IsSound mid → Touches (is_entry o i) mid after → ((p : PageId) → (entry_at mid.objects o i).page ≡ Some p → MayStay mid p.0 → after ≡ mid) → AllStay old mid o → AllStay old after o
stays_more old mid after o i s t kept x j p e y =
    let z = x j p e y in
    elim (same_or j i) [
      | inl w ↦
          let same : after ≡ mid = kept p (ap (λ n. (entry_at mid.objects o n).page) (sym w) ∙ z.is_page) z.may in
          subst (λ n. Stays old n o j p) (sym same) z
      | inr n ↦
          let quiet = other_entry o i j n in
          let now : (entry_at after.objects o j).page ≡ Some p = (t.entries o j quiet).page ∙ z.is_page in
          let may = z.may in
          let out : IsOutside (is_entry o i) mid p.0 = record {
            there = omega (arith, may.alone);
            named = λ a b w. let u = only_namer mid p a b o j s may.alone (names_page p (entry_at mid.objects a b) w) z.is_page in ap (λ k. is_entry o i k b) u.0 ∙ ap (is_entry o i o) u.1 ∙ quiet;
          } in
          let same = t.pages p.0 out in
          record {
            is_page = now;
            same = same ∙ z.same;
            may = record {
              alone = ap (λ (r : PageInfo). r.shares) same ∙ may.alone;
              frame = may.frame;
              is_place = ap (λ (r : PageInfo). r.place) same ∙ may.is_place;
              unheld = ap is_held (t.counts p.0 may.frame out may.is_place) ∙ may.unheld;
            };
          }
    ]
