-- The objects of regions, copied one after another.
use Rattle.std.proofs.Common.{◌≡◌, ◌≢◌, ℕ, take, ◌++◌, ◌+◌, ◌-◌, ◌*◌, ◌<◌, ◌≤◌, ◌^◌, zero, suc, true, false, List, [], ◌∷◌, refl, arith, ap, length, get_or, sym, ◌∙◌, subst, ⊎_elim, eq-eqb, eqb-true}
use Rattle.std.specs.Prelude.{◌==◌, ◌||◌, Option, Some, None, find, slice_get, sum_by}
use Rattle.std.specs.List.{AllPairs, list_any}
use Rattle.std.proofs.lemmas.Bool.{cases_Bool, cases_eq, or_parts}
use Rattle.std.proofs.lemmas.List.{take_more}
use Rattle.std.proofs.lemmas.List.Sums.{sum_by-append, sum_by-cons}
use Rattle.genie_frame.specs.declared.frame.Meters.{Meters}
use Rattle.genie_store.specs.StoreView.{StoreView}
use Rattle.genie_object.specs.declared.memory.Memory.{Memory}
use Rattle.genie_object.specs.Costs.{AreBelow, Spends}
use Rattle.genie_object.specs.Leaving.{IsEmpty, IsUnheld, is_object}
use Rattle.genie_object.specs.Objects.{entry_at, object_at}
use Rattle.genie_object.specs.Sound.{IsSound, IsSized, FitsHidden}
use Rattle.genie_object.specs.Lemmas.Spending.{spends_more, spends_none, spends_on, below_spent}
use Rattle.genie_object.specs.Lemmas.Works.{below_more}
use Rattle.genie_region.specs.declared.region.Region.{Region}
use Rattle.genie_region.specs.Layouts.{starts_at}
use Rattle.genie_hiding.specs.declared.hidden.Hidden.{Hidden}
use Rattle.genie_hiding.specs.Hidden.{is_among, objects_of}
use Rattle.genie_sharing.specs.Copying.{Copies, CopiesObject, copies_work}
use Rattle.genie_sharing.specs.Regions.{AreCopies, CopiesRegions, IsCopyOf, ShowsRegion, has_object, is_copied, region_work}
use Rattle.genie_sharing.specs.Lemmas.Composing.{copies_more, copies_none, copies_on}
use Rattle.genie_sharing.proofs.Looping.{other_object, unheld_kept, work_kept, works_most}

-- the first n copies show their regions, and the rest are empty
pub record AreCopying (was is : List Hidden) (regions copies : List Region) (n : ℕ) (old new : Memory) (v w : StoreView) : Type 0 where
  pub entries : Copies (objects_of was) (is_copied copies) old new v w
  pub done : (j : ℕ) (d : Region) → j < n → j < length copies → ShowsRegion old new entries.source regions (get_or copies j d)
  pub rest : (j i : ℕ) (d : Region) → n ≤ j → j < length copies → IsEmpty new (get_or copies j d).object.0 i
  pub cache : is ≡ was
  pub steady : w.faults ≡ v.faults
  pub meters : Spends (sum_by (region_work old regions) (take n copies)) 0 (2 ^ 19 * n) (64 * n) old.frames.meters new.frames.meters
  pub most : sum_by (region_work old regions) (take n copies) ≤ 2 ^ 18 * n

pub copying_none : (was : List Hidden) (regions copies : List Region) (m : Memory) (v : StoreView) → IsSound m → IsSized m v → FitsHidden m (objects_of was) → AreCopies m (objects_of was) regions copies → AreCopying was was regions copies 0 m m v v
copying_none was regions copies m v sound sized fits are = record {
  entries = copies_none (objects_of was) (is_copied copies) m v sound sized fits;
  done = λ j d l there. absurd (omega (arith, l));
  rest = λ j i d l there. (are.each j d there).empty i;
  cache = refl;
  steady = refl;
  meters = spends_none 0 0 0 0 m.frames.meters;
  most = omega arith;
}

pub got_at : (xs : List Region) (i : ℕ) (x d : Region) → slice_get xs i ≡ Some x → (i < length xs) × (get_or xs i d ≡ x)
got_at [] i x d e = absurd (cc)
got_at (y ∷ xs) zero x d e = (omega arith, cc)
got_at (y ∷ xs) (suc i) x d e = let later = got_at xs i x d e in (omega (arith, later.0), later.1)

sum_joined : (g : Region → ℕ) (xs ys : List Region) → sum_by g (xs ++ ys) ≡ sum_by g xs + sum_by g ys
sum_joined g xs ys = sum_by-append g xs ys

sum_next : (g : Region → ℕ) (xs : List Region) (i : ℕ) (x : Region) → slice_get xs i ≡ Some x → sum_by g (take (i + 1) xs) ≡ sum_by g (take i xs) + g x
sum_next g xs i x at =
    let got = got_at xs i x x at in
    let one : sum_by g (get_or xs i x ∷ []) ≡ g x = (let c = sum_by-cons g (get_or xs i x) [] in omega (arith, c, ap g got.1)) in
    omega (arith, ap (sum_by g) (take_more xs i x got.0), sum_joined g (take i xs) (get_or xs i x ∷ []), one)

-- as much as all pages at most
region_most : (m : Memory) (regions : List Region) (c r : Region) → m.frames.page ≤ 4096 → find (starts_at c.start) regions ≡ Some r → length (object_at m.objects r.object.0) ≤ 64 → region_work m regions c ≤ 2 ^ 18
region_most m regions c r small found long =
    let is = ap (λ (o : Option Region). elim o as (λ _. ℕ) [ None ↦ 0 | Some q ↦ copies_work m q.object.0 (length (object_at m.objects q.object.0)) ]) found in
    let most = works_most m r.object.0 (length (object_at m.objects r.object.0)) small in
    omega (arith, is, most, long)

sum_take : (g : Region → ℕ) (n : ℕ) (xs : List Region) → sum_by g (take n xs) ≤ sum_by g xs
sum_take g zero xs = omega arith
sum_take g (suc n) [] = omega arith
sum_take g (suc n) (x ∷ xs) = let rest = sum_take g n xs in omega (arith, rest, sum_by-cons g x xs, sum_by-cons g x (take n xs))

-- a copy's entries are among those of the copies
among : (copies : List Region) (j : ℕ) (d : Region) → j < length copies → list_any (has_object (get_or copies j d).object.0) copies ≡ true
among [] j d l = absurd (omega arith)
among (c ∷ copies) zero d l = ap (λ b. b || list_any (has_object c.object.0) copies) (eq-eqb c.object.0 c.object.0 refl)
among (c ∷ copies) (suc j) d l =
    let o : ℕ = (get_or copies j d).object.0 in
    let later = among copies j d (omega (arith, l)) in
    elim (c.object.0 == o) as (λ b. (b || list_any (has_object o) copies) ≡ true) [ true ↦ refl | false ↦ later ]

differ_at : (copies : List Region) (i j : ℕ) (d : Region) → AllPairs (λ (a b : Region). a.object.0 ≢ b.object.0) copies → i < j → j < length copies → (get_or copies i d).object.0 ≢ (get_or copies j d).object.0
differ_at copies i j d p l m = p i j d l m

module _ (was is now : List Hidden) (regions copies : List Region) (n : ℕ) (old mid new : Memory) (u v w : StoreView) (c r : Region) (are : AreCopies old (objects_of was) regions copies) (sound : IsSound old) (x : AreCopying was is regions copies n old mid u v) (at : slice_get copies n ≡ Some c) (found : find (starts_at c.start) regions ≡ Some r) where
  abbrev hidden : List ℕ
  hidden = objects_of was

  there : n < length copies
  there = (got_at copies n c c at).0

  is_c : get_or copies n c ≡ c
  is_c = (got_at copies n c c at).1

  of_c : IsCopyOf old hidden regions copies c
  of_c = subst (IsCopyOf old hidden regions copies) is_c (are.each n c there)

  is_r : of_c.region ≡ r
  is_r = let same : Some of_c.region ≡ Some r = sym of_c.found ∙ found in cc

  -- what is asked of the call
  pub source_there : object_at mid.objects r.object.0 ≢ []
  source_there e = of_c.there (let size : length (object_at old.objects of_c.region.object.0) ≡ 0 = sym (x.entries.keeps.entries of_c.region.object.0) ∙ (λ k. length (object_at mid.objects (is_r k).object.0)) ∙ ap length e in nothing (object_at old.objects of_c.region.object.0) size)
    where
      nothing : {X : Type 0} (xs : List X) → length xs ≡ 0 → xs ≡ []
      nothing [] h = refl
      nothing (y ∷ ys) h = absurd (omega (arith, h))

  pub size_same : length (object_at mid.objects c.object.0) ≡ length (object_at mid.objects r.object.0)
  size_same = x.entries.keeps.entries c.object.0 ∙ of_c.size ∙ (λ k. length (object_at old.objects (is_r k).object.0)) ∙ sym (x.entries.keeps.entries r.object.0)

  source_owned : is_among r.object.0 hidden ≡ false
  source_owned = (λ k. is_among (sym is_r k).object.0 hidden) ∙ of_c.from_owned

  source_apart : list_any (has_object r.object.0) copies ≡ false
  source_apart = (λ k. list_any (has_object (sym is_r k).object.0) copies) ∙ of_c.apart

  copied : list_any (has_object c.object.0) copies ≡ true
  copied = (λ k. list_any (has_object (sym is_c k).object.0) copies) ∙ among copies n c there

  pub objects_differ : r.object.0 ≢ c.object.0
  objects_differ e = let bad : true ≡ false = sym copied ∙ ap (λ o. list_any (has_object o) copies) (sym e) ∙ source_apart in cc

  pub copy_empty : (i : ℕ) → IsEmpty mid c.object.0 i
  copy_empty i = subst (λ (k : Region). IsEmpty mid k.object.0 i) is_c (x.rest n i c (omega arith) there)

  pub from_owned : is_among r.object.0 (objects_of is) ≡ false
  from_owned = ap (λ (h : List Hidden). is_among r.object.0 (objects_of h)) x.cache ∙ source_owned

  pub to_owned : is_among c.object.0 (objects_of is) ≡ false
  to_owned = ap (λ (h : List Hidden). is_among c.object.0 (objects_of h)) x.cache ∙ of_c.to_owned

  inside : (a b : ℕ) → is_copied copies a b ≡ false → is_object c.object.0 a b ≡ false
  inside a b e = ⊎_elim
      (λ (yes : is_object c.object.0 a b ≡ true). let bad : true ≡ false = sym copied ∙ ap (λ o. list_any (has_object o) copies) (sym (eqb-true a c.object.0 yes)) ∙ e in cc)
      (λ other. other)
      (cases_Bool (is_object c.object.0 a b))

  kept_page : (i : ℕ) → (entry_at mid.objects r.object.0 i).page ≡ (entry_at old.objects r.object.0 i).page
  kept_page i = x.entries.pages r.object.0 i source_owned source_apart

  works_less : (n : ℕ) → copies_work mid r.object.0 n ≤ copies_work old r.object.0 n
  works_less zero = omega arith
  works_less (suc j) = let rest = works_less j in let first = work_kept old mid r.object.0 j sound x.entries.sound x.entries.keeps x.entries.counts (kept_page j) in omega (arith, rest, first)

  work_c : copies_work mid r.object.0 (length (object_at mid.objects r.object.0)) ≤ region_work old regions c
  work_c =
      let size = x.entries.keeps.entries r.object.0 in
      let is = ap (λ (o : Option Region). elim o as (λ _. ℕ) [ None ↦ 0 | Some q ↦ copies_work old q.object.0 (length (object_at old.objects q.object.0)) ]) found in
      let same = ap (copies_work mid r.object.0) size in
      omega (arith, works_less (length (object_at old.objects r.object.0)), is, same)

  pub meters_more : Spends (copies_work mid r.object.0 (length (object_at mid.objects r.object.0))) 0 (2 ^ 19) 64 mid.frames.meters new.frames.meters → Spends (sum_by (region_work old regions) (take (n + 1) copies)) 0 (2 ^ 19 * (n + 1)) (64 * (n + 1)) old.frames.meters new.frames.meters
  meters_more spent =
      let w : ℕ = copies_work mid r.object.0 (length (object_at mid.objects r.object.0)) in
      let before : ℕ = sum_by (region_work old regions) (take n copies) in
      let next : sum_by (region_work old regions) (take (n + 1) copies) ≡ before + region_work old regions c = sum_next (region_work old regions) copies n c at in
      spends_more (before + w) (0 + 0) (2 ^ 19 * n + 2 ^ 19) (64 * n + 64) (sum_by (region_work old regions) (take (n + 1) copies)) 0 (2 ^ 19 * (n + 1)) (64 * (n + 1)) old.frames.meters new.frames.meters (spends_on before 0 (2 ^ 19 * n) (64 * n) w 0 (2 ^ 19) 64 old.frames.meters mid.frames.meters new.frames.meters x.meters spent) (omega (arith, next, work_c)) (omega arith) (omega arith) (omega arith)

  module _ (y : CopiesObject (objects_of is) r.object.0 c.object.0 mid new v w) where
    one : CopiesObject hidden r.object.0 c.object.0 mid new v w
    one = subst (λ (h : List Hidden). CopiesObject (objects_of h) r.object.0 c.object.0 mid new v w) x.cache y

    abbrev both : Copies hidden (is_copied copies) old new u w
    both = copies_on hidden (is_copied copies) old mid new u v w x.entries (copies_more hidden (is_object c.object.0) (is_copied copies) mid new v w inside one.copies)

    shows_c : ShowsRegion old new both.source regions c
    shows_c = record {
      from = λ q i f l.
          let same : q ≡ r = (let two : Some q ≡ Some r = sym f ∙ found in cc) in
          let long : i < length (object_at mid.objects r.object.0) = subst (λ k. i < k) ((λ k. length (object_at old.objects (same k).object.0)) ∙ sym (x.entries.keeps.entries r.object.0)) l in
          ap (λ o. x.entries.source o i) (one.from i long) ∙ x.entries.own r.object.0 i source_apart ∙ (λ k. (sym same k).object.0);
      same = λ q i f l free.
          let same : q ≡ r = (let two : Some q ≡ Some r = sym f ∙ found in cc) in
          let long : i < length (object_at mid.objects r.object.0) = subst (λ k. i < k) ((λ k. length (object_at old.objects (same k).object.0)) ∙ sym (x.entries.keeps.entries r.object.0)) l in
          let now = unheld_kept old mid r.object.0 i sound x.entries.sound x.entries.keeps x.entries.counts (kept_page i) (subst (λ (k : Region). IsUnheld old k.object.0 i) same free) in
          one.same i long now ∙ kept_page i ∙ (λ k. (entry_at old.objects (sym same k).object.0 i).page);
    }

    other_copy : (j : ℕ) (d : Region) → j ≢ n → j < length copies → (get_or copies j d).object.0 ≢ c.object.0
    other_copy j d other l e =
        let at_n : get_or copies n d ≡ c = (got_at copies n c d at).1 in
        let same : (get_or copies j d).object.0 ≡ (get_or copies n d).object.0 = e ∙ (λ k. (sym at_n k).object.0) in
        ⊎_elim (λ (low : j < n). absurd (differ_at copies j n d are.differ low there same)) (λ high. absurd (differ_at copies n j d are.differ (omega (arith, high, other)) l (sym same))) (Rattle.std.proofs.lemmas.Bool.cases_lt j n)

    object_other : (j : ℕ) (d : Region) (i : ℕ) → j ≢ n → j < length copies → is_object c.object.0 (get_or copies j d).object.0 i ≡ false
    object_other j d i other l = other_object (get_or copies j d).object.0 c.object.0 i (other_copy j d other l)

    owned_copy : (j : ℕ) (d : Region) → j < length copies → is_among (get_or copies j d).object.0 hidden ≡ false
    owned_copy j d l = (are.each j d l).to_owned

    shows_before : (j : ℕ) (d : Region) → j < n → j < length copies → ShowsRegion old new both.source regions (get_or copies j d)
    shows_before j d below l =
        let other : j ≢ n = λ e. absurd (omega (arith, below, e)) in
        let was = x.done j d below l in
        record {
          from = λ q i f m. ap (λ o. x.entries.source o i) (one.copies.own (get_or copies j d).object.0 i (object_other j d i other l)) ∙ was.from q i f m;
          same = λ q i f m free. one.copies.pages (get_or copies j d).object.0 i (owned_copy j d l) (object_other j d i other l) ∙ was.same q i f m free;
        }

    pub copying_more : old.frames.page ≤ 4096 → length (object_at mid.objects r.object.0) ≤ 64 → now ≡ is → w.faults ≡ v.faults → Spends (copies_work mid r.object.0 (length (object_at mid.objects r.object.0))) 0 (2 ^ 19) 64 mid.frames.meters new.frames.meters → AreCopying was now regions copies (n + 1) old new u w
    copying_more small long cached faults spent = record {
      entries = both;
      done = λ j d below l. ⊎_elim
          (λ (here : j ≡ n). subst (ShowsRegion old new both.source regions) (sym (got_at copies n c d at).1 ∙ ap (λ k. get_or copies k d) (sym here)) shows_c)
          (λ other. shows_before j d (omega (arith, below, other)) l)
          (cases_eq j n);
      rest = λ j i d past l.
          let other : j ≢ n = λ e. absurd (omega (arith, past, e)) in
          one.copies.pages (get_or copies j d).object.0 i (owned_copy j d l) (object_other j d i other l) ∙ x.rest j i d (omega (arith, past)) l;
      cache = cached ∙ x.cache;
      steady = faults ∙ x.steady;
      meters = meters_more spent;
      most = (let next : sum_by (region_work old regions) (take (n + 1) copies) ≡ sum_by (region_work old regions) (take n copies) + region_work old regions c = sum_next (region_work old regions) copies n c at in let l = x.most in omega (arith, next, l, region_most old regions c r small found (omega (arith, long, x.entries.keeps.entries r.object.0))));
    }

  pub copying_failed : Copies (objects_of is) (is_object c.object.0) mid new v w → Copies (objects_of was) (is_copied copies) old new u w
  copying_failed y =
      let failed : Copies hidden (is_object c.object.0) mid new v w = subst (λ (h : List Hidden). Copies (objects_of h) (is_object c.object.0) mid new v w) x.cache y in
      copies_on hidden (is_copied copies) old mid new u v w x.entries (copies_more hidden (is_object c.object.0) (is_copied copies) mid new v w inside failed)

-- each copy has its region
pub copies_found : (regions copies : List Region) (n : ℕ) (c : Region) (m : Memory) (hidden : List Hidden) → AreCopies m (objects_of hidden) regions copies → slice_get copies n ≡ Some c → find (starts_at c.start) regions ≡ None → ⊥
copies_found regions copies n c m hidden are at none =
    let got = got_at copies n c c at in
    let of_c : IsCopyOf m (objects_of hidden) regions copies c = subst (IsCopyOf m (objects_of hidden) regions copies) got.1 (are.each n c got.0) in
    let bad : Some of_c.region ≡ None = sym of_c.found ∙ none in cc

-- what the next copy asks for
pub below_next : (n works : ℕ) (old new : Meters) → n < 32 → AreBelow (2 ^ 63) old → works ≤ 2 ^ 18 * n → Spends works 0 (2 ^ 19 * n) (64 * n) old new → AreBelow (2 ^ 64 - 2 ^ 22) new
below_next n works old new l b most s = below_more (2 ^ 63 + works + 0 + 2 ^ 19 * n + 64 * n) (2 ^ 64 - 2 ^ 22) new (omega (arith, l, most)) (below_spent (2 ^ 63) works 0 (2 ^ 19 * n) (64 * n) old new b s)

-- all copies show their regions
pub copied_all : (was is : List Hidden) (regions copies : List Region) (n : ℕ) (old new : Memory) (v w : StoreView) → length copies ≤ n → AreCopying was is regions copies n old new v w → CopiesRegions (objects_of was) regions copies old new v w
copied_all was is regions copies n old new v w all x = record { entries = x.entries; each = λ j d l. x.done j d (omega (arith, l, all)) l }

pub spent_all : (n : ℕ) (m : Memory) (regions copies : List Region) (new : Meters) → n ≤ 32 → Spends (sum_by (region_work m regions) (take n copies)) 0 (2 ^ 19 * n) (64 * n) m.frames.meters new → Spends (sum_by (region_work m regions) copies) 0 (2 ^ 24) (2 ^ 11) m.frames.meters new
spent_all n m regions copies new l s =
    let works : ℕ = sum_by (region_work m regions) copies in
    spends_more (sum_by (region_work m regions) (take n copies)) 0 (2 ^ 19 * n) (64 * n) works 0 (2 ^ 24) (2 ^ 11) m.frames.meters new s (sum_take (region_work m regions) n copies) (omega arith) (omega (arith, l)) (omega (arith, l))
