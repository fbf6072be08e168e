-- Regions in order: which one a range may begin in, and what one more leaves in order.
use Rattle.std.proofs.Common.{◌≡◌, ◌≢◌, ℕ, ◌<◌, ◌≤◌, ◌+◌, ◌-◌, ◌*◌, suc, zero, Bool, true, false, not, cond, List, [], ◌∷◌, Some, None, refl, arith, length, get_or, set, ap, ⊎_elim, subst, sym, leb, ◌∙◌}
use Rattle.std.specs.Prelude.{find, position, is_some}
use Rattle.std.specs.List.{insert, remove, AllPairs, All, AllWithin, list_all}
use Rattle.std.specs.List.Sorted.{IsNonDecreasingBy, IsPartitionPoint}
use Rattle.std.proofs.lemmas.Bool.{cases_lt, cases_Bool, leb-true, le-ltb, ne_eqb, eqb-true, eqb-false, and_left, and_right, or_cases, both_ways, cond-true, true_from_ne_false}
use Rattle.std.proofs.lemmas.List.{length-map}
use Rattle.std.proofs.lemmas.List.Filters.{length-filter_both}
use Rattle.std.proofs.lemmas.List.Folds.{list_all_at}
use Rattle.std.proofs.lemmas.List.Elements.{All-cons, All-nil}
use Rattle.std.proofs.lemmas.List.Quantifiers.{position-Some}
use Rattle.std.proofs.lemmas.List.Kept.{AllPairs-cons, AllPairs-filter}
use Rattle.std.proofs.Math.Nat.{mul-le-mul_right}
use Rattle.genie_base.specs.declared.numbers.RegionId.{RegionId}
use Rattle.genie_base.specs.declared.region.Area.TheVariants.{App}
use Rattle.genie_base.specs.declared.region.RegionState.TheVariants.{Live}
use Rattle.genie_base.specs.Regions.{Extent, AreInOrder, add_in_order, is_apart, is_free, is_reached, reach}
use Rattle.genie_region.specs.declared.region.Region.{Region}
use Rattle.genie_region.specs.Layouts.{extent, end_of, ends_by, starts_by, has_id, region_of, without, with_region, IsLayout}
use Rattle.genie_base.specs.Lemmas.Searches.{find_fails, find_only, find_none, map_only, pairs_mapped, remove_only}

-- the region that a list is read with past its end
abbrev pub blank : Region
blank = record { id = record { 0 = 0 }; start = 0; pages = 0; area = App; state = Live; writable = false; object = record { 0 = 0 } }

-- what holds of earlier and later regions holds of each with itself, too
at_or_after : {X : Type 0} (n : X → ℕ) (xs : List X) → ((i j : ℕ) (d : X) → i < j → j < length xs → n (get_or xs i d) ≤ n (get_or xs j d)) → IsNonDecreasingBy n xs
at_or_after n xs h i j d le l = ⊎_elim (λ lt. h i j d lt l) (λ ge. let same : i ≡ j = omega arith in rw same (omega arith)) (cases_lt i j)

pub starts_rise : (page : ℕ) (rs : List Region) → AreInOrder extent rs → IsNonDecreasingBy (λ r. r.start * page) rs
starts_rise page rs o = at_or_after (λ r. r.start * page) rs (λ i j d lt l. let le : (get_or rs i d).start ≤ (get_or rs j d).start = omega (arith, o i j d lt l) in mul-le-mul_right page le)

pub ends_rise : (rs : List Region) → AreInOrder extent rs → IsNonDecreasingBy end_of rs
ends_rise rs o = at_or_after end_of rs (λ i j d lt l. omega (arith, o i j d lt l))

not_begun : (page addr len : ℕ) (r : Region) → starts_by page addr r ≡ false → is_reached page addr len (extent r) ≡ false
not_begun page addr len r e = and_right _ _ (and_left _ _ (and_left _ _ e))

passed : (page addr len : ℕ) (r : Region) → end_of r * page ≤ addr → is_reached page addr len (extent r) ≡ false
passed page addr len r le = and_right _ _ (and_left _ _ (and_right _ _ (le-ltb addr (end_of r * page) le)))

-- the last region that starts at an address or before is the only one that an access there may reach
pub reach_last : (page addr len : ℕ) (rs : List Region) (k : ℕ) (d : Region) → AreInOrder extent rs → k < length rs → starts_by page addr (get_or rs k d) ≡ true → ((i : ℕ) → k < i → i < length rs → starts_by page addr (get_or rs i d) ≡ false) → reach extent page addr len rs ≡ cond (is_reached page addr len (extent (get_or rs k d))) (Some (get_or rs k d)) None
reach_last page addr len rs k d o l begun later = find_only (λ r. is_reached page addr len (extent r)) d rs k l (λ i m ne. ⊎_elim (λ lt. let below : end_of (get_or rs i d) * page ≤ (get_or rs k d).start * page = mul-le-mul_right page (o i k d lt l) in passed page addr len (get_or rs i d) (omega (arith, leb-true _ _ begun))) (λ ge. not_begun page addr len (get_or rs i d) (later i (omega arith) m)) (cases_lt i k))

-- where the first k regions alone end before the new one starts
pub added_at : (new : Region) (rs : List Region) (k : ℕ) → k ≤ length rs → AllWithin (λ r. ends_by new.start r ≡ true) rs 0 k → AllWithin (λ r. ends_by new.start r ≡ false) rs k (length rs) → insert rs k new ≡ add_in_order extent new rs
added_at new [] zero l ended later = refl
added_at new [] (suc k) l ended later = absurd (omega arith)
added_at new (r ∷ rs) zero l ended later = rw (later 0 r (omega arith) (omega arith)) refl
added_at new (r ∷ rs) (suc k) l ended later = rw (ended 0 r (omega arith) (omega arith)) (ap (λ ys. r ∷ ys) (added_at new rs k (omega arith) (λ i d m n. ended (suc i) d (omega arith) (omega arith)) (λ i d m n. later (suc i) d (omega arith) (omega arith))))

all_added : {X : Type 0} (extent : X → Extent) (P : X → Type 0) (new : X) (rs : List X) → P new → All P rs → All P (add_in_order extent new rs)
all_added extent P new [] n h = All-cons P new [] n h
all_added extent P new (r ∷ rs) n h = elim (leb ((extent r).start + (extent r).pages) (extent new).start) as (λ b. All P (cond b (r ∷ add_in_order extent new rs) (new ∷ r ∷ rs))) [ true ↦ All-cons P r (add_in_order extent new rs) (h 0 r (omega arith)) (all_added extent P new rs n (λ k d l. h (suc k) d (omega arith))) | false ↦ All-cons P new (r ∷ rs) n h ]

-- a relation that the new one has to those before it and after it
pairs_added : {X : Type 0} (extent : X → Extent) (R : X → X → Type 0) (new : X) (rs : List X) → AllPairs R rs → ((i : ℕ) (d : X) → i < length rs → leb ((extent (get_or rs i d)).start + (extent (get_or rs i d)).pages) (extent new).start ≡ true → R (get_or rs i d) new) → ((i j : ℕ) (d : X) → i ≤ j → j < length rs → leb ((extent (get_or rs i d)).start + (extent (get_or rs i d)).pages) (extent new).start ≡ false → R new (get_or rs j d)) → AllPairs R (add_in_order extent new rs)
pairs_added extent R new [] h before after = AllPairs-cons R new [] (All-nil (R new)) h
pairs_added extent R new (r ∷ rs) h before after = ⊎_elim
    (λ e. rw e (AllPairs-cons R r (add_in_order extent new rs) (all_added extent (R r) new rs (before 0 r (omega arith) e) (λ k d l. h 0 (suc k) d (omega arith) (omega arith))) (pairs_added extent R new rs (λ i j d l m. h (suc i) (suc j) d (omega arith) (omega arith)) (λ i d l q. before (suc i) d (omega arith) q) (λ i j d l m q. after (suc i) (suc j) d (omega arith) (omega arith) q))))
    (λ e. rw e (AllPairs-cons R new (r ∷ rs) (λ j d l. after 0 j d (omega arith) l e) h))
    (cases_Bool (leb ((extent r).start + (extent r).pages) (extent new).start))

-- where all pass, each does
pass_each : {X : Type 0} (p : X → Bool) (xs : List X) → list_all p xs ≡ true → (i : ℕ) (d : X) → i < length xs → p (get_or xs i d) ≡ true
pass_each p xs e i d l = true_from_ne_false _ (λ q. both_ways _ (list_all_at p xs i d l q) e)

-- a region that doesn't end before the new one starts begins after its end
after_new : (new r : Region) → is_apart new.start new.pages (extent r) ≡ true → ends_by new.start r ≡ false → new.start + new.pages ≤ r.start
after_new new r apart e = ⊎_elim (λ t. absurd (both_ways _ e t)) (λ t. leb-true _ _ t) (or_cases _ _ apart)

pub order_kept : (new : Region) (rs : List Region) → AreInOrder extent rs → is_free extent new.start new.pages rs ≡ true → AreInOrder extent (add_in_order extent new rs)
order_kept new rs o free = pairs_added extent (λ a b. end_of a ≤ b.start) new rs o
    (λ i d l e. leb-true _ _ e)
    (λ i j d le l e. let past = after_new new (get_or rs i d) (pass_each (λ r. is_apart new.start new.pages (extent r)) rs free i d (omega arith)) e in ⊎_elim (λ lt. omega (arith, o i j d lt l)) (λ ge. let same : i ≡ j = omega arith in subst (λ k. new.start + new.pages ≤ (get_or rs k d).start) same past) (cases_lt i j))

numbers_kept : (new : Region) (rs : List Region) → AllPairs (λ a b. a.id.0 ≢ b.id.0) rs → is_some (region_of new.id rs) ≡ false → AllPairs (λ a b. a.id.0 ≢ b.id.0) (add_in_order extent new rs)
numbers_kept new rs n gone = pairs_added extent (λ a b. a.id.0 ≢ b.id.0) new rs n
    (λ i d l e. eqb-false _ _ (find_fails (has_id new.id) d rs gone i l))
    (λ i j d le l e q. eqb-false _ _ (find_fails (has_id new.id) d rs gone j l) (sym q))

length_added : (new : Region) (rs : List Region) → length (add_in_order extent new rs) ≡ length rs + 1
length_added new [] = refl
length_added new (r ∷ rs) = elim (ends_by new.start r) as (λ b. length (cond b (r ∷ add_in_order extent new rs) (new ∷ r ∷ rs)) ≡ length (r ∷ rs) + 1) [ true ↦ omega (arith, length_added new rs) | false ↦ omega arith ]

-- one more region where its pages are free
pub layout_added : (new : Region) (rs : List Region) → IsLayout rs → length rs < 32 → is_free extent new.start new.pages rs ≡ true → is_some (region_of new.id rs) ≡ false → IsLayout (add_in_order extent new rs)
layout_added new rs s room free gone = record {
  few = omega (arith, length_added new rs);
  ordered = order_kept new rs s.ordered free;
  numbered = numbers_kept new rs s.numbered gone;
}

-- one region less
pub layout_without : (id : RegionId) (rs : List Region) → IsLayout rs → IsLayout (without id rs)
layout_without id rs s = record {
  few = omega (arith, s.few, length-filter_both (has_id id) (λ r. not (has_id id r)) (λ _. refl) rs);
  ordered = AllPairs-filter (λ a b. end_of a ≤ b.start) (λ r. not (has_id id r)) rs s.ordered;
  numbered = AllPairs-filter (λ a b. a.id.0 ≢ b.id.0) (λ r. not (has_id id r)) rs s.numbered;
}

-- a change that leaves a region's number and pages
pub record KeepsPlace (change : Region → Region) : Type 0 where
  pub id : (r : Region) → (change r).id.0 ≡ r.id.0
  pub start : (r : Region) → (change r).start ≡ r.start
  pub pages : (r : Region) → (change r).pages ≡ r.pages

kept : {A : Type 0} (f : Region → A) (change : Region → Region) → ((r : Region) → f (change r) ≡ f r) → (b : Bool) (r : Region) → f (cond b (change r) r) ≡ f r
kept f change h b r = elim b as (λ b. f (cond b (change r) r) ≡ f r) [ true ↦ h r | false ↦ refl ]

pub layout_with : (id : RegionId) (change : Region → Region) (rs : List Region) → KeepsPlace change → IsLayout rs → IsLayout (with_region id change rs)
layout_with id change rs k s =
    let one : Region → Region = λ r. cond (has_id id r) (change r) r in
    let starts : (r : Region) → (one r).start ≡ r.start = λ r. kept (λ q. q.start) change k.start (has_id id r) r in
    let pages : (r : Region) → (one r).pages ≡ r.pages = λ r. kept (λ q. q.pages) change k.pages (has_id id r) r in
    let ids : (r : Region) → (one r).id.0 ≡ r.id.0 = λ r. kept (λ q. q.id.0) change k.id (has_id id r) r in
    record {
      few = omega (arith, s.few, length-map rs one);
      ordered = pairs_mapped (λ a b. end_of a ≤ b.start) one (λ a b h. omega (arith, starts a, pages a, starts b)) rs s.ordered;
      numbered = pairs_mapped (λ a b. a.id.0 ≢ b.id.0) one (λ a b h q. h (sym (ids a) ∙ q ∙ ids b)) rs s.numbered;
    }

-- where a region has this number, no other has it
pub others_differ : (id : RegionId) (rs : List Region) (k : ℕ) (d : Region) → AllPairs (λ a b. a.id.0 ≢ b.id.0) rs → k < length rs → has_id id (get_or rs k d) ≡ true → (i : ℕ) → i < length rs → i ≢ k → has_id id (get_or rs i d) ≡ false
others_differ id rs k d n l e i m ne =
    let here : (get_or rs k d).id.0 ≡ id.0 = eqb-true _ _ e in
    ne_eqb _ _ (λ q. ⊎_elim (λ lt. n i k d lt l (q ∙ sym here)) (λ ge. n k i d (omega arith) m (here ∙ sym q)) (cases_lt i k))

-- where no region starts at an address or before
pub reach_none : (page addr len : ℕ) (rs : List Region) (d : Region) → ((i : ℕ) → i < length rs → starts_by page addr (get_or rs i d) ≡ false) → reach extent page addr len rs ≡ None
reach_none page addr len rs d later = find_none (λ r. is_reached page addr len (extent r)) d rs (λ i l. not_begun page addr len (get_or rs i d) (later i l))

-- the same, by the number of regions that start there or before
pub reach_started : (page addr len : ℕ) (rs : List Region) (n : ℕ) → AreInOrder extent rs → 0 < n → n ≤ length rs → IsPartitionPoint (λ r. starts_by page addr r ≡ true) (λ r. starts_by page addr r ≡ false) rs n → reach extent page addr len rs ≡ cond (is_reached page addr len (extent (get_or rs (n - 1) blank))) (Some (get_or rs (n - 1) blank)) None
reach_started page addr len rs n o some l point = reach_last page addr len rs (n - 1) blank o (omega arith) (point.0 (n - 1) blank (omega arith) (omega arith)) (λ i lt m. point.1 i blank (omega arith) m)

-- the list with the new one put where the regions before it end
pub added : (new : Region) (rs items : List Region) (n : ℕ) → n ≤ length rs → IsPartitionPoint (λ r. ends_by new.start r ≡ true) (λ r. ends_by new.start r ≡ false) rs n → items ≡ insert rs n new → items ≡ add_in_order extent new rs
added new rs items n l point e = e ∙ added_at new rs n l point.0 point.1

-- the region with a number, once its place is known
pub found_at : (id : RegionId) (rs : List Region) (k : ℕ) (r : Region) → IsLayout rs → position (has_id id) rs ≡ Some k → r ≡ get_or rs k r → find (has_id id) rs ≡ Some r
found_at id rs k r s e is =
    let at = position-Some (has_id id) rs k r e in
    find_only (has_id id) r rs k at.0 (others_differ id rs k r s.numbered at.0 at.1) ∙ cond-true _ _ _ at.1 ∙ ap Some (sym is)

pub removed_at : (id : RegionId) (rs items : List Region) (k : ℕ) → IsLayout rs → position (has_id id) rs ≡ Some k → items ≡ remove rs k → items ≡ without id rs
removed_at id rs items k s e is =
    let at = position-Some (has_id id) rs k blank e in
    is ∙ remove_only (has_id id) blank rs k at.0 at.1 (others_differ id rs k blank s.numbered at.0 at.1)

pub changed_at : (id : RegionId) (change : Region → Region) (rs : List Region) (k : ℕ) → IsLayout rs → position (has_id id) rs ≡ Some k → set rs k (change (get_or rs k blank)) ≡ with_region id change rs
changed_at id change rs k s e =
    let at = position-Some (has_id id) rs k blank e in
    sym (map_only (has_id id) change blank rs k at.0 at.1 (others_differ id rs k blank s.numbered at.0 at.1))
