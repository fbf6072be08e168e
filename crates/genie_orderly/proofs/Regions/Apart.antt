-- Regions that are apart: one more in its place, fewer of them, and others at the same pages.
use Rattle.std.proofs.Common.{◌≡◌, ℕ, ◌+◌, ◌<◌, ◌≤◌, Bool, true, false, List, [], ◌∷◌, length, map, filter, refl, arith}
use Rattle.std.specs.Prelude.{cond, nat_le, sum_by, All}
use Rattle.std.proofs.lemmas.Bool.{cond_both}
use Rattle.std.proofs.lemmas.Bool.Decides.{nat_tests}
use Rattle.std.proofs.lemmas.List.Elements.{All-cons, All-head, All-tail, All-map, All-weaker, All-filter}
use Rattle.std.proofs.lemmas.List.Kept.{AllPairs-cons, AllPairs-filter}
use Rattle.std.proofs.lemmas.List.Sums.{sum_by-cons, length-filter, count_by-le-length}
use Rattle.std.proofs.lemmas.List.{length-map}
use Rattle.genie_base.specs.Lemmas.Searches.{pairs_mapped}
use Rattle.genie_base.specs.Regions.{Extent, AreInOrder, add_in_order, is_apart}
use Rattle.genie_orderly.specs.Orderly.{IsRegion, AreApart}
use Rattle.genie_model.specs.Regions.{extent_of}
use Rattle.genie_model.specs.State.{Region}
use Rattle.genie_model.specs.Lemmas.Lists.{pairs_all, pairs_tail}
use Rattle.genie_model.specs.Lemmas.RegionCounts.{length_added}

-- sums where every number falls or stays, and of fewer numbers
pub mapped_sum : {X : Type 0} (f : X → ℕ) (g : X → X) → ((x : X) → f (g x) ≤ f x) → (xs : List X) → sum_by f (map g xs) ≤ sum_by f xs
mapped_sum f g less [] = omega arith
mapped_sum f g less (x ∷ xs) = let here = less x in let rest = mapped_sum f g less xs in omega (arith, sum_by-cons f (g x) (map g xs), sum_by-cons f x xs)

pub filtered_sum : {X : Type 0} (f : X → ℕ) (p : X → Bool) (xs : List X) → sum_by f (filter p xs) ≤ sum_by f xs
filtered_sum f p [] = omega arith
filtered_sum f p (x ∷ xs) =
    let rest = filtered_sum f p xs in
    elim (p x) as (λ b. sum_by f (cond b (x ∷ filter p xs) (filter p xs)) ≤ sum_by f (x ∷ xs)) [ true ↦ omega (arith, sum_by-cons f x (filter p xs), sum_by-cons f x xs) | false ↦ omega (arith, sum_by-cons f x xs) ]

module _ {X : Type 0} (extent : X → Extent) where
  abbrev pub Before : X → X → Type 0
  Before a b = (extent a).start + (extent a).pages ≤ (extent b).start

  -- no page of x lies in y
  abbrev pub clear : X → X → Bool
  clear x y = is_apart (extent x).start (extent x).pages (extent y)

  pub all_added : (P : X → Type 0) (x : X) (xs : List X) → P x → All P xs → All P (add_in_order extent x xs)
  all_added P x [] here h = All-cons P x [] here h
  all_added P x (y ∷ ys) here h = elim (nat_le ((extent y).start + (extent y).pages) (extent x).start) as (λ b. All P (cond b (y ∷ add_in_order extent x ys) (x ∷ y ∷ ys))) [ true ↦ All-cons P y (add_in_order extent x ys) (All-head P y ys h) (all_added P x ys here (All-tail P y ys h)) | false ↦ All-cons P x (y ∷ ys) here h ]

  pub sum_added : (f : X → ℕ) (x : X) (xs : List X) → sum_by f (add_in_order extent x xs) ≡ f x + sum_by f xs
  sum_added f x [] = sum_by-cons f x []
  sum_added f x (y ∷ ys) =
      let rest = sum_added f x ys in
      elim (nat_le ((extent y).start + (extent y).pages) (extent x).start) as (λ b. sum_by f (cond b (y ∷ add_in_order extent x ys) (x ∷ y ∷ ys)) ≡ f x + sum_by f (y ∷ ys))
      [ true ↦ omega (arith, sum_by-cons f y (add_in_order extent x ys), sum_by-cons f y ys) | false ↦ sum_by-cons f x (y ∷ ys) ]

  behind : (x y : X) → clear x y ≡ true → nat_le ((extent y).start + (extent y).pages) (extent x).start ≡ false → Before x y
  behind x y free late = grind (arith, nat_tests)

  front : (x y : X) → nat_le ((extent y).start + (extent y).pages) (extent x).start ≡ true → Before y x
  front x y early = grind (arith, nat_tests)

  -- one that is apart from all of them
  pub order_added : (x : X) (xs : List X) → All (λ y. clear x y ≡ true) xs → AreInOrder extent xs → AreInOrder extent (add_in_order extent x xs)
  order_added x [] free order = AllPairs-cons Before x [] (λ k d l. absurd (omega arith)) order
  order_added x (y ∷ ys) free order =
      let Free : X → Type 0 = λ z. clear x z ≡ true in
      let later : All (Before y) ys = pairs_all Before y ys order in
      cond_both (nat_le ((extent y).start + (extent y).pages) (extent x).start) (y ∷ add_in_order extent x ys) (x ∷ y ∷ ys) (AreInOrder extent)
      (λ early. AllPairs-cons Before y (add_in_order extent x ys) (all_added (Before y) x ys (front x y early) later) (order_added x ys (All-tail Free y ys free) (pairs_tail Before y ys order)))
      (λ late.
      let first : Before x y = behind x y (All-head Free y ys free) late in
      AllPairs-cons Before x (y ∷ ys) (All-cons (Before x) y ys first (All-weaker (Before y) (Before x) (λ z l. omega arith) ys later)) order)

-- the same pages, in the same area, and as many bytes
pub record SameShape (r q : Region) : Type 0 where
  pub start : q.start ≡ r.start
  pub pages : q.pages ≡ r.pages
  pub area : q.area ≡ r.area
  pub bytes : length q.bytes ≡ length r.bytes

pub same_shape : (r : Region) → SameShape r r
same_shape r = record { start = refl; pages = refl; area = refl; bytes = refl }

pub shape_kept : (page : ℕ) (r q : Region) → SameShape r q → IsRegion page r → IsRegion page q
shape_kept page r q e h = record {
  some = omega (arith, e.pages, h.some);
  most = omega (arith, e.pages, h.most);
  area = rw (e.area, e.start, e.pages) h.area;
  bytes = rw (e.bytes, e.pages) h.bytes;
}

-- apart where these were, of no more pages
pub record Lessens (old new : List Region) : Type 0 where
  pub apart : (page : ℕ) → AreApart page old → AreApart page new
  pub pages : sum_by (λ (r : Region). r.pages) new ≤ sum_by (λ (r : Region). r.pages) old

pub none_lessens : (old : List Region) → Lessens old []
none_lessens old = record { apart = λ page h. record { few = omega arith; order = λ i j d l m. absurd (omega arith); each = λ k d l. absurd (omega arith) }; pages = omega arith }

pub reshaped : (g : Region → Region) → ((r : Region) → SameShape r (g r)) → (regions : List Region) → Lessens regions (map g regions)
reshaped g same regions = record {
  apart = λ page h. record {
    few = omega (arith, length-map regions g, h.few);
    order = pairs_mapped (Before extent_of) g (λ a b l. omega (arith, (same a).start, (same a).pages, (same b).start)) regions h.order;
    each = All-map (IsRegion page) g regions (All-weaker (IsRegion page) (λ r. IsRegion page (g r)) (λ r. shape_kept page r (g r) (same r)) regions h.each);
  };
  pages = mapped_sum (λ (r : Region). r.pages) g (λ r. omega (arith, (same r).pages)) regions;
}

pub fewer : (p : Region → Bool) (regions : List Region) → Lessens regions (filter p regions)
fewer p regions = record {
  apart = λ page h. record {
    few = omega (arith, length-filter p regions, count_by-le-length p regions, h.few);
    order = AllPairs-filter (Before extent_of) p regions h.order;
    each = All-filter p (IsRegion page) regions h.each;
  };
  pages = filtered_sum (λ (r : Region). r.pages) p regions;
}

pub one_more : (page : ℕ) (r : Region) (regions : List Region) → IsRegion page r → All (λ q. clear extent_of r q ≡ true) regions → length regions < 32 → AreApart page regions → AreApart page (add_in_order extent_of r regions)
one_more page r regions here free room h = record {
  few = omega (arith, length_added extent_of r regions);
  order = order_added extent_of r regions free h.order;
  each = all_added extent_of (IsRegion page) r regions here h.each;
}
