-- Regions have numbers and objects of their own.
use Rattle.std.proofs.Common.{◌≡◌, ℕ, ◌+◌, ◌≤◌, Bool, true, false, List, [], ◌∷◌, ◌++◌, refl, sym, ap, ap₂, arith, ◌∙◌, map, inl, inr, eq-eqb}
use Rattle.std.specs.Prelude.{Option, Some, None, flat_map, count_by, ◌==◌, if◌then◌else◌}
use Rattle.std.proofs.lemmas.List.Sums.{sum_by-cons}
use Rattle.genie_base.specs.Lemmas.Places.{num}
use Rattle.genie_object.specs.Objects.{is_absent, object_at}
use Rattle.genie_region.specs.declared.region.Region.{Region}
use Rattle.genie_model.specs.Lemmas.Lists.{Has}
use Rattle.genie_model.specs.State as flat
use Rattle.genie_orderly.specs.Orderly.{region_numbers, orphan_numbers, numbers}
use Rattle.genie_orderly.specs.Lemmas.RegionNumbers.{one, times, times-append, once_each}
use Rattle.genie_kernel.specs.declared.kernel.Kernel.{Kernel}
use Rattle.genie_kernel.specs.Backed.{has_object, hidden_region}
use Rattle.genie_kernel.specs.Good.{IsGood}
use Rattle.genie_kernel.specs.Regions.{owned_regions, process_view, processes_view, region_view, regions_of}
use Rattle.genie_kernel.specs.View.{outline, no_bytes}

count_both : (o : ℕ) (rs qs : List Region) → count_by (has_object o) (rs ++ qs) ≡ count_by (has_object o) rs + count_by (has_object o) qs
count_both o [] qs = omega arith
count_both o (x ∷ rs) qs = omega (arith, count_both o rs qs, sum_by-cons (λ (y : Region). num (has_object o y)) x rs, sum_by-cons (λ (y : Region). num (has_object o y)) x (rs ++ qs))

most_one : (b : Bool) → (if b then 0 else 1) ≤ 1
most_one true = omega arith
most_one false = omega arith

module _ (f : Region → ℕ) where
  times_has : (r : Region) (rs : List Region) → Has r rs → 1 ≤ times (f r) (map f rs)
  times_has r [] h = absurd h
  times_has r (x ∷ rs) (inl e) = let here : one (f x == f r) ≡ 1 = ap one (eq-eqb (f x) (f r) (ap f e)) in omega (arith, here)
  times_has r (x ∷ rs) (inr h) = let later = times_has r rs h in omega (arith, later)

  -- where each number is counted once, it tells the region
  only_one : (rs : List Region) → ((n : ℕ) → times n (map f rs) ≤ 1) → (q r : Region) → Has q rs → Has r rs → f q ≡ f r → q ≡ r
  only_one [] once q r a b e = absurd a
  only_one (x ∷ rs) once q r (inl a) (inl b) e = sym a ∙ b
  only_one (x ∷ rs) once q r (inl a) (inr b) e =
      let here : one (f x == f r) ≡ 1 = ap one (eq-eqb (f x) (f r) (ap f a ∙ e)) in
      let later = times_has r rs b in
      let most = once (f r) in
      absurd (omega (arith, here, later, most))
  only_one (x ∷ rs) once q r (inr a) (inl b) e =
      let here : one (f x == f q) ≡ 1 = ap one (eq-eqb (f x) (f q) (ap f b ∙ sym e)) in
      let later = times_has q rs a in
      let most = once (f q) in
      absurd (omega (arith, here, later, most))
  only_one (x ∷ rs) once q r (inr a) (inr b) e = only_one rs (λ n. let most = once n in omega (arith, most)) q r a b e

ids_append : (xs ys : List Region) → map (λ (r : Region). r.id.0) (xs ++ ys) ≡ map (λ (r : Region). r.id.0) xs ++ map (λ (r : Region). r.id.0) ys
ids_append [] ys = refl
ids_append (x ∷ xs) ys = ap (λ l. x.id.0 ∷ l) (ids_append xs ys)

module _ (s : ℕ → ℕ → List ℕ) where
  ids_view : (rs : List Region) → map (λ (r : flat.Region). r.number) (map (region_view s) rs) ≡ map (λ (r : Region). r.id.0) rs
  ids_view [] = refl
  ids_view (r ∷ rs) = ap (λ l. r.id.0 ∷ l) (ids_view rs)

  process_numbers : (p : Option (List Region)) (q : List ℕ) → region_numbers (process_view s p q) ≡ map (λ (r : Region). r.id.0) (regions_of p)
  process_numbers None q = refl
  process_numbers (Some rs) q = ids_view rs

  numbers_view : (ps : List (Option (List Region))) (qs : List (List ℕ)) → flat_map region_numbers (processes_view s ps qs) ≡ map (λ (r : Region). r.id.0) (owned_regions ps)
  numbers_view [] qs = refl
  numbers_view (p ∷ ps) [] = ap₂ ◌++◌ (process_numbers p []) (numbers_view ps []) ∙ sym (ids_append (regions_of p) (owned_regions ps))
  numbers_view (p ∷ ps) (q ∷ qs) = ap₂ ◌++◌ (process_numbers p q) (numbers_view ps qs) ∙ sym (ids_append (regions_of p) (owned_regions ps))

numbers_once : (k : Kernel) → IsGood k → (n : ℕ) → times n (map (λ (r : Region). r.id.0) (owned_regions k.spaces.processes)) ≤ 1
numbers_once k g n =
    let all = once_each (numbers (outline k)) g.orderly.numbers n in
    let part = times-append n (flat_map region_numbers (outline k).processes) (orphan_numbers (outline k).orphans) in
    let same = ap (times n) (numbers_view (no_bytes k.config.page).seen.entry_bytes k.spaces.processes k.queues) in
    omega (arith, all, part, same)

one_num : (b : Bool) → one b ≡ num b
one_num true = refl
one_num false = refl

times_objects : (n : ℕ) (rs : List Region) → times n (map (λ (r : Region). r.object.0) rs) ≡ count_by (has_object n) rs
times_objects n [] = refl
times_objects n (x ∷ rs) =
    let same = one_num (x.object.0 == n) in
    omega (arith, times_objects n rs, same, sum_by-cons (λ (y : Region). num (has_object n y)) x rs)

objects_once : (k : Kernel) → IsGood k → (n : ℕ) → times n (map (λ (r : Region). r.object.0) (owned_regions k.spaces.processes)) ≤ 1
objects_once k g n =
    let most = most_one (is_absent (object_at k.memory.objects n)) in
    let one = g.backed.one n in
    let count = times_objects n (owned_regions k.spaces.processes) in
    omega (arith, count, one, most, count_both n (owned_regions k.spaces.processes) (map hidden_region k.hidden))

-- a region is told by its number, and by its object
pub same_number : (k : Kernel) (q r : Region) → IsGood k → Has q (owned_regions k.spaces.processes) → Has r (owned_regions k.spaces.processes) → q.id.0 ≡ r.id.0 → q ≡ r
same_number k q r g a b e = only_one (λ (x : Region). x.id.0) (owned_regions k.spaces.processes) (numbers_once k g) q r a b e

pub same_object : (k : Kernel) (q r : Region) → IsGood k → Has q (owned_regions k.spaces.processes) → Has r (owned_regions k.spaces.processes) → q.object.0 ≡ r.object.0 → q ≡ r
same_object k q r g a b e = only_one (λ (x : Region). x.object.0) (owned_regions k.spaces.processes) (objects_once k g) q r a b e
