-- No two regions have the same number.
use Rattle.std.proofs.Common.{◌≡◌, ◌≢◌, ℕ, ◌+◌, ◌≤◌, zero, suc, true, false, ◌||◌, ◌==◌, List, [], ◌∷◌, ◌++◌, refl, sym, ap, ap₂, subst, arith, ◌∙◌, map, inl, inr, ⊎_elim, eq-eqb}
use Rattle.std.specs.Prelude.{Option, Some, None, flat_map}
use Rattle.std.specs.List.{list_any}
use Rattle.std.proofs.lemmas.Bool.{cases_Bool}
use Rattle.genie_region.specs.declared.region.Region.{Region}
use Rattle.genie_model.specs.Lemmas.Lists.{Has, has_any, has_left, has_right}
use Rattle.genie_model.specs.State as flat
use Rattle.genie_model.specs.Tables.{entry}
use Rattle.genie_orderly.specs.Orderly.{IsOrderly, region_numbers, orphan_numbers, numbers}
use Rattle.genie_orderly.specs.Lemmas.RegionNumbers.{one, times, times-append, once_each}
use Rattle.genie_kernel.specs.declared.kernel.Kernel.{Kernel}
use Rattle.genie_kernel.specs.Regions.{has_id, owned_regions, process_view, processes_view, region_view, regions_of}
use Rattle.genie_kernel.specs.View.{outline, no_bytes}

abbrev pub ids : List Region → List ℕ
ids rs = map (λ (r : Region). r.id.0) rs

ids_append : (xs ys : List Region) → ids (xs ++ ys) ≡ ids xs ++ ids ys
ids_append [] ys = refl
ids_append (x ∷ xs) ys = ap (λ l. x.id.0 ∷ l) (ids_append xs ys)

times_joined : (n : ℕ) (xs ys : List Region) → times n (ids (xs ++ ys)) ≡ times n (ids xs) + times n (ids ys)
times_joined n xs ys = ap (times n) (ids_append xs ys) ∙ times-append n (ids xs) (ids ys)

module _ (s : ℕ → ℕ → List ℕ) where
  ids_view : (rs : List Region) → map (λ (r : flat.Region). r.number) (map (region_view s) rs) ≡ ids rs
  ids_view [] = refl
  ids_view (r ∷ rs) = ap (λ l. r.id.0 ∷ l) (ids_view rs)

  process_numbers : (p : Option (List Region)) (q : List ℕ) → region_numbers (process_view s p q) ≡ ids (regions_of p)
  process_numbers None q = refl
  process_numbers (Some rs) q = ids_view rs

  pub numbers_view : (ps : List (Option (List Region))) (qs : List (List ℕ)) → flat_map region_numbers (processes_view s ps qs) ≡ ids (owned_regions ps)
  numbers_view [] qs = refl
  numbers_view (p ∷ ps) [] = ap₂ ◌++◌ (process_numbers p []) (numbers_view ps []) ∙ sym (ids_append (regions_of p) (owned_regions ps))
  numbers_view (p ∷ ps) (q ∷ qs) = ap₂ ◌++◌ (process_numbers p q) (numbers_view ps qs) ∙ sym (ids_append (regions_of p) (owned_regions ps))

once_owned : (k : Kernel) (n : ℕ) → IsOrderly (outline k) → times n (ids (owned_regions k.spaces.processes)) ≤ 1
once_owned k n o =
    let all = once_each (numbers (outline k)) o.numbers n in
    let part = times-append n (flat_map region_numbers (outline k).processes) (orphan_numbers (outline k).orphans) in
    let same = ap (times n) (numbers_view (no_bytes k.config.page).seen.entry_bytes k.spaces.processes k.queues) in
    omega (arith, all, part, same)

times_any : (n : ℕ) (rs : List Region) → list_any (has_id n) rs ≡ true → 1 ≤ times n (ids rs)
times_any n [] e = absurd (cc)
times_any n (r ∷ rs) e = elim (r.id.0 == n) as (λ b. (b || list_any (has_id n) rs) ≡ true → 1 ≤ one b + times n (ids rs)) [ true ↦ λ h. omega arith | false ↦ λ h. let later = times_any n rs h in omega (arith, later) ] e

times_at : (n : ℕ) (ps : List (Option (List Region))) (p : ℕ) → times n (ids (regions_of (entry ps p))) ≤ times n (ids (owned_regions ps))
times_at n [] p = omega arith
times_at n (y ∷ ps) zero = omega (arith, times_joined n (regions_of y) (owned_regions ps))
times_at n (y ∷ ps) (suc p) = omega (arith, times_joined n (regions_of y) (owned_regions ps), times_at n ps p)

times_two : (n : ℕ) (ps : List (Option (List Region))) (i p : ℕ) → i ≢ p → times n (ids (regions_of (entry ps i))) + times n (ids (regions_of (entry ps p))) ≤ times n (ids (owned_regions ps))
times_two n [] i p other = omega arith
times_two n (y ∷ ps) zero zero other = absurd (other refl)
times_two n (y ∷ ps) zero (suc p) other = omega (arith, times_joined n (regions_of y) (owned_regions ps), times_at n ps p)
times_two n (y ∷ ps) (suc i) zero other = omega (arith, times_joined n (regions_of y) (owned_regions ps), times_at n ps i)
times_two n (y ∷ ps) (suc i) (suc p) other = omega (arith, times_joined n (regions_of y) (owned_regions ps), times_two n ps i p (λ same. other (ap (λ m. suc m) same)))

-- no other process has a region of the number
pub others_none : (k : Kernel) (n p i : ℕ) (rs : List Region) → IsOrderly (outline k) → entry k.spaces.processes p ≡ Some rs → list_any (has_id n) rs ≡ true → i ≢ p → list_any (has_id n) (regions_of (entry k.spaces.processes i)) ≡ false
others_none k n p i rs o there any other =
    let here : 1 ≤ times n (ids (regions_of (entry k.spaces.processes p))) = subst (λ (x : Option (List Region)). 1 ≤ times n (ids (regions_of x))) (sym there) (times_any n rs any) in
    ⊎_elim
    (λ (yes : list_any (has_id n) (regions_of (entry k.spaces.processes i)) ≡ true). absurd (omega (arith, here, times_any n (regions_of (entry k.spaces.processes i)) yes, times_two n k.spaces.processes i p other, once_owned k n o)))
    (λ no. no)
    (cases_Bool (list_any (has_id n) (regions_of (entry k.spaces.processes i))))

one_number : (n : ℕ) (rs : List Region) → times n (ids rs) ≤ 1 → (a b : Region) → Has a rs → Has b rs → a.id.0 ≡ n → b.id.0 ≡ n → a ≡ b
one_number n [] l a b ha hb ea eb = absurd ha
one_number n (x ∷ rs) l a b (inl e) (inl f) ea eb = sym e ∙ f
one_number n (x ∷ rs) l a b (inl e) (inr f) ea eb =
    let here : one (x.id.0 == n) ≡ 1 = ap one (eq-eqb x.id.0 n (ap (λ (r : Region). r.id.0) e ∙ ea)) in
    let later = times_any n rs (has_any (has_id n) b rs f (eq-eqb b.id.0 n eb)) in
    absurd (omega (arith, l, here, later))
one_number n (x ∷ rs) l a b (inr e) (inl f) ea eb =
    let here : one (x.id.0 == n) ≡ 1 = ap one (eq-eqb x.id.0 n (ap (λ (r : Region). r.id.0) f ∙ eb)) in
    let later = times_any n rs (has_any (has_id n) a rs e (eq-eqb a.id.0 n ea)) in
    absurd (omega (arith, l, here, later))
one_number n (x ∷ rs) l a b (inr e) (inr f) ea eb = one_number n rs (omega (arith, l)) a b e f ea eb

-- of a process one region has it
pub same_region : (k : Kernel) (p : ℕ) (rs : List Region) (a b : Region) → IsOrderly (outline k) → entry k.spaces.processes p ≡ Some rs → Has a rs → Has b rs → a.id.0 ≡ b.id.0 → a ≡ b
same_region k p rs a b o there ha hb same =
    let n = b.id.0 in
    let mine : times n (ids (regions_of (entry k.spaces.processes p))) ≡ times n (ids rs) = ap (λ (x : Option (List Region)). times n (ids (regions_of x))) there in
    one_number n rs (omega (arith, mine, times_at n k.spaces.processes p, once_owned k n o)) a b ha hb same refl

-- it is among those of all processes
pub has_owned : (ps : List (Option (List Region))) (p : ℕ) (rs : List Region) (r : Region) → entry ps p ≡ Some rs → Has r rs → Has r (owned_regions ps)
has_owned [] p rs r e h = absurd (cc)
has_owned (y ∷ ps) zero rs r e h = has_left r (regions_of y) (owned_regions ps) (subst (λ (o : Option (List Region)). Has r (regions_of o)) (sym e) h)
has_owned (y ∷ ps) (suc p) rs r e h = has_right r (regions_of y) (owned_regions ps) (has_owned ps p rs r e h)
