-- Regions of a process that isn't there yet, beside those of all others.
use Rattle.std.proofs.Common.{◌≡◌, ℕ, ◌+◌, ◌<◌, ◌≤◌, zero, suc, Bool, true, false, not, cond, List, [], ◌∷◌, ◌++◌, refl, sym, ap, subst, arith, rules, ◌∙◌, map, length, filter, set, get_or, inl, inr, ⊎_elim}
use Rattle.std.specs.Prelude.{Option, Some, None, ◌||◌, ◌&&◌, ◌⊎◌, count_by, sum_by, flat_map, nat_le}
use Rattle.std.specs.List.{list_any, list_all}
use Rattle.std.proofs.lemmas.Bool.{cond_both, or_parts}
use Rattle.std.proofs.lemmas.List.{length-append, length-map}
use Rattle.std.proofs.lemmas.List.Sums.{sum_by-append}
use Rattle.genie_base.specs.Lemmas.Places.{num}
use Rattle.genie_base.specs.Regions.{is_free}
use Rattle.genie_region.specs.declared.region.Region.{Region}
use Rattle.genie_region.specs.Layouts.{extent}
use Rattle.genie_orderly.specs.Lemmas.RegionNumbers.{few_numbers_beside, fresh_below, fresh_unused}
use Rattle.genie_orderly.specs.Orderly.{numbers, orphan_numbers, region_numbers}
use Rattle.genie_model.specs.Lemmas.Lists.{Has, any_append, has_either, has_left, has_right}
use Rattle.genie_model.specs.Regions.{fresh, is_used}
use Rattle.genie_model.specs.Tables.{entry}
use Rattle.genie_kernel.specs.declared.kernel.Kernel.{Kernel}
use Rattle.genie_kernel.specs.Calls.{names_weakly}
use Rattle.genie_kernel.specs.Good.{IsGood}
use Rattle.genie_kernel.specs.Orphans.{all_numbers, is_orphan, is_owned, orphan_view}
use Rattle.genie_kernel.specs.Regions.{has_id, owned_regions, processes_view, regions_of}
use Rattle.genie_kernel.specs.View.{outline, no_bytes}
use Rattle.genie_changes.specs.Regions.{with_added}
use Rattle.genie_spaces.specs.Forking.{with_child}
use Rattle.genie_spaces.specs.Marks.{IsLeast, Marks, has_region}
use Rattle.genie_spaces.proofs.Marking.{marks_on, number_fresh, used_numbers}
use Rattle.genie_spaces.proofs.Numbering.{ids, numbers_view}

or_turned : (a b : Bool) → (a || b) ≡ (b || a)
or_turned true true = refl
or_turned true false = refl
or_turned false true = refl
or_turned false false = refl

or_joined : (a b c : Bool) → (a || (b || c)) ≡ ((a || b) || c)
or_joined true b c = refl
or_joined false b c = refl

-- what is so of one of the child's regions, or of another's
pub any_region : (n : ℕ) (ps : List (Option (List Region))) (p : ℕ) (cs : List Region) → entry ps p ≡ None → p < length ps → list_any (has_region n) (set ps p (Some cs)) ≡ (list_any (has_region n) ps || list_any (has_id n) cs)
any_region n [] p cs e l = absurd (omega arith)
any_region n (y ∷ ps) zero cs e l = or_turned (list_any (has_id n) cs) (list_any (has_region n) ps) ∙ ap (λ (o : Option (List Region)). (has_region n o || list_any (has_region n) ps) || list_any (has_id n) cs) (sym e)
any_region n (y ∷ ps) (suc p) cs e l = ap (λ b. has_region n y || b) (any_region n ps p cs e (omega (arith, l))) ∙ or_joined (has_region n y) (list_any (has_region n) ps) (list_any (has_id n) cs)

pub any_owned : (q : Region → Bool) (ps : List (Option (List Region))) (p : ℕ) (cs : List Region) → entry ps p ≡ None → p < length ps → list_any q (owned_regions (set ps p (Some cs))) ≡ (list_any q (owned_regions ps) || list_any q cs)
any_owned q [] p cs e l = absurd (omega arith)
any_owned q (y ∷ ps) zero cs e l =
    any_append q cs (owned_regions ps) ∙ or_turned (list_any q cs) (list_any q (owned_regions ps))
    ∙ ap (λ (o : Option (List Region)). list_any q (regions_of o ++ owned_regions ps) || list_any q cs) (sym e)
any_owned q (y ∷ ps) (suc p) cs e l =
    any_append q (regions_of y) (owned_regions (set ps p (Some cs)))
    ∙ ap (λ b. list_any q (regions_of y) || b) (any_owned q ps p cs e (omega (arith, l)))
    ∙ or_joined (list_any q (regions_of y)) (list_any q (owned_regions ps)) (list_any q cs)
    ∙ ap (λ b. b || list_any q cs) (sym (any_append q (regions_of y) (owned_regions ps)))

pub count_owned : (q : Region → Bool) (ps : List (Option (List Region))) (p : ℕ) (cs : List Region) → entry ps p ≡ None → p < length ps → count_by q (owned_regions (set ps p (Some cs))) ≡ count_by q (owned_regions ps) + count_by q cs
count_owned q [] p cs e l = absurd (omega arith)
count_owned q (y ∷ ps) zero cs e l =
    let a = sum_by-append (λ x. num (q x)) cs (owned_regions ps) in
    let none : count_by q (regions_of y ++ owned_regions ps) ≡ count_by q (owned_regions ps) = ap (λ (o : Option (List Region)). count_by q (regions_of o ++ owned_regions ps)) e in
    omega (arith, a, none)
count_owned q (y ∷ ps) (suc p) cs e l =
    let a = sum_by-append (λ x. num (q x)) (regions_of y) (owned_regions ps) in
    let b = sum_by-append (λ x. num (q x)) (regions_of y) (owned_regions (set ps p (Some cs))) in
    omega (arith, a, b, count_owned q ps p cs e (omega (arith, l)))

length_owned : (ps : List (Option (List Region))) (p : ℕ) (cs : List Region) → entry ps p ≡ None → p < length ps → length (owned_regions (set ps p (Some cs))) ≡ length (owned_regions ps) + length cs
length_owned [] p cs e l = absurd (omega arith)
length_owned (y ∷ ps) zero cs e l =
    let a : length (cs ++ owned_regions ps) ≡ length cs + length (owned_regions ps) = simp length-append in
    let none : length (regions_of y ++ owned_regions ps) ≡ length (owned_regions ps) = ap (λ (o : Option (List Region)). length (regions_of o ++ owned_regions ps)) e in
    omega (arith, a, none)
length_owned (y ∷ ps) (suc p) cs e l =
    let a : length (regions_of y ++ owned_regions ps) ≡ length (regions_of y) + length (owned_regions ps) = simp length-append in
    let b : length (regions_of y ++ owned_regions (set ps p (Some cs))) ≡ length (regions_of y) + length (owned_regions (set ps p (Some cs))) = simp length-append in
    omega (arith, a, b, length_owned ps p cs e (omega (arith, l)))

pub has_owned_set : (ps : List (Option (List Region))) (p : ℕ) (cs : List Region) (r : Region) → Has r (owned_regions (set ps p (Some cs))) → Has r (owned_regions ps) ⊎ Has r cs
has_owned_set [] p cs r h = inl h
has_owned_set (y ∷ ps) zero cs r h = ⊎_elim (λ c. inr c) (λ later. inl (has_right r (regions_of y) (owned_regions ps) later)) (has_either r cs (owned_regions ps) h)
has_owned_set (y ∷ ps) (suc p) cs r h = ⊎_elim
    (λ first. inl (has_left r (regions_of y) (owned_regions ps) first))
    (λ later. ⊎_elim (λ other. inl (has_right r (regions_of y) (owned_regions ps) other)) (λ c. inr c) (has_owned_set ps p cs r later))
    (has_either r (regions_of y) (owned_regions (set ps p (Some cs))) h)

fewer_passing : (p q : ℕ → Bool) (xs : List ℕ) → ((x : ℕ) → p x ≡ true → q x ≡ true) → length (filter p xs) ≤ length (filter q xs)
fewer_passing p q [] h = omega arith
fewer_passing p q (x ∷ xs) h = let rest = fewer_passing p q xs h in
    cond_both (p x) (x ∷ filter p xs) (filter p xs) (λ l. length l ≤ length (filter q (x ∷ xs)))
    (λ t. subst (λ b. suc (length (filter p xs)) ≤ length (cond b (x ∷ filter q xs) (filter q xs))) (sym (h x t)) (omega (arith, rest)))
    (λ f. cond_both (q x) (x ∷ filter q xs) (filter q xs) (λ l. length (filter p xs) ≤ length l) (λ t. omega (arith, rest)) (λ g. rest))

still_orphan : (named a b : Bool) → (named && not (a || b)) ≡ true → (named && not a) ≡ true
still_orphan true false b e = refl
still_orphan true true b e = absurd (cc)
still_orphan false a b e = absurd (cc)

module _ (k : Kernel) (child : ℕ) (cs : List Region) (good : IsGood k) (place : child < 16) (free : entry k.spaces.processes child ≡ None) where
  abbrev ps : List (Option (List Region))
  ps = k.spaces.processes

  abbrev now : List (Option (List Region))
  now = set ps child (Some cs)

  pub inside : child < length ps
  inside = let size = good.spaced.processes in omega (arith, size, place)

  fewer_orphans : length (outline (with_child k child cs)).orphans ≤ length (outline k).orphans
  fewer_orphans =
      let less = fewer_passing (is_orphan (owned_regions now) k.transfers) (is_orphan (owned_regions ps) k.transfers) all_numbers (λ n e. still_orphan (list_any (names_weakly n) k.transfers) (is_owned (owned_regions ps) n) (list_any (has_id n) cs) (sym (ap (λ b. list_any (names_weakly n) k.transfers && not b) (any_owned (has_id n) ps child cs free inside)) ∙ e)) in
      let view = orphan_view k.config.page (no_bytes k.config.page).seen.kept_bytes k.transfers in
      let a : length (map view (filter (is_orphan (owned_regions now) k.transfers) all_numbers)) ≡ length (filter (is_orphan (owned_regions now) k.transfers) all_numbers) = simp length-map in
      let b : length (map view (filter (is_orphan (owned_regions ps) k.transfers) all_numbers)) ≡ length (filter (is_orphan (owned_regions ps) k.transfers) all_numbers) = simp length-map in
      omega (arith, less, a, b)

  numbers_long : (h : Kernel) → length (numbers (outline h)) ≡ length (owned_regions h.spaces.processes) + length (outline h).orphans
  numbers_long h =
      let view = numbers_view (no_bytes h.config.page).seen.entry_bytes h.spaces.processes h.queues in
      let a : length (numbers (outline h)) ≡ length (flat_map region_numbers (outline h).processes) + length (orphan_numbers (outline h).orphans) = simp length-append in
      let b : length (ids (owned_regions h.spaces.processes)) ≡ length (owned_regions h.spaces.processes) = simp length-map in
      let c : length (orphan_numbers (outline h).orphans) ≡ length (outline h).orphans = simp length-map in
      omega (arith, a, b, c, ap length view)

  free_view : entry (outline k).processes child ≡ None
  free_view = Rattle.genie_kernel.specs.Lemmas.Processes.process_entry (no_bytes k.config.page).seen.entry_bytes ps k.queues child ∙ ap (λ (o : Option (List Region)). Rattle.genie_kernel.specs.Regions.process_view (no_bytes k.config.page).seen.entry_bytes o (get_or k.queues child [])) free

  few_now : length cs ≤ 32 → length (numbers (outline (with_child k child cs))) ≤ 576
  few_now few =
      let was = few_numbers_beside (outline k) child good.orderly place free_view in
      omega (arith, few, was, numbers_long k, numbers_long (with_child k child cs), length_owned ps child cs free inside, fewer_orphans)

  -- the number of a further region is that of none of these, and no weak transfer names it
  pub fresh_new : (n : ℕ) → length cs ≤ 32 → n ≡ fresh (outline (with_child k child cs)) → (list_any (has_id n) cs ≡ false) × (list_any (names_weakly n) k.transfers ≡ false)
  fresh_new n few is =
      let h : Kernel = with_child k child cs in
      let below : n < 577 = subst (λ m. m < 577) (sym is) (fresh_below (outline h) (few_now few)) in
      let unused : is_used (outline h) n ≡ false = ap (is_used (outline h)) is ∙ fresh_unused (outline h) (few_now few) in
      let both = or_parts (list_any (has_region n) now) (list_any (names_weakly n) k.transfers) (sym (used_numbers h n below) ∙ unused) in
      let parts = or_parts (list_any (has_region n) ps) (list_any (has_id n) cs) (sym (any_region n ps child cs free inside) ∙ both.0) in
      (parts.1, both.1)

-- once all are marked the first number without a mark is that of a further region
pub number_beside : (k : Kernel) (cs : List Region) (a b c d : List Bool) (r : ℕ) → length k.spaces.processes ≡ 16 → a ≡ Rattle.std.specs.Prelude.replicate 577 false → length a ≡ 577 → Marks (λ n. list_any (has_region n) k.spaces.processes) a b → Marks (λ n. list_any (has_id n) cs) b c → Marks (λ n. list_any (names_weakly n) k.transfers) c d → IsLeast d r → (child : ℕ) → child < 16 → entry k.spaces.processes child ≡ None → r ≡ fresh (outline (with_child k child cs))
number_beside k cs a b c d r size none long x y z least child place free =
    let both = marks_on (λ n. list_any (has_region n) k.spaces.processes) (λ n. list_any (has_id n) cs) (λ n. list_any (has_region n) (set k.spaces.processes child (Some cs))) a b c (λ n. any_region n k.spaces.processes child cs free (omega (arith, size, place))) x y in
    number_fresh (with_child k child cs) a c d r none long both z least

-- a region more in order is one more
pub any_added : (q : Region → Bool) (c : Region) (cs : List Region) → list_any q (with_added c cs) ≡ (q c || list_any q cs)
any_added q c [] = refl
any_added q c (x ∷ cs) = cond_both (nat_le (x.start + x.pages) c.start) (x ∷ with_added c cs) (c ∷ x ∷ cs) (λ l. list_any q l ≡ (q c || list_any q (x ∷ cs)))
    (λ t. ap (λ b. q x || b) (any_added q c cs) ∙ or_joined (q x) (q c) (list_any q cs) ∙ ap (λ b. b || list_any q cs) (or_turned (q x) (q c)) ∙ sym (or_joined (q c) (q x) (list_any q cs)))
    (λ f. refl)

pub length_added : (c : Region) (cs : List Region) → length (with_added c cs) ≡ suc (length cs)
length_added c [] = refl
length_added c (x ∷ cs) = let rest = length_added c cs in cond_both (nat_le (x.start + x.pages) c.start) (x ∷ with_added c cs) (c ∷ x ∷ cs) (λ l. length l ≡ suc (length (x ∷ cs))) (λ t. omega (arith, rest)) (λ f. refl)

pub from_added : (y c : Region) (cs : List Region) → Has y (with_added c cs) → (c ≡ y) ⊎ Has y cs
from_added y c [] h = ⊎_elim inl (λ n. absurd n) h
from_added y c (x ∷ cs) h = cond_both (nat_le (x.start + x.pages) c.start) (x ∷ with_added c cs) (c ∷ x ∷ cs) (λ l. Has y l → (c ≡ y) ⊎ Has y (x ∷ cs))
    (λ t g. ⊎_elim (λ e. inr (inl e)) (λ later. ⊎_elim inl (λ more. inr (inr more)) (from_added y c cs later)) g) (λ f g. g) h

pub to_added : (y c : Region) (cs : List Region) → (c ≡ y) ⊎ Has y cs → Has y (with_added c cs)
to_added y c [] h = h
to_added y c (x ∷ cs) h = cond_both (nat_le (x.start + x.pages) c.start) (x ∷ with_added c cs) (c ∷ x ∷ cs) (λ l. Has y l)
    (λ t. ⊎_elim (λ e. inr (to_added y c cs (inl e))) (λ later. ⊎_elim inl (λ more. inr (to_added y c cs (inr more))) later) h) (λ f. h)

-- pages behind the ends of all regions are free
pub free_behind : (start n : ℕ) (cs : List Region) → ((c : Region) → Has c cs → c.start + c.pages ≤ start) → is_free extent start n cs ≡ true
free_behind start n [] h = refl
free_behind start n (c ∷ cs) h =
    let first : nat_le (c.start + c.pages) start ≡ true = (let l = h c (inl refl) in grind (arith, rules, l)) in
    ap (λ b. (b || nat_le (start + n) c.start) && is_free extent start n cs) first ∙ free_behind start n cs (λ x m. h x (inr m))
