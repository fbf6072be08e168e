-- The regions that are left where one goes.
use Rattle.std.proofs.Common.{◌≡◌, ◌≢◌, ℕ, ◌+◌, ◌<◌, ◌≤◌, zero, suc, Bool, true, false, not, cond, List, [], ◌∷◌, ◌++◌, refl, sym, ap, ap₂, subst, arith, rules, ◌∙◌, ⊎_elim, inl, inr, length, map, filter, get_or, set}
use Rattle.std.specs.Prelude.{Option, Some, None, is_some, All, AllPairs, find, sum_by, count_by, ◌==◌, ◌||◌, if◌then◌else◌}
use Rattle.std.specs.List.{list_any}
use Rattle.std.specs.Option.{option_or}
use Rattle.std.proofs.lemmas.Bool.{cases_eq}
use Rattle.std.proofs.lemmas.List.Elements.{filter-append}
use Rattle.std.proofs.lemmas.List.Folds.{find-append}
use Rattle.std.proofs.lemmas.List.Sums.{sum_by-append, sum_by-cons}
use Rattle.genie_hiding.specs.declared.hidden.Hidden.{Hidden}
use Rattle.genie_object.specs.declared.objects.Entry.{Entry}
use Rattle.genie_object.specs.Objects.{object_at, is_absent}
use Rattle.genie_region.specs.declared.region.Region.{Region}
use Rattle.genie_space.specs.Translations.{IsBacked}
use Rattle.genie_model.specs.Lemmas.Lists.{Has, has_at, find_has, find_none, none_from, has_any, has_left, pairs_head, pairs_tail}
use Rattle.genie_model.specs.Regions.{change_process, is_region}
use Rattle.genie_model.specs.Space.{without_region}
use Rattle.genie_model.specs.State as flat
use Rattle.genie_model.specs.Tables.{entry}
use Rattle.genie_kernel.specs.Backed.{AreBacked, all_regions, has_object, hidden_region}
use Rattle.genie_kernel.specs.Regions.{has_id, owned_regions, regions_of, process_view, processes_view, region_view}
use Rattle.genie_kernel.specs.Lemmas.Staying.{at_least}
use Rattle.genie_changes.specs.Orphans.{IsWithout}
use Rattle.genie_changes.specs.Pages.{FindsOthers}
use Rattle.genie_changes.specs.Regions.{without_number}
use Rattle.genie_changes.specs.Removing.{IsOnlyIn, IsListedIn, DropsObject}
use Rattle.genie_changes.proofs.Matching.{one_if}
use Rattle.genie_changes.proofs.Processes.{all_append, all_front, all_back, all_set, sum_set, all_filtered}

suc_same : (i p : ℕ) → suc i ≡ suc p → i ≡ p
suc_same i p e = omega (arith, e)

abbrev none_if : Bool → ℕ
none_if b = if b then 0 else 1

one_or_none : (b : Bool) → none_if b ≤ 1
one_or_none true = omega arith
one_or_none false = omega arith

-- a list that has none of number n is the same without it
none_less : (n : ℕ) (rs : List Region) → list_any (has_id n) rs ≡ false → without_number n rs ≡ rs
none_less n [] e = refl
none_less n (r ∷ rs) e = elim (has_id n r) as (λ b. (b || list_any (has_id n) rs) ≡ false → cond (not b) (r ∷ without_number n rs) (without_number n rs) ≡ r ∷ rs) [
  | true ↦ λ h. absurd (cc)
  | false ↦ λ h. ap (λ l. r ∷ l) (none_less n rs h)
] e

owned_none : (n : ℕ) (ps : List (Option (List Region))) → ((i : ℕ) → list_any (has_id n) (regions_of (entry ps i)) ≡ false) → without_number n (owned_regions ps) ≡ owned_regions ps
owned_none n [] h = refl
owned_none n (y ∷ ps) h = filter-append (λ q. not (has_id n q)) (regions_of y) (owned_regions ps) ∙ ap₂ ◌++◌ (none_less n (regions_of y) (h 0)) (owned_none n ps (λ i. h (suc i)))

-- the regions of all processes without it
pub owned_left : (n : ℕ) (ps : List (Option (List Region))) (p : ℕ) (rs : List Region) → entry ps p ≡ Some rs → IsOnlyIn n p ps → owned_regions (set ps p (Some (without_number n rs))) ≡ without_number n (owned_regions ps)
owned_left n [] p rs e only = refl
owned_left n (y ∷ ps) zero rs e only =
    sym (filter-append (λ q. not (has_id n q)) (regions_of y) (owned_regions ps)
    ∙ ap₂ ◌++◌ (ap (λ (z : Option (List Region)). without_number n (regions_of z)) e) (owned_none n ps (λ i. only (suc i) (omega arith))))
owned_left n (y ∷ ps) (suc p) rs e only =
    sym (filter-append (λ q. not (has_id n q)) (regions_of y) (owned_regions ps)
    ∙ ap₂ ◌++◌ (none_less n (regions_of y) (only 0 (omega arith))) (sym (owned_left n ps p rs e (λ i ne. only (suc i) (λ same. ne (suc_same i p same))))))

pub found_here : (n : ℕ) (ps : List (Option (List Region))) (p : ℕ) (rs : List Region) (r : Region) → entry ps p ≡ Some rs → find (has_id n) rs ≡ Some r → IsOnlyIn n p ps → find (has_id n) (owned_regions ps) ≡ Some r
found_here n [] p rs r e f only = absurd (cc)
found_here n (y ∷ ps) zero rs r e f only = find-append (has_id n) (regions_of y) (owned_regions ps) ∙ ap (λ o. option_or o (find (has_id n) (owned_regions ps))) (ap (λ (z : Option (List Region)). find (has_id n) (regions_of z)) e ∙ f)
found_here n (y ∷ ps) (suc p) rs r e f only = find-append (has_id n) (regions_of y) (owned_regions ps) ∙ ap (λ o. option_or o (find (has_id n) (owned_regions ps))) (find_none (has_id n) (regions_of y) (only 0 (omega arith))) ∙ found_here n ps p rs r e f (λ i ne. only (suc i) (λ same. ne (suc_same i p same)))

pub gone_left : (n : ℕ) (rs : List Region) → list_any (has_id n) (without_number n rs) ≡ false
gone_left n [] = refl
gone_left n (r ∷ rs) = elim (has_id n r) as (λ b. has_id n r ≡ b → list_any (has_id n) (cond (not b) (r ∷ without_number n rs) (without_number n rs)) ≡ false) [
  | true ↦ λ e. gone_left n rs
  | false ↦ λ e. ap (λ b. b || list_any (has_id n) (without_number n rs)) e ∙ gone_left n rs
] refl

other_fails : (n k : ℕ) (r : Region) → k ≢ n → has_id n r ≡ true → has_id k r ≡ false
other_fails n k r ne e = grind (arith, rules, ne, e)

pub other_found : (n k : ℕ) (rs : List Region) → k ≢ n → find (has_id k) (without_number n rs) ≡ find (has_id k) rs
other_found n k [] ne = refl
other_found n k (r ∷ rs) ne = elim (has_id n r) as (λ b. has_id n r ≡ b → find (has_id k) (cond (not b) (r ∷ without_number n rs) (without_number n rs)) ≡ find (has_id k) (r ∷ rs)) [
  | true ↦ λ e. other_found n k rs ne ∙ sym (ap (λ b. cond b (Some r) (find (has_id k) rs)) (other_fails n k r ne e))
  | false ↦ λ e. ap (cond (has_id k r) (Some r)) (other_found n k rs ne)
] refl

pub other_any : (n k : ℕ) (rs : List Region) → k ≢ n → list_any (has_id k) (without_number n rs) ≡ list_any (has_id k) rs
other_any n k [] ne = refl
other_any n k (r ∷ rs) ne = elim (has_id n r) as (λ b. has_id n r ≡ b → list_any (has_id k) (cond (not b) (r ∷ without_number n rs) (without_number n rs)) ≡ (has_id k r || list_any (has_id k) rs)) [
  | true ↦ λ e. other_any n k rs ne ∙ sym (ap (λ b. b || list_any (has_id k) rs) (other_fails n k r ne e))
  | false ↦ λ e. ap (λ b. has_id k r || b) (other_any n k rs ne)
] refl

pub leaves_others : (ps : List (Option (List Region))) (p : ℕ) (r : Region) (rs : List Region) → entry ps p ≡ Some rs → find (has_id r.id.0) rs ≡ Some r → IsOnlyIn r.id.0 p ps → IsWithout r (owned_regions ps) (owned_regions (set ps p (Some (without_number r.id.0 rs))))
leaves_others ps p r rs e f only =
    let n : ℕ = r.id.0 in
    let left = owned_left n ps p rs e only in
    let found = find_has (has_id n) (owned_regions ps) r (found_here n ps p rs r e f only) in
    record {
      was = has_any (has_id n) r (owned_regions ps) found.0 found.1;
      gone = ap (list_any (has_id n)) left ∙ gone_left n (owned_regions ps);
      others = λ k ne. ap (list_any (has_id k)) left ∙ other_any n k (owned_regions ps) ne;
    }

-- two that are there count as two
two_counted : (f : Region → ℕ) (a b : Region) (rs : List Region) → a.id.0 ≢ b.id.0 → Has a rs → Has b rs → f a + f b ≤ sum_by f rs
two_counted f a b [] ne h k = absurd h
two_counted f a b (x ∷ rs) ne (inl h) (inl k) = absurd (ne (ap (λ (r : Region). r.id.0) (sym h ∙ k)))
two_counted f a b (x ∷ rs) ne (inl h) (inr k) = let same : f x ≡ f a = ap f h in omega (arith, sum_by-cons f x rs, same, at_least f rs b k)
two_counted f a b (x ∷ rs) ne (inr h) (inl k) = let same : f x ≡ f b = ap f k in omega (arith, sum_by-cons f x rs, same, at_least f rs a h)
two_counted f a b (x ∷ rs) ne (inr h) (inr k) = omega (arith, sum_by-cons f x rs, two_counted f a b rs ne h k)

pub objects_differ : (objects : List (List Entry)) (regions : List Region) (a b : Region) → AreBacked objects regions → a.id.0 ≢ b.id.0 → Has a regions → Has b regions → a.object.0 ≢ b.object.0
objects_differ objects regions a b h ne there here same =
    let o : ℕ = b.object.0 in
    let f : Region → ℕ = λ (x : Region). one_if (has_object o x) in
    let first : one_if (has_object o a) ≡ 1 = ap one_if (let is : has_object o a ≡ true = grind (arith, rules, same) in is) in
    let second : one_if (has_object o b) ≡ 1 = ap one_if (let is : has_object o b ≡ true = grind (arith, rules) in is) in
    let one = h.one o in
    let few = one_or_none (is_absent (object_at objects o)) in
    omega (arith, two_counted f a b regions ne there here, first, second, one, few)

pub finds_others : (objects : List (List Entry)) (hidden : List Hidden) (ps : List (Option (List Region))) (p : ℕ) (r : Region) (rs : List Region) → entry ps p ≡ Some rs → find (has_id r.id.0) rs ≡ Some r → IsOnlyIn r.id.0 p ps → AreBacked objects (all_regions ps hidden) → FindsOthers r (owned_regions ps) (owned_regions (set ps p (Some (without_number r.id.0 rs))))
finds_others objects hidden ps p r rs e f only h =
    let n : ℕ = r.id.0 in
    let left = owned_left n ps p rs e only in
    let was = found_here n ps p rs r e f only in
    let there = (find_has (has_id n) (owned_regions ps) r was).0 in
    record {
      was = was;
      gone = ap (find (has_id n)) left ∙ find_none (has_id n) (without_number n (owned_regions ps)) (gone_left n (owned_regions ps));
      others = λ k ne. ap (find (has_id k)) left ∙ other_found n k (owned_regions ps) ne;
      apart = λ k q ne found.
          let is = find_has (has_id k) (owned_regions ps) q found in
          let passes : has_id k q ≡ true = is.1 in
          let differ : q.id.0 ≢ r.id.0 = grind (arith, rules, passes, ne) in
          objects_differ objects (all_regions ps hidden) q r h differ (has_left q (owned_regions ps) (map hidden_region hidden) is.0) (has_left r (owned_regions ps) (map hidden_region hidden) there);
    }

-- the view of processes that don't have it
module _ (s : ℕ → ℕ → List ℕ) (n : ℕ) where
  regions_less : (rs : List Region) → filter (λ (q : flat.Region). not (is_region n q)) (map (region_view s) rs) ≡ map (region_view s) (without_number n rs)
  regions_less [] = refl
  regions_less (r ∷ rs) = elim (has_id n r) as (λ b. cond (not b) (region_view s r ∷ filter (λ (q : flat.Region). not (is_region n q)) (map (region_view s) rs)) (filter (λ (q : flat.Region). not (is_region n q)) (map (region_view s) rs)) ≡ map (region_view s) (cond (not b) (r ∷ without_number n rs) (without_number n rs))) [
    | true ↦ regions_less rs
    | false ↦ ap (λ l. region_view s r ∷ l) (regions_less rs)
  ]

  unlisted : (q : List ℕ) → list_any (λ m. m == n) q ≡ false → filter (λ m. not (m == n)) q ≡ q
  unlisted [] e = refl
  unlisted (x ∷ q) e = elim (x == n) as (λ b. (b || list_any (λ m. m == n) q) ≡ false → cond (not b) (x ∷ filter (λ m. not (m == n)) q) (filter (λ m. not (m == n)) q) ≡ x ∷ q) [
    | true ↦ λ h. absurd (cc)
    | false ↦ λ h. ap (λ l. x ∷ l) (unlisted q h)
  ] e

  process_same : (p : Option (List Region)) (q : List ℕ) → list_any (has_id n) (regions_of p) ≡ false → (is_some p ≡ true → list_any (λ m. m == n) q ≡ false) → process_view s p q ≡ change_process (without_region n) (process_view s p q)
  process_same None q a b = refl
  process_same (Some rs) q a b = λ i. Some (record { queue = sym (unlisted q (b refl)) i; regions = sym (regions_less rs ∙ ap (map (region_view s)) (none_less n rs a)) i })

  process_less : (p : Option (List Region)) (q : List ℕ) (rs : List Region) → p ≡ Some rs → process_view s (Some (without_number n rs)) (filter (λ m. not (m == n)) q) ≡ change_process (without_region n) (process_view s p q)
  process_less p q rs e = ap (λ (l : List flat.Region). Some (record { queue = filter (λ m. not (m == n)) q; regions = l })) (sym (regions_less rs)) ∙ sym (ap (λ (z : Option (List Region)). change_process (without_region n) (process_view s z q)) e)

  others_same : (ps : List (Option (List Region))) (qs : List (List ℕ)) → ((i : ℕ) → list_any (has_id n) (regions_of (entry ps i)) ≡ false) → ((i : ℕ) → is_some (entry ps i) ≡ true → list_any (λ m. m == n) (get_or qs i []) ≡ false) → processes_view s ps qs ≡ map (change_process (without_region n)) (processes_view s ps qs)
  others_same [] qs a b = refl
  others_same (p ∷ ps) [] a b = ap₂ ◌∷◌ (process_same p [] (a 0) (λ live. refl)) (others_same ps [] (λ i. a (suc i)) (λ i live. refl))
  others_same (p ∷ ps) (q ∷ qs) a b = ap₂ ◌∷◌ (process_same p q (a 0) (b 0)) (others_same ps qs (λ i. a (suc i)) (λ i. b (suc i)))

  pub processes_less : (ps : List (Option (List Region))) (qs : List (List ℕ)) (p : ℕ) (rs : List Region) → entry ps p ≡ Some rs → p < length qs → IsOnlyIn n p ps → IsListedIn n p ps qs
      → processes_view s (set ps p (Some (without_number n rs))) (set qs p (filter (λ m. not (m == n)) (get_or qs p []))) ≡ map (change_process (without_region n)) (processes_view s ps qs)
  processes_less ps [] p rs e l only listed = absurd (omega (arith, l))
  processes_less [] (q ∷ qs) p rs e l only listed = absurd (cc)
  processes_less (y ∷ ps) (q ∷ qs) zero rs e l only listed = ap₂ ◌∷◌ (process_less y q rs e) (others_same ps qs (λ i. only (suc i) (omega arith)) (λ i. listed (suc i) (omega arith)))
  processes_less (y ∷ ps) (q ∷ qs) (suc p) rs e l only listed = ap₂ ◌∷◌ (process_same y q (only 0 (omega arith)) (listed 0 (omega arith))) (processes_less ps qs p rs e (omega (arith, l)) (λ i ne. only (suc i) (λ same. ne (suc_same i p same))) (λ i ne. listed (suc i) (λ same. ne (suc_same i p same))))

later_none : (n : ℕ) (x : Region) (rs : List Region) → has_id n x ≡ true → ((y : Region) → Has y rs → x.id.0 ≢ y.id.0) → list_any (has_id n) rs ≡ false
later_none n x rs is differ = none_from (has_id n) rs (λ y there. let ne = differ y there in grind (arith, rules, is, ne))

-- the one that goes takes away what it adds to a sum
pub sum_left : (f : Region → ℕ) (n : ℕ) (r : Region) (rs : List Region) → find (has_id n) rs ≡ Some r → AllPairs (λ (a b : Region). a.id.0 ≢ b.id.0) rs → sum_by f (without_number n rs) + f r ≡ sum_by f rs
sum_left f n r [] e apart = absurd (cc)
sum_left f n r (x ∷ rs) e apart = elim (has_id n x) as (λ b. has_id n x ≡ b → cond b (Some x) (find (has_id n) rs) ≡ Some r → sum_by f (cond (not b) (x ∷ without_number n rs) (without_number n rs)) + f r ≡ sum_by f (x ∷ rs)) [
  | true ↦ λ is h.
      let one : x ≡ r = cc in
      let same : f x ≡ f r = ap f one in
      let none = none_less n rs (later_none n x rs is (pairs_head (λ (a b : Region). a.id.0 ≢ b.id.0) x rs apart)) in
      let all : sum_by f (without_number n rs) ≡ sum_by f rs = ap (sum_by f) none in
      omega (arith, sum_by-cons f x rs, same, all)
  | false ↦ λ is h. omega (arith, sum_by-cons f x rs, sum_by-cons f x (without_number n rs), sum_left f n r rs h (pairs_tail (λ (a b : Region). a.id.0 ≢ b.id.0) x rs apart))
] refl e

module _ (old new : List (List Entry)) (ps : List (Option (List Region))) (hidden : List Hidden) (p : ℕ) (r : Region) (rs : List Region) (e : entry ps p ≡ Some rs) (f : find (has_id r.id.0) rs ≡ Some r) (apart : AllPairs (λ (a b : Region). a.id.0 ≢ b.id.0) rs) (drops : DropsObject r old new) (h : AreBacked old (all_regions ps hidden)) where
  abbrev n : ℕ
  n = r.id.0

  abbrev hs : List Region
  hs = map hidden_region hidden

  abbrev after : List (Option (List Region))
  after = set ps p (Some (without_number n rs))

  one_less : (o : ℕ) → count_by (has_object o) (all_regions after hidden) + one_if (has_object o r) ≡ count_by (has_object o) (all_regions ps hidden)
  one_less o =
      let g : Region → ℕ = λ (x : Region). one_if (has_object o x) in
      omega (arith, sum_by-append g (owned_regions after) hs, sum_by-append g (owned_regions ps) hs, sum_set rs (without_number n rs) g ps p e, sum_left g n r rs f apart)

  none_of_it : count_by (has_object r.object.0) (all_regions after hidden) ≡ 0
  none_of_it =
      let own : one_if (has_object r.object.0 r) ≡ 1 = ap one_if (let is : has_object r.object.0 r ≡ true = grind (arith, rules) in is) in
      let one = h.one r.object.0 in
      let few = one_or_none (is_absent (object_at old r.object.0)) in
      omega (arith, one_less r.object.0, own, one, few)

  others_apart : (q : Region) → Has q (all_regions after hidden) → q.object.0 ≢ r.object.0
  others_apart q there is =
      let one : one_if (has_object r.object.0 q) ≡ 1 = ap one_if (let same : has_object r.object.0 q ≡ true = grind (arith, rules, is) in same) in
      let none = none_of_it in
      let among = at_least (λ (x : Region). one_if (has_object r.object.0 x)) (all_regions after hidden) q there in
      omega (arith, one, none, among)

  each_less : (P : Region → Type 0) → All P (all_regions ps hidden) → All P (all_regions after hidden)
  each_less P a = all_append P (owned_regions after) hs (all_set rs (without_number n rs) P ps p e (all_filtered P (λ q. not (has_id n q)) rs) (all_front P (owned_regions ps) hs a)) (all_back P (owned_regions ps) hs a)

  pub backed_less : AreBacked new (all_regions after hidden)
  backed_less = record {
    each = λ k d l. let q : Region = get_or (all_regions after hidden) k d in drops.others q.object.0 (others_apart q (has_at (all_regions after hidden) k d l)) ∙ each_less (IsBacked old) h.each k d l;
    some = each_less (λ (q : Region). 0 < q.pages) h.some;
    one = λ o. ⊎_elim
        (λ (same : o ≡ r.object.0). subst (λ x. count_by (has_object x) (all_regions after hidden) ≡ none_if (is_absent (object_at new x))) (sym same) (none_of_it ∙ sym (ap none_if drops.absent)))
        (λ (other : o ≢ r.object.0).
        let zero_own : one_if (has_object o r) ≡ 0 = ap one_if (let differ : has_object o r ≡ false = grind (arith, rules, other) in differ) in
        let same : count_by (has_object o) (all_regions after hidden) ≡ count_by (has_object o) (all_regions ps hidden) = omega (arith, one_less o, zero_own) in
        same ∙ h.one o ∙ sym (ap none_if (drops.absences o other)))
        (cases_eq o r.object.0);
  }
