-- What the invariant gives of numbers.
use Rattle.std.proofs.Common.{◌≡◌, ◌≢◌, ℕ, zero, suc, true, false, List, [], ◌∷◌, ◌++◌, refl, ap, ap₂, subst, arith, rules, ⊎_elim, inl, inr, length, map, get_or}
use Rattle.std.specs.Prelude.{Option, Some, None, AllPairs, flat_map, ◌||◌}
use Rattle.std.specs.List.{list_any}
use Rattle.std.proofs.lemmas.Bool.{cases_Bool}
use Rattle.genie_region.specs.declared.region.Region.{Region}
use Rattle.genie_model.specs.Lemmas.Lists.{Has, has_left, has_right, pairs_head, pairs_tail}
use Rattle.genie_model.specs.State as flat
use Rattle.genie_model.specs.Tables.{entry}
use Rattle.genie_orderly.specs.Orderly.{region_numbers, orphan_numbers}
use Rattle.genie_kernel.specs.declared.kernel.Kernel.{Kernel}
use Rattle.genie_kernel.specs.declared.transfer.Transfer.{Transfer}
use Rattle.genie_kernel.specs.Calls.{first_waiting}
use Rattle.genie_kernel.specs.Good.{IsGood}
use Rattle.genie_kernel.specs.Regions.{has_id, regions_of, process_view, processes_view, region_view}
use Rattle.genie_kernel.specs.Transfers.{transfer_view}
use Rattle.genie_kernel.specs.View.{no_bytes, outline}
use Rattle.genie_changes.specs.Removing.{TransfersRise, IsOnlyIn}

mapped_at : {X Y : Type 0} (f : X → Y) (xs : List X) (i : ℕ) (d : X) → get_or (map f xs) i (f d) ≡ f (get_or xs i d)
mapped_at f [] i d = refl
mapped_at f (x ∷ xs) zero d = refl
mapped_at f (x ∷ xs) (suc i) d = mapped_at f xs i d

mapped_length : {X Y : Type 0} (f : X → Y) (xs : List X) → length (map f xs) ≡ length xs
mapped_length f [] = refl
mapped_length f (x ∷ xs) = ap (λ n. suc n) (mapped_length f xs)

pub transfers_rise : (k : Kernel) → IsGood k → TransfersRise k
transfers_rise k g =
    let v : Transfer → flat.Transfer = transfer_view (no_bytes k.config.page).seen.kept_bytes k.devices k.pools (first_waiting k.transfers) in
    let long = mapped_length v k.transfers in
    record {
      order = λ i j d l m.
          let rises = g.orderly.transfers.order i j (v d) l (omega (arith, m, long)) in
          let a : (get_or (map v k.transfers) i (v d)).number ≡ (get_or k.transfers i d).id.0 = ap (λ (t : flat.Transfer). t.number) (mapped_at v k.transfers i d) in
          let b : (get_or (map v k.transfers) j (v d)).number ≡ (get_or k.transfers j d).id.0 = ap (λ (t : flat.Transfer). t.number) (mapped_at v k.transfers j d) in
          omega (arith, rises, a, b);
      below = λ i d l.
          let less = g.orderly.transfers.below i (v d) (omega (arith, l, long)) in
          let a : (get_or (map v k.transfers) i (v d)).number ≡ (get_or k.transfers i d).id.0 = ap (λ (t : flat.Transfer). t.number) (mapped_at v k.transfers i d) in
          omega (arith, less, a);
    }

abbrev pub ids : Option (List Region) → List ℕ
ids p = map (λ (r : Region). r.id.0) (regions_of p)

ids_in : (s : ℕ → ℕ → List ℕ) (rs : List Region) → map (λ (r : flat.Region). r.number) (map (region_view s) rs) ≡ map (λ (r : Region). r.id.0) rs
ids_in s [] = refl
ids_in s (r ∷ rs) = ap (λ l. r.id.0 ∷ l) (ids_in s rs)

process_ids : (s : ℕ → ℕ → List ℕ) (p : Option (List Region)) (q : List ℕ) → region_numbers (process_view s p q) ≡ ids p
process_ids s None q = refl
process_ids s (Some rs) q = ids_in s rs

pub all_ids : (s : ℕ → ℕ → List ℕ) (ps : List (Option (List Region))) (qs : List (List ℕ)) → flat_map region_numbers (processes_view s ps qs) ≡ flat_map ids ps
all_ids s [] qs = refl
all_ids s (p ∷ ps) [] = ap₂ ◌++◌ (process_ids s p []) (all_ids s ps [])
all_ids s (p ∷ ps) (q ∷ qs) = ap₂ ◌++◌ (process_ids s p q) (all_ids s ps qs)

module _ {X : Type 0} (R : X → X → Type 0) where
  pairs_cross : (xs ys : List X) → AllPairs R (xs ++ ys) → (x y : X) → Has x xs → Has y ys → R x y
  pairs_cross [] ys a x y h i = absurd h
  pairs_cross (z ∷ xs) ys a x y (inl e) i = subst (λ w. R w y) e (pairs_head R z (xs ++ ys) a y (has_right y xs ys i))
  pairs_cross (z ∷ xs) ys a x y (inr h) i = pairs_cross xs ys (pairs_tail R z (xs ++ ys) a) x y h i

  pairs_rest : (xs ys : List X) → AllPairs R (xs ++ ys) → AllPairs R ys
  pairs_rest [] ys a = a
  pairs_rest (x ∷ xs) ys a = pairs_rest xs ys (pairs_tail R x (xs ++ ys) a)

append_later : (xs ys zs : List ℕ) → (xs ++ ys) ++ zs ≡ xs ++ (ys ++ zs)
append_later [] ys zs = refl
append_later (x ∷ xs) ys zs = ap (λ l. x ∷ l) (append_later xs ys zs)

in_one : (n : ℕ) (ps : List (Option (List Region))) (i : ℕ) → Has n (ids (entry ps i)) → Has n (flat_map ids ps)
in_one n [] i h = h
in_one n (p ∷ ps) zero h = has_left n (ids p) (flat_map ids ps) h
in_one n (p ∷ ps) (suc i) h = has_right n (ids p) (flat_map ids ps) (in_one n ps i h)

-- no number is in two processes
only_once : (n : ℕ) (more : List ℕ) (ps : List (Option (List Region))) (i j : ℕ) → i ≢ j → AllPairs (λ (a b : ℕ). a ≢ b) (flat_map ids ps ++ more) → Has n (ids (entry ps i)) → Has n (ids (entry ps j)) → ⊥
only_once n more [] i j ne a h k = absurd h
only_once n more (p ∷ ps) zero zero ne a h k = ne refl
only_once n more (p ∷ ps) zero (suc j) ne a h k = pairs_cross (λ (x y : ℕ). x ≢ y) (ids p) (flat_map ids ps ++ more) (subst (AllPairs (λ (x y : ℕ). x ≢ y)) (append_later (ids p) (flat_map ids ps) more) a) n n h (has_left n (flat_map ids ps) more (in_one n ps j k)) refl
only_once n more (p ∷ ps) (suc i) zero ne a h k = pairs_cross (λ (x y : ℕ). x ≢ y) (ids p) (flat_map ids ps ++ more) (subst (AllPairs (λ (x y : ℕ). x ≢ y)) (append_later (ids p) (flat_map ids ps) more) a) n n k (has_left n (flat_map ids ps) more (in_one n ps i h)) refl
only_once n more (p ∷ ps) (suc i) (suc j) ne a h k = only_once n more ps i j (λ e. ne (ap (λ m. suc m) e)) (pairs_rest (λ (x y : ℕ). x ≢ y) (ids p) (flat_map ids ps ++ more) (subst (AllPairs (λ (x y : ℕ). x ≢ y)) (append_later (ids p) (flat_map ids ps) more) a)) h k

id_has : (n : ℕ) (rs : List Region) → list_any (has_id n) rs ≡ true → Has n (map (λ (r : Region). r.id.0) rs)
id_has n [] e = absurd (cc)
id_has n (r ∷ rs) e = elim (has_id n r) as (λ b. has_id n r ≡ b → (b || list_any (has_id n) rs) ≡ true → Has n (map (λ (q : Region). q.id.0) (r ∷ rs))) [
  | true ↦ λ is h. inl (grind (arith, rules, is))
  | false ↦ λ is h. inr (id_has n rs h)
] refl e

pub only_in : (k : Kernel) (p n : ℕ) → IsGood k → list_any (has_id n) (regions_of (entry k.spaces.processes p)) ≡ true → IsOnlyIn n p k.spaces.processes
only_in k p n g here i ne = ⊎_elim
    (λ (there : list_any (has_id n) (regions_of (entry k.spaces.processes i)) ≡ true).
    let apart = subst (λ (l : List ℕ). AllPairs (λ (x y : ℕ). x ≢ y) (l ++ orphan_numbers (outline k).orphans)) (all_ids (no_bytes k.config.page).seen.entry_bytes k.spaces.processes k.queues) g.orderly.numbers in
    absurd (only_once n (orphan_numbers (outline k).orphans) k.spaces.processes i p ne apart (id_has n (regions_of (entry k.spaces.processes i)) there) (id_has n (regions_of (entry k.spaces.processes p)) here)))
    (λ none. none)
    (cases_Bool (list_any (has_id n) (regions_of (entry k.spaces.processes i))))
