-- Bytes that are put into a region or an orphan of the state.
use Rattle.std.proofs.Common.{◌≡◌, ℕ, ◌+◌, Bool, true, false, not, List, [], ◌∷◌, refl, ap, ap₂, arith, rules, ◌∙◌, map, inl, inr, eqb-true}
use Rattle.std.specs.Prelude.{Option, Some, None, filter, nat_le, nat_lt, slice_index, ◌-◌, ◌==◌, ◌&&◌, if◌then◌else◌}
use Rattle.std.specs.List.{list_any}
use Rattle.genie_base.specs.Lemmas.Overlaid.{overlaid-nothing}
use Rattle.genie_region.specs.declared.region.Region.{Region}
use Rattle.genie_model.specs.Lemmas.Lists.{Has, has_left, has_right}
use Rattle.genie_model.specs.Regions as model
use Rattle.genie_model.specs.Regions.{changed, changed_in, change_process, with_bytes, put, stored_at, stored_in_orphan, is_within_range}
use Rattle.genie_model.specs.State as flat
use Rattle.genie_kernel.specs.declared.transfer.Transfer.{Transfer}
use Rattle.genie_kernel.specs.Calls.{names_weakly}
use Rattle.genie_kernel.specs.Orphans.{is_orphan, is_owned, orphan_view}
use Rattle.genie_kernel.specs.Regions.{owned_regions, process_view, processes_view, region_view, regions_of}

module _ (s t : ℕ → ℕ → List ℕ) (n : ℕ) (f : flat.Region → flat.Region) where
  regions_put : (rs : List Region) → ((r : Region) → Has r rs → region_view t r ≡ changed n f (region_view s r)) → map (region_view t) rs ≡ map (changed n f) (map (region_view s) rs)
  regions_put [] h = refl
  regions_put (r ∷ rs) h = ap₂ ◌∷◌ (h r (inl refl)) (regions_put rs (λ q i. h q (inr i)))

  process_put : (p : Option (List Region)) (q : List ℕ) → ((r : Region) → Has r (regions_of p) → region_view t r ≡ changed n f (region_view s r)) → process_view t p q ≡ change_process (changed_in n f) (process_view s p q)
  process_put None q h = refl
  process_put (Some rs) q h = ap (λ rows. Some (record { queue = q; regions = rows })) (regions_put rs h)

  pub processes_put : (ps : List (Option (List Region))) (qs : List (List ℕ)) → ((r : Region) → Has r (owned_regions ps) → region_view t r ≡ changed n f (region_view s r)) → processes_view t ps qs ≡ map (change_process (changed_in n f)) (processes_view s ps qs)
  processes_put [] qs h = refl
  processes_put (p ∷ ps) [] h = ap₂ ◌∷◌ (process_put p [] (λ r i. h r (has_left r (regions_of p) (owned_regions ps) i))) (processes_put ps [] (λ r i. h r (has_right r (regions_of p) (owned_regions ps) i)))
  processes_put (p ∷ ps) (q ∷ qs) h = ap₂ ◌∷◌ (process_put p q (λ r i. h r (has_left r (regions_of p) (owned_regions ps) i))) (processes_put ps qs (λ r i. h r (has_right r (regions_of p) (owned_regions ps) i)))

-- a number that a process has is no orphan's
module _ (page : ℕ) (s : ℕ → List ℕ) (regions : List Region) (transfers : List Transfer) (n x : ℕ) (bytes : List ℕ) (owned : is_owned regions n ≡ true) where
  owned_apart : (m : ℕ) → is_orphan regions transfers m ≡ true → (m == n) ≡ false
  owned_apart m h = elim (m == n) as (λ b. (m == n) ≡ b → b ≡ false) [
    | true ↦ λ e.
        let same : m ≡ n = eqb-true m n e in
        let is : is_owned regions m ≡ true = ap (is_owned regions) same ∙ owned in
        absurd (both_no (list_any (names_weakly m) transfers) (is_owned regions m) is h)
    | false ↦ λ e. refl
  ] refl
    where
      both_no : (a b : Bool) → b ≡ true → (a && not b) ≡ true → ⊥
      both_no true true e d = absurd (cc)
      both_no true false e d = absurd (cc)
      both_no false true e d = absurd (cc)
      both_no false false e d = absurd (cc)

  orphan_put : (m : ℕ) → is_orphan regions transfers m ≡ true → stored_in_orphan n x bytes (orphan_view page s transfers m) ≡ orphan_view page s transfers m
  orphan_put m h = let no = owned_apart m h in ap (λ b. if b then record (orphan_view page s transfers m) { bytes = map (model.stored_at x bytes) (orphan_view page s transfers m).bytes } else orphan_view page s transfers m) no

  pub orphans_put : (ms : List ℕ) → map (stored_in_orphan n x bytes) (map (orphan_view page s transfers) (filter (is_orphan regions transfers) ms)) ≡ map (orphan_view page s transfers) (filter (is_orphan regions transfers) ms)
  orphans_put [] = refl
  orphans_put (m ∷ ms) = elim (is_orphan regions transfers m) as (λ b. is_orphan regions transfers m ≡ b → map (stored_in_orphan n x bytes) (map (orphan_view page s transfers) (if b then m ∷ filter (is_orphan regions transfers) ms else filter (is_orphan regions transfers) ms)) ≡ map (orphan_view page s transfers) (if b then m ∷ filter (is_orphan regions transfers) ms else filter (is_orphan regions transfers) ms)) [
    | true ↦ λ e. ap₂ ◌∷◌ (orphan_put m e) (orphans_put ms)
    | false ↦ λ e. orphans_put ms
  ] refl

-- nothing is put
region_nothing : (r x : ℕ) (q : flat.Region) → changed r (with_bytes x []) q ≡ q
region_nothing r x q = by (q.number == r)
  where
    by : (b : Bool) → (if b then with_bytes x [] q else q) ≡ q
    by true = ap (λ l. record q { bytes = l }) (overlaid-nothing x q.bytes)
    by false = refl

regions_nothing : (r x : ℕ) (rs : List flat.Region) → map (changed r (with_bytes x [])) rs ≡ rs
regions_nothing r x [] = refl
regions_nothing r x (q ∷ rs) = ap₂ ◌∷◌ (region_nothing r x q) (regions_nothing r x rs)

process_nothing : (r x : ℕ) (p : Option flat.Process) → change_process (changed_in r (with_bytes x [])) p ≡ p
process_nothing r x None = refl
process_nothing r x (Some p) = ap (λ rows. Some (record p { regions = rows })) (regions_nothing r x p.regions)

processes_nothing : (r x : ℕ) (ps : List (Option flat.Process)) → map (change_process (changed_in r (with_bytes x []))) ps ≡ ps
processes_nothing r x [] = refl
processes_nothing r x (p ∷ ps) = ap₂ ◌∷◌ (process_nothing r x p) (processes_nothing r x ps)

pair_nothing : (x : ℕ) (e : ℕ × ℕ) → stored_at x [] e ≡ e
pair_nothing x e =
    let outside : is_within_range x 0 e ≡ false = none_within x e.0 in
    ap (λ b. if b then (e.0, slice_index [] (e.0 - x)) else e) outside
  where
    none_within : (a y : ℕ) → (nat_le a y && nat_lt y (a + 0)) ≡ false
    none_within a y = grind (arith, rules)

pairs_nothing : (x : ℕ) (es : List (ℕ × ℕ)) → map (stored_at x []) es ≡ es
pairs_nothing x [] = refl
pairs_nothing x (e ∷ es) = ap₂ ◌∷◌ (pair_nothing x e) (pairs_nothing x es)

orphan_nothing : (r x : ℕ) (o : flat.Orphan) → stored_in_orphan r x [] o ≡ o
orphan_nothing r x o = by (o.number == r)
  where
    by : (b : Bool) → (if b then record o { bytes = map (stored_at x []) o.bytes } else o) ≡ o
    by true = ap (λ l. record o { bytes = l }) (pairs_nothing x o.bytes)
    by false = refl

orphans_nothing : (r x : ℕ) (os : List flat.Orphan) → map (stored_in_orphan r x []) os ≡ os
orphans_nothing r x [] = refl
orphans_nothing r x (o ∷ os) = ap₂ ◌∷◌ (orphan_nothing r x o) (orphans_nothing r x os)

pub put_nothing : (s : flat.State) (r x : ℕ) → put s r x [] ≡ s
put_nothing s r x = λ i. record s { processes = processes_nothing r x s.processes i; orphans = orphans_nothing r x s.orphans i }
