-- The number of a new region.
use Rattle.std.proofs.Common.{◌≡◌, ℕ, ◌+◌, zero, suc, Bool, true, false, List, [], ◌∷◌, refl, sym, ap, ap₂, subst, ◌∙◌, ⊎_elim, eqb-true}
use Rattle.std.specs.Prelude.{Option, Some, None, ◌==◌, ◌||◌, ◌&&◌, filter, if◌then◌else◌}
use Rattle.std.specs.List.{list_any}
use Rattle.std.proofs.lemmas.Bool.{cases_Bool, or_parts}
use Rattle.genie_region.specs.declared.region.Region.{Region}
use Rattle.genie_orderly.specs.Orderly.{IsOrderly, Lies}
use Rattle.genie_model.specs.Pending.{is_just}
use Rattle.genie_model.specs.Regions as model
use Rattle.genie_model.specs.State as flat
use Rattle.genie_orderly.specs.Lemmas.AddedRegions.{IsFree, unused_free, free_lies}
use Rattle.genie_model.specs.Lemmas.Lists.{any_has, has_map, all_has, any_append}
use Rattle.genie_orderly.specs.Lemmas.RegionNumbers.{fresh_unused, few_numbers}
use Rattle.genie_kernel.specs.declared.kernel.Kernel.{Kernel}
use Rattle.genie_kernel.specs.declared.transfer.Transfer.{Transfer}
use Rattle.genie_kernel.specs.Calls.{names_weakly, region_number, first_waiting}
use Rattle.genie_kernel.specs.Orphans.{is_orphan, orphan_view, all_numbers}
use Rattle.genie_kernel.specs.Regions.{has_id, process_view, processes_view, region_view, regions_of, owned_regions}
use Rattle.genie_kernel.specs.Transfers.{transfer_view}
use Rattle.genie_kernel.specs.View.{Bytes, state_of, outline, no_bytes}
use Rattle.genie_kernel.specs.Lemmas.Processes.{regions_in}
use Rattle.genie_kernel.specs.Lemmas.Tidying.{any_map}

abbrev pub has_region : ℕ → Option (List Region) → Bool
has_region n p = list_any (has_id n) (regions_of p)

number_in : (s : ℕ → ℕ → List ℕ) (n : ℕ) (p : Option (List Region)) (q : List ℕ) → model.has_number n (process_view s p q) ≡ has_region n p
number_in s n p q = ap (list_any (model.is_region n)) (regions_in s p q) ∙ any_map (model.is_region n) (region_view s) (regions_of p)

number_view : (s : ℕ → ℕ → List ℕ) (n : ℕ) (ps : List (Option (List Region))) (qs : List (List ℕ)) → list_any (model.has_number n) (processes_view s ps qs) ≡ list_any (has_region n) ps
number_view s n [] qs = refl
number_view s n (p ∷ ps) [] = ap₂ ◌||◌ (number_in s n p []) (number_view s n ps [])
number_view s n (p ∷ ps) (q ∷ qs) = ap₂ ◌||◌ (number_in s n p q) (number_view s n ps qs)

-- a region or an orphan has this number
abbrev pub used : Kernel → ℕ → Bool
used k n = list_any (λ j. j == n) (filter (is_orphan (owned_regions k.spaces.processes) k.transfers) all_numbers) || list_any (has_region n) k.spaces.processes

pub used_view : (k : Kernel) (b : Bytes) (n : ℕ) → model.is_used (state_of k b) n ≡ used k n
used_view k b n = ap₂ ◌||◌ (any_map (model.is_orphan n) (orphan_view k.config.page b.seen.kept_bytes k.transfers) (filter (is_orphan (owned_regions k.spaces.processes) k.transfers) all_numbers)) (number_view b.seen.entry_bytes n k.spaces.processes k.queues)

least_alike : (s t : flat.State) → ((n : ℕ) → model.is_used s n ≡ model.is_used t n) → (tries n : ℕ) → model.least_unused s tries n ≡ model.least_unused t tries n
unfolding model.least_unused
least_alike s t same zero n = refl
least_alike s t same (suc tries) n = λ i. if same n i then least_alike s t same tries (n + 1) i else n

fresh_alike : (s t : flat.State) → ((n : ℕ) → model.is_used s n ≡ model.is_used t n) → model.fresh s ≡ model.fresh t
unfolding model.fresh
fresh_alike s t same = least_alike s t same 577 0

-- whatever the bytes are
pub fresh_view : (k : Kernel) (b : Bytes) → model.fresh (state_of k b) ≡ model.fresh (outline k)
fresh_view k b = fresh_alike (state_of k b) (outline k) (λ n. used_view k b n ∙ sym (used_view k (no_bytes k.config.page) n))

both_right : (a b : Bool) → (a && b) ≡ true → b ≡ true
both_right true b e = e
both_right false b e = absurd (cc)

named_free : (s : flat.State) (n : ℕ) (u : flat.Transfer) (r : Option ℕ) → IsFree s n → is_just r n ≡ true → Lies s u r → ⊥
named_free s n u None free e lies = absurd (cc)
named_free s n u (Some m) free e lies = free_lies s n u free (subst (λ j. Lies s u (Some j)) (eqb-true m n e) lies)

-- no weak transfer names a number that isn't used
pub unnamed : (k : Kernel) (n : ℕ) → IsOrderly (outline k) → model.is_used (outline k) n ≡ false → list_any (names_weakly n) k.transfers ≡ false
unnamed k n o free = ⊎_elim
    (λ (yes : list_any (names_weakly n) k.transfers ≡ true).
    let t = any_has (names_weakly n) k.transfers yes in
    let view : Transfer → flat.Transfer = transfer_view (no_bytes k.config.page).seen.kept_bytes k.devices k.pools (first_waiting k.transfers) in
    let lies : Lies (outline k) (view t.0) (region_number t.0) = all_has (λ (u : flat.Transfer). Lies (outline k) u u.region) (outline k).transfers o.ranges (view t.0) (has_map view t.0 k.transfers t.1) in
    absurd (named_free (outline k) n (view t.0) (region_number t.0) (unused_free (outline k) n free) (both_right _ _ t.2) lies))
    (λ no. no)
    (cases_Bool (list_any (names_weakly n) k.transfers))

-- so it is of the number of a new region
pub fresh_unnamed : (k : Kernel) → IsOrderly (outline k) → list_any (names_weakly (model.fresh (outline k))) k.transfers ≡ false
fresh_unnamed k o = unnamed k (model.fresh (outline k)) o (fresh_unused (outline k) (few_numbers (outline k) o))

any_joined : (n : ℕ) (ps : List (Option (List Region))) → list_any (has_id n) (owned_regions ps) ≡ list_any (has_region n) ps
any_joined n [] = refl
any_joined n (p ∷ ps) = any_append (has_id n) (regions_of p) (owned_regions ps) ∙ ap (λ b. has_region n p || b) (any_joined n ps)

-- and no process has a region of it
pub fresh_unowned : (k : Kernel) → IsOrderly (outline k) → list_any (has_id (model.fresh (outline k))) (owned_regions k.spaces.processes) ≡ false
fresh_unowned k o =
    let n = model.fresh (outline k) in
    let free = fresh_unused (outline k) (few_numbers (outline k) o) in
    any_joined n k.spaces.processes ∙ sym (number_view (no_bytes k.config.page).seen.entry_bytes n k.spaces.processes k.queues) ∙ (or_parts (list_any (model.is_orphan n) (outline k).orphans) (list_any (model.has_number n) (outline k).processes) free).1
