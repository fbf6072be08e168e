-- What the invariant gives of regions: their pages, their numbers, and where they are listed.
use Rattle.std.proofs.Common.{◌≡◌, ℕ, ◌<◌, zero, suc, true, false, List, [], ◌∷◌, ◌++◌, refl, sym, ap, subst, arith, ◌∙◌, map, get_or}
use Rattle.std.specs.Prelude.{Option, Some, None, All, IfSome, is_some, flat_map, count_by, ◌==◌, ◌&&◌, ◌||◌}
use Rattle.std.specs.List.{list_any}
use Rattle.std.proofs.lemmas.Bool.{or_parts}
use Rattle.std.proofs.lemmas.List.Sums.{sum_by-cons}
use Rattle.genie_region.specs.declared.region.Region.{Region}
use Rattle.genie_model.specs.Lemmas.Lists.{all_has, has_at, has_map}
use Rattle.genie_model.specs.Regions as model
use Rattle.genie_model.specs.State as flat
use Rattle.genie_model.specs.Tables.{entry}
use Rattle.genie_orderly.specs.Lemmas.AcceptedEvents.{page_some}
use Rattle.genie_orderly.specs.Lemmas.FoundRegions.{all_of}
use Rattle.genie_orderly.specs.Orderly.{AreApart, IsRegion, ListsOut, is_out_region, region_numbers, orphan_numbers, is_out}
use Rattle.genie_kernel.specs.declared.kernel.Kernel.{Kernel}
use Rattle.genie_kernel.specs.Good.{IsGood}
use Rattle.genie_kernel.specs.Regions.{has_id, owned_regions, regions_of, process_view, region_view}
use Rattle.genie_kernel.specs.View.{no_bytes, outline}
use Rattle.genie_kernel.specs.Lemmas.Processes.{process_entry}
use Rattle.genie_changes.specs.Removing.{FitsTables, IsOnlyIn, IsListedIn}
use Rattle.genie_changes.proofs.LeftPages.{regions_seen, map_joined}
use Rattle.genie_changes.proofs.Matching.{one_if}
use Rattle.genie_changes.proofs.Processes.{all_append, all_front}
use Rattle.genie_changes.proofs.Rising.{ids, all_ids}

ids_joined : (ps : List (Option (List Region))) → flat_map ids ps ≡ map (λ (r : Region). r.id.0) (owned_regions ps)
ids_joined [] = refl
ids_joined (p ∷ ps) = ap (λ l. ids p ++ l) (ids_joined ps) ∙ sym (map_joined (λ (r : Region). r.id.0) (regions_of p) (owned_regions ps))

each_joined : (page : ℕ) (ps : List (Option flat.Process)) → All (λ (p : Option flat.Process). AreApart page (model.regions_of p)) ps → All (IsRegion page) (all_of ps)
each_joined page [] a = λ k d l. absurd (omega (arith, l))
each_joined page (p ∷ ps) a = let first : AreApart page (model.regions_of p) = a zero p (omega arith) in all_append (IsRegion page) (model.regions_of p) (all_of ps) first.each (each_joined page ps (λ k d l. a (suc k) d (omega (arith, l))))

pub regions_fit : (k : Kernel) → IsGood k → All FitsTables (owned_regions k.spaces.processes)
regions_fit k g i d l =
    let rs : List Region = owned_regions k.spaces.processes in
    let z : ℕ → ℕ → List ℕ = (no_bytes k.config.page).seen.entry_bytes in
    let r : Region = get_or rs i d in
    let there = has_at rs i d l in
    let numbered : All (λ (n : ℕ). n < 577) (map (λ (q : Region). q.id.0) rs) = subst (All (λ (n : ℕ). n < 577)) (all_ids z k.spaces.processes k.queues ∙ ids_joined k.spaces.processes) (all_front (λ (n : ℕ). n < 577) (flat_map region_numbers (outline k).processes) (orphan_numbers (outline k).orphans) g.orderly.below) in
    let paged : All (IsRegion k.config.page) (map (region_view z) rs) = subst (All (IsRegion k.config.page)) (regions_seen z k.spaces.processes k.queues) (each_joined k.config.page (outline k).processes g.orderly.regions) in
    let is : IsRegion k.config.page (region_view z r) = all_has (IsRegion k.config.page) (map (region_view z) rs) paged (region_view z r) (has_map (region_view z) r rs there) in
    record { low = all_has (λ (n : ℕ). n < 577) (map (λ (q : Region). q.id.0) rs) numbered r.id.0 (has_map (λ (q : Region). q.id.0) r rs there); some = (let s = is.some in omega (arith, s)); most = is.most }

pub page_has_bytes : (k : Kernel) → IsGood k → 0 < k.config.page
page_has_bytes k g = let some = page_some k.config.page g.fits.page in omega (arith, some)

-- what isn't there isn't counted
none_out : (s : ℕ → ℕ → List ℕ) (n : ℕ) (rs : List Region) → list_any (has_id n) rs ≡ false → count_by (is_out_region n) (map (region_view s) rs) ≡ 0
none_out s n [] e = refl
none_out s n (r ∷ rs) e =
    let both = or_parts (has_id n r) (list_any (has_id n) rs) e in
    let here : one_if (is_out_region n (region_view s r)) ≡ 0 = ap (λ b. one_if (b && is_out r.state)) both.0 in
    omega (arith, sum_by-cons (λ (q : flat.Region). one_if (is_out_region n q)) (region_view s r) (map (region_view s) rs), here, none_out s n rs both.1)

none_listed : (n : ℕ) (q : List ℕ) → count_by (λ m. m == n) q ≡ 0 → list_any (λ m. m == n) q ≡ false
none_listed n [] e = refl
none_listed n (x ∷ q) e =
    let all = sum_by-cons (λ m. one_if (m == n)) x q in
    elim (x == n) as (λ b. (x == n) ≡ b → (b || list_any (λ m. m == n) q) ≡ false) [
      | true ↦ λ is. let one : one_if (x == n) ≡ 1 = ap one_if is in absurd (omega (arith, all, one, e))
      | false ↦ λ is. none_listed n q (omega (arith, all, e))
    ] refl

of_live : (s : ℕ → ℕ → List ℕ) (n : ℕ) (o : Option (List Region)) (q : List ℕ) → is_some o ≡ true → list_any (has_id n) (regions_of o) ≡ false → IfSome (process_view s o q) ListsOut → list_any (λ m. m == n) q ≡ false
of_live s n None q live none lists = absurd (cc)
of_live s n (Some rs) q live none lists = none_listed n q (lists n ∙ none_out s n rs none)

-- a process's queue lists no number that none of its regions has
pub listed_none : (k : Kernel) → IsGood k → (i n : ℕ) → is_some (entry k.spaces.processes i) ≡ true → list_any (has_id n) (regions_of (entry k.spaces.processes i)) ≡ false → list_any (λ m. m == n) (get_or k.queues i []) ≡ false
listed_none k g i n live none =
    let z : ℕ → ℕ → List ℕ = (no_bytes k.config.page).seen.entry_bytes in
    let q : List ℕ = get_or k.queues i [] in
    let lists : IfSome (process_view z (entry k.spaces.processes i) q) ListsOut = subst (λ o. IfSome o ListsOut) (process_entry z k.spaces.processes k.queues i) (g.orderly.weak i) in
    of_live z n (entry k.spaces.processes i) q live none lists

pub listed_in : (k : Kernel) (p n : ℕ) → IsGood k → IsOnlyIn n p k.spaces.processes → IsListedIn n p k.spaces.processes k.queues
listed_in k p n g only i ne live = listed_none k g i n live (only i ne)
