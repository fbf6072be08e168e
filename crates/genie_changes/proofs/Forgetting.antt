-- A region that is taken out of its process.
use Rattle.std.proofs.Common.{◌≡◌, ◌≢◌, ℕ, ◌<◌, zero, suc, true, false, not, cond, List, [], ◌∷◌, refl, sym, ap, subst, arith, length, map, find}
use Rattle.std.specs.Prelude.{Option, Some, None, unwrap_or, ◌==◌, ◌||◌}
use Rattle.std.specs.List.{list_any}
use Rattle.genie_object.specs.Objects.{object_at}
use Rattle.genie_region.specs.declared.region.Region.{Region}
use Rattle.genie_space.specs.Spaces as spaces
use Rattle.genie_space.specs.Translations.{IsBacked}
use Rattle.genie_model.specs.Lemmas.Lists.{Has, all_has, find_has, has_left, has_right}
use Rattle.genie_model.specs.Tables.{entry}
use Rattle.genie_kernel.specs.declared.kernel.Kernel.{Kernel}
use Rattle.genie_kernel.specs.Backed.{all_regions, hidden_region}
use Rattle.genie_kernel.specs.Regions.{has_id, owned_regions}
use Rattle.genie_changes.specs.Removal.{unlisted}
use Rattle.genie_changes.specs.Settled.{IsSettled}

pub unlisted_same : (n : ℕ) (q : List ℕ) → list_any (λ m. m == n) q ≡ false → q ≡ unlisted n q
unlisted_same n [] e = refl
unlisted_same n (x ∷ q) e = elim (x == n) as (λ b. (b || list_any (λ m. m == n) q) ≡ false → x ∷ q ≡ cond (not b) (x ∷ unlisted n q) (unlisted n q)) [
  | true ↦ λ h. absurd (cc)
  | false ↦ λ h. ap (λ l. x ∷ l) (unlisted_same n q h)
] e

pub record IsFoundIn (k : Kernel) (p : ℕ) (r : Region) : Type 0 where
  pub regions : List Region
  pub there : entry k.spaces.processes p ≡ Some regions
  pub found : find (has_id r.id.0) regions ≡ Some r
  pub same : spaces.regions_of p k.spaces ≡ regions

pub found_in : (k : Kernel) (p : ℕ) (r : Region) → find (has_id r.id.0) (spaces.regions_of p k.spaces) ≡ Some r → IsFoundIn k p r
found_in k p r e = elim (entry k.spaces.processes p) as (λ o. entry k.spaces.processes p ≡ o → find (has_id r.id.0) (unwrap_or o []) ≡ Some r → IsFoundIn k p r) [
  | None ↦ λ is h. absurd (cc)
  | Some rs ↦ λ is h. record { regions = rs; there = is; found = h; same = ap (λ (o : Option (List Region)). unwrap_or o []) is }
] refl e

pub has_owned : (ps : List (Option (List Region))) (p : ℕ) (rs : List Region) (r : Region) → entry ps p ≡ Some rs → Has r rs → Has r (owned_regions ps)
has_owned [] p rs r e h = absurd (cc)
has_owned (y ∷ ps) zero rs r e h = has_left r (unwrap_or y []) (owned_regions ps) (subst (λ (o : Option (List Region)). Has r (unwrap_or o [])) (sym e) h)
has_owned (y ∷ ps) (suc p) rs r e h = has_right r (unwrap_or y []) (owned_regions ps) (has_owned ps p rs r e h)

-- a region has an object
pub object_there : (k : Kernel) (p : ℕ) (r : Region) → IsSettled k → find (has_id r.id.0) (spaces.regions_of p k.spaces) ≡ Some r → object_at k.memory.objects r.object.0 ≢ []
object_there k p r g e none =
    let f = found_in k p r e in
    let all = has_left r (owned_regions k.spaces.processes) (map hidden_region k.hidden) (has_owned k.spaces.processes p f.regions r f.there (find_has (has_id r.id.0) f.regions r f.found).0) in
    let size : IsBacked k.memory.objects r = all_has (IsBacked k.memory.objects) (all_regions k.spaces.processes k.hidden) g.backed.each r all in
    let some : 0 < r.pages = all_has (λ (x : Region). 0 < x.pages) (all_regions k.spaces.processes k.hidden) g.backed.some r all in
    omega (arith, size, some, ap length none)
