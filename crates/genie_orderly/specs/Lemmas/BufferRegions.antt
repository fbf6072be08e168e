-- The regions that calls reach and that the ends of inputs change.
use Rattle.std.proofs.Common.{◌≡◌, ℕ, ◌+◌, ◌*◌, ◌≤◌, true, ◌&&◌, List, length, map, All, refl, leb-true, add-mul, arith, get_or, replicate, ◌∙◌}
use Rattle.std.specs.Prelude.{Option, Some, nat_le, nat_lt}
use Rattle.std.proofs.lemmas.Bool.{and_parts}
use Rattle.genie_base.specs.Regions.{is_accessible, is_reached, contains_range}
use Rattle.genie_base.specs.declared.region.RegionState.{RegionState}
use Rattle.genie_base.specs.declared.region.RegionState.TheVariants.{Live}
use Rattle.genie_model.specs.State.{State, Region, Process}
use Rattle.genie_model.specs.Tables.{entry}
use Rattle.genie_model.specs.Regions.{extent_of, regions_of, regions_at, reach_of, place_in, change_process, changed, changed_in, change_region, with_state}
use Rattle.genie_orderly.specs.Orderly.{IsRegion, AreApart, RegionsAreApart}
use Rattle.genie_model.specs.Lemmas.Lists.{Has, all_has, find_has, at_entry}
use Rattle.genie_orderly.specs.Lemmas.FoundRegions.{all_of, has_region}
use Rattle.genie_orderly.specs.Lemmas.ChangedRegions.{InPlace, in_place_by}
use Rattle.std.proofs.lemmas.List.{length-replicate}
use Rattle.genie_base.specs.Lemmas.Overlaid.{length-overlaid}
use Rattle.genie_model.specs.Ending.{filled}

pub in_place_state : (s t : State) (k : ℕ) (state : RegionState) (g : Process → Process) → t.processes ≡ map (change_process g) s.processes → t.orphans ≡ s.orphans → ((p : Process) → (g p).regions ≡ map (changed k (with_state state)) p.regions) → InPlace s t k (with_state state)
in_place_state s t k state g processes orphans each = in_place_by s t k (with_state state) g processes each (λ r. refl) (λ r. refl) (λ u j l. rw orphans l)

pub live_place : (s : State) (k : ℕ) → InPlace s (change_region s k (with_state Live)) k (with_state Live)
live_place s k = in_place_state s (change_region s k (with_state Live)) k Live (changed_in k (with_state Live)) refl refl (λ p. refl)

pub filled_place : (s : State) (k : ℕ) (bytes : List ℕ) → InPlace s (change_region s k (filled bytes)) k (filled bytes)
filled_place s k bytes = in_place_by s (change_region s k (filled bytes)) k (filled bytes) (changed_in k (filled bytes)) refl (λ p. refl) (λ r. refl)
    (λ r. length-overlaid 0 bytes (replicate (length r.bytes) 0) ∙ length-replicate {A = ℕ} (length r.bytes) 0) (λ u j l. l)

-- an access reaches a region, and the range lies there
pub record Reaches (s : State) (r : Region) (a n : ℕ) : Type 0 where
  pub there : Has r (all_of s.processes)
  pub accessible : is_accessible r.state ≡ true
  pub within : place_in s r a + n ≤ length r.bytes

pub region_is : (page : ℕ) (ps : List (Option Process)) → All (λ (p : Option Process). AreApart page (regions_of p)) ps → (p : ℕ) (r : Region) → Has r (regions_of (entry ps p)) → IsRegion page r
region_is page ps h p r has = at_entry (λ (o : Option Process). Has r (regions_of o) → IsRegion page r) ps p (λ no. absurd no) (λ k d lt. all_has (IsRegion page) (regions_of (get_or ps k d)) (h k d lt).each r) has

pub reached : (s : State) (p a n : ℕ) (r : Region) → RegionsAreApart s → reach_of s p a n ≡ Some r → Reaches s r a n
reached s p a n r apart e =
    let page : ℕ = s.config.page in
    let has = find_has (λ (q : Region). is_reached page a n (extent_of q)) (regions_at s p) r e in
    let both = and_parts (is_accessible r.state) (contains_range page a n (extent_of r)) has.1 in
    let high = and_parts (nat_le (r.start * page) a && nat_lt a ((r.start + r.pages) * page)) (nat_le (a + n) ((r.start + r.pages) * page)) both.1 in
    let begins = leb-true (r.start * page) a (and_parts (nat_le (r.start * page) a) (nat_lt a ((r.start + r.pages) * page)) high.0).0 in
    let ends = leb-true (a + n) ((r.start + r.pages) * page) high.1 in
    let bytes = (region_is page s.processes apart p r has.0).bytes in
    let sum : (r.start + r.pages) * page ≡ r.start * page + r.pages * page = rw add-mul refl in
    record { there = has_region s p r has.0; accessible = both.0; within = omega (arith, begins, ends, bytes, sum) }
