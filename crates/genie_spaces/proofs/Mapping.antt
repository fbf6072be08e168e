-- What is known of a new region that isn't refused.
use Rattle.std.proofs.Common.{◌≡◌, ◌≢◌, ℕ, ◌-◌, ◌*◌, ◌<◌, ◌≤◌, ◌^◌, Bool, true, false, List, [], ◌∷◌, refl, sym, ap, subst, arith, ◌∙◌, map, length, not}
use Rattle.std.specs.Prelude.{Option, Some, None, IsTrue, is_some, find, unwrap_or, count_by, ◌&&◌, ◌||◌}
use Rattle.std.specs.List.{list_any, list_all, range_with_len}
use Rattle.std.proofs.lemmas.Bool.{not-false}
use Rattle.std.proofs.lemmas.Bool.Decides.{nat_tests}
use Rattle.std.proofs.lemmas.Nat.{mul-le}
use Rattle.genie_base.specs.Counts.{is_page_size}
use Rattle.genie_base.specs.Regions.{is_apart, is_free, place}
use Rattle.genie_base.specs.declared.event.Event.TheVariants.{Alloc, Map}
use Rattle.genie_base.specs.declared.numbers.ObjectId.{ObjectId}
use Rattle.genie_base.specs.declared.numbers.RegionId.{RegionId}
use Rattle.genie_base.specs.declared.refusal.Refusal.{Refusal}
use Rattle.genie_base.specs.declared.refusal.Refusal.TheVariants as cause
use Rattle.genie_base.specs.declared.region.Area.{Area}
use Rattle.genie_base.specs.declared.region.Area.TheVariants.{App, Sys}
use Rattle.genie_base.specs.declared.region.RegionState.TheVariants.{Live}
use Rattle.genie_base.specs.declared.reply.Reply.TheVariants as reply
use Rattle.genie_object.specs.Lemmas.Lookup.{in_range}
use Rattle.genie_object.specs.Objects.{is_absent}
use Rattle.genie_region.specs.declared.region.Region.{Region}
use Rattle.genie_region.specs.Layouts.{extent, region_of}
use Rattle.genie_space.specs.Spaces as spaces
use Rattle.genie_model.specs.Lemmas.Causes.{none_holds}
use Rattle.genie_model.specs.Lemmas.Lists.{find_has, find_none, none_from, none_has}
use Rattle.genie_model.specs.Refusing.{refuse, causes}
use Rattle.genie_model.specs.Regions.{extent_of, fresh, place_of, regions_at}
use Rattle.genie_model.specs.Space as space
use Rattle.genie_model.specs.Tables.{entry}
use Rattle.genie_orderly.specs.Lemmas.AcceptedEvents.{map_accepted, alloc_accepted}
use Rattle.genie_kernel.specs.declared.kernel.Kernel.{Kernel}
use Rattle.genie_kernel.specs.Good.{IsGood}
use Rattle.genie_kernel.specs.Regions.{has_id, owned_regions, regions_of, region_view}
use Rattle.genie_kernel.specs.View.{Bytes, outline, no_bytes, state_of}
use Rattle.genie_kernel.specs.Lemmas.Fresh.{fresh_unowned}
use Rattle.genie_kernel.specs.Lemmas.Processes.{alive_view, regions_view}
use Rattle.genie_room.specs.Places.{ObjectsSuffice}
use Rattle.genie_spaces.specs.Clearing.{Clears, HasRoom}
use Rattle.genie_spaces.proofs.Adding.{IsNewRegion}
use Rattle.genie_spaces.proofs.Numbering.{has_owned}

-- a process may get a region of this number and these pages
pub record MayAdd (s : spaces.AddressSpaces) (p start n : ℕ) (id : RegionId) : Type 0 where
  pub alive : spaces.is_alive p s ≡ true
  pub few : length (spaces.regions_of p s) < 32
  pub free : is_free extent start n (spaces.regions_of p s) ≡ true
  pub new : region_of id (spaces.regions_of p s) ≡ None

pub may_in : (k h : Kernel) (p start n : ℕ) (id : RegionId) → Clears k h → MayAdd k.spaces p start n id → MayAdd h.spaces p start n id
may_in k h p start n id c may = let same : h.spaces ≡ k.spaces = ap (λ (x : Kernel). x.spaces) c.only in subst (λ (s : spaces.AddressSpaces). MayAdd s p start n id) (sym same) may

all_map : {X Y : Type 0} (q : Y → Bool) (f : X → Y) (xs : List X) → list_all q (map f xs) ≡ list_all (λ x. q (f x)) xs
all_map q f [] = refl
all_map q f (x ∷ xs) = ap (λ b. q (f x) && b) (all_map q f xs)

known : {X : Type 0} (o : Option X) → is_some o ≡ true → (x : X) × (o ≡ Some x)
known None e = absurd (cc)
known (Some x) e = (x, refl)

second : (a b : Bool) → (a || not b) ≡ false → b ≡ true
second true b e = absurd (cc)
second false true e = refl
second false false e = absurd (cc)

free_view : (k : Kernel) (b : Bytes) (p start n : ℕ) → is_free extent_of start n (regions_at (state_of k b) p) ≡ is_free extent start n (regions_of (entry k.spaces.processes p))
free_view k b p start n = ap (list_all (λ r. is_apart start n (extent_of r))) (regions_view b.seen.entry_bytes k.spaces.processes k.queues p) ∙ all_map (λ r. is_apart start n (extent_of r)) (region_view b.seen.entry_bytes) (regions_of (entry k.spaces.processes p))

mapped_long : {X Y : Type 0} (f : X → Y) (xs : List X) → length (map f xs) ≡ length xs
mapped_long f [] = refl
mapped_long f (x ∷ xs) = let rest = mapped_long f xs in omega (arith, rest)

few_view : (k : Kernel) (p : ℕ) → length (regions_at (outline k) p) < 32 → length (spaces.regions_of p k.spaces) < 32
few_view k p l =
    let s = (no_bytes k.config.page).seen.entry_bytes in
    let same = ap length (regions_view s k.spaces.processes k.queues p) ∙ mapped_long (region_view s) (regions_of (entry k.spaces.processes p)) in
    omega (arith, l, same)

none_of_number : (k : Kernel) (p : ℕ) (id : RegionId) (rs : List Region) → IsGood k → id.0 ≡ fresh (outline k) → entry k.spaces.processes p ≡ Some rs → region_of id rs ≡ None
none_of_number k p id rs good is there =
    let unowned : list_any (has_id id.0) (owned_regions k.spaces.processes) ≡ false = subst (λ n. list_any (has_id n) (owned_regions k.spaces.processes) ≡ false) (sym is) (fresh_unowned k good.orderly) in
    find_none (has_id id.0) rs (none_from (has_id id.0) rs (λ x h. none_has (has_id id.0) x (owned_regions k.spaces.processes) (has_owned k.spaces.processes p rs x there h) unowned))

none_there : (k : Kernel) (p : ℕ) (id : RegionId) (rs : List Region) → IsGood k → id.0 ≡ fresh (outline k) → entry k.spaces.processes p ≡ Some rs → region_of id (spaces.regions_of p k.spaces) ≡ None
none_there k p id rs good is there = ap (λ (o : Option (List Region)). region_of id (unwrap_or o [])) there ∙ none_of_number k p id rs good is there

alive_known : (k : Kernel) (p : ℕ) (b : Bool) → b ≡ false → b ≡ not (is_some (entry (outline k).processes p)) → is_some (entry k.spaces.processes p) ≡ true
alive_known k p b e is = sym (alive_view (no_bytes k.config.page).seen.entry_bytes k.spaces.processes k.queues p) ∙ not-false _ (sym is ∙ e)

abbrev pub new_region : RegionId → Area → ℕ → ℕ → ObjectId → Region
new_region id area start pages object = record { id = id; start = start; pages = pages; area = area; state = Live; writable = true; object = object }

pub may_map : (k : Kernel) (p g n : ℕ) (id : RegionId) → IsGood k → refuse (outline k) (Map p g n) ≡ None → id.0 ≡ fresh (outline k) → MayAdd k.spaces p g n id
may_map k p g n id good accepted is =
    let none = none_holds (causes (outline k) (Map p g n)) accepted in
    let d : Bool × Refusal = (true, cause.Proc) in
    let alive = alive_known k p _ (none 0 d (omega arith)) refl in
    let there = known (entry k.spaces.processes p) alive in record {
      alive = alive;
      few = few_view k p (map_accepted (outline k) p g n accepted).few;
      free = sym (free_view k (no_bytes k.config.page) p g n) ∙ second _ _ (none 2 d (omega arith));
      new = none_there k p id there.0 good is there.1;
    }

pub map_new : (k : Kernel) (p g n : ℕ) (id : RegionId) (o : ObjectId) → IsGood k → refuse (outline k) (Map p g n) ≡ None → id.0 ≡ fresh (outline k) → IsNewRegion k p (Map p g n) reply.Okay (new_region id App g n o)
map_new k p g n id o good accepted is =
    let may = may_map k p g n id good accepted is in
    let there = known (entry k.spaces.processes p) may.alive in
    record { whole = refl; accepted = accepted; regions = there.0; there = there.1; id = is; writable = refl; some = (let new = map_accepted (outline k) p g n accepted in omega (arith, new.some)); unfailed = refl; performs = λ b. refl }

-- room for the object
pub object_room : ObjectsSuffice → (h : Kernel) (p : ℕ) → IsGood h → spaces.is_alive p h.spaces ≡ true → HasRoom p h → count_by (λ o. not (is_absent o)) h.memory.objects < 512
object_room law h p good alive room =
    let there = known (entry h.spaces.processes p) alive in
    let below = in_range h.spaces.processes p None (λ none. let no : Some there.0 ≡ None = sym there.1 ∙ none in cc) in
    law h.memory.objects h.spaces.processes h.hidden good.backed good.few good.spaced.processes p (let size = good.spaced.processes in omega (arith, below, size)) room

-- the place is that of the flat machine
place_view : (k : Kernel) (b : Bytes) (p n : ℕ) → place_of (state_of k b) p n ≡ place extent n (spaces.regions_of p k.spaces)
place_view k b p n = λ i. find (λ start. free_view k b p start n i) (range_with_len 512 (513 - n))

pub may_alloc : (k : Kernel) (p n start : ℕ) (id : RegionId) → IsGood k → refuse (outline k) (Alloc p n) ≡ None → id.0 ≡ fresh (outline k) → place extent n (spaces.regions_of p k.spaces) ≡ Some start → MayAdd k.spaces p start n id
may_alloc k p n start id good accepted is at =
    let none = none_holds (causes (outline k) (Alloc p n)) accepted in
    let alive = alive_known k p _ (none 0 (true, cause.Proc) (omega arith)) refl in
    let there = known (entry k.spaces.processes p) alive in record {
      alive = alive;
      few = few_view k p (alloc_accepted (outline k) p n accepted).few;
      free = (find_has (λ x. is_free extent x n (spaces.regions_of p k.spaces)) (range_with_len 512 (513 - n)) start at).1;
      new = none_there k p id there.0 good is there.1;
    }

pub alloc_alive : (k : Kernel) (p n : ℕ) → refuse (outline k) (Alloc p n) ≡ None → spaces.is_alive p k.spaces ≡ true
alloc_alive k p n accepted = alive_known k p _ (none_holds (causes (outline k) (Alloc p n)) accepted 0 (true, cause.Proc) (omega arith)) refl

pub alloc_place : (k : Kernel) (p n : ℕ) → refuse (outline k) (Alloc p n) ≡ None → place extent n (spaces.regions_of p k.spaces) ≢ None
alloc_place k p n accepted none =
    let some : is_some (place_of (outline k) p n) ≡ true = not-false _ (none_holds (causes (outline k) (Alloc p n)) accepted 3 (true, cause.Proc) (omega arith)) in
    let no : is_some (place_of (outline k) p n) ≡ false = ap is_some (place_view k (no_bytes k.config.page) p n ∙ none) in cc

pub alloc_ends : (k : Kernel) (p n start : ℕ) → refuse (outline k) (Alloc p n) ≡ None → place extent n (spaces.regions_of p k.spaces) ≡ Some start → start ≤ 1024
alloc_ends k p n start accepted at =
    let area = (alloc_accepted (outline k) p n accepted).area in
    let same : unwrap_or (place_of (outline k) p n) 0 ≡ start = ap (λ (o : Option ℕ). unwrap_or o 0) (place_view k (no_bytes k.config.page) p n ∙ at) in
    omega (arith, area.1, same)

page_high : (page : ℕ) → IsTrue (is_page_size page) → page ≤ 4096
page_high page e = grind (arith, nat_tests)

-- its address fits
pub alloc_fits : (k : Kernel) (p n start page : ℕ) → refuse (outline k) (Alloc p n) ≡ None → place extent n (spaces.regions_of p k.spaces) ≡ Some start → IsTrue (is_page_size page) → start * page < 2 ^ 32
alloc_fits k p n start page accepted at size = let low = mul-le start page 1024 4096 (alloc_ends k p n start accepted at) (page_high page size) in omega (arith, low)

pub alloc_new : (k : Kernel) (p n start : ℕ) (id : RegionId) (o : ObjectId) → IsGood k → refuse (outline k) (Alloc p n) ≡ None → id.0 ≡ fresh (outline k) → place extent n (spaces.regions_of p k.spaces) ≡ Some start → IsNewRegion k p (Alloc p n) (reply.At (start * k.config.page)) (new_region id Sys start n o)
alloc_new k p n start id o good accepted is at =
    let may = may_alloc k p n start id good accepted is at in
    let there = known (entry k.spaces.processes p) may.alive in
    record {
      whole = refl;
      accepted = accepted;
      regions = there.0;
      there = there.1;
      id = is;
      writable = refl;
      some = (let new = alloc_accepted (outline k) p n accepted in omega (arith, new.some));
      unfailed = refl;
      performs = λ b. let same : unwrap_or (place_of (state_of k b) p n) 0 ≡ start = ap (λ (x : Option ℕ). unwrap_or x 0) (place_view k b p n ∙ at) in
          ap (λ (x : ℕ). (space.tidy (space.add_region (state_of k b) p (space.zeros (state_of k b) Sys Live x n)), reply.At (x * k.config.page))) same;
    }
