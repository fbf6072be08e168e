-- The region that a posted input of the system's fills.
use Rattle.std.proofs.Common.{◌≡◌, ◌≢◌, ℕ, ◌<◌, zero, suc, true, false, List, [], ◌∷◌, ◌++◌, refl, sym, ap, ap₂, subst, arith, rules, ◌∙◌, inl, inr, ⊎_elim, map, find, length, get_or}
use Rattle.std.specs.Prelude.{Option, Some, None, IfSome, is_some, count_by, not, option_and_then, ◌&&◌, ◌||◌, ◌==◌, if◌then◌else◌}
use Rattle.std.specs.Option.{option_map}
use Rattle.std.specs.List.{list_any}
use Rattle.std.proofs.lemmas.Bool.{cases_eq}
use Rattle.std.proofs.lemmas.List.Sums.{sum_by-cons}
use Rattle.genie_base.specs.Lemmas.Places.{num}
use Rattle.genie_base.specs.declared.numbers.RegionId.{RegionId}
use Rattle.genie_base.specs.declared.region.RegionState.{RegionState}
use Rattle.genie_base.specs.declared.region.RegionState.TheVariants.{Live, Out, In, Held}
use Rattle.genie_base.specs.Transfers.{class_of}
use Rattle.genie_hiding.specs.Queues.{is_in}
use Rattle.genie_region.specs.declared.region.Region.{Region}
use Rattle.genie_region.specs.Layouts as layouts
use Rattle.genie_space.specs.Spaces.{AddressSpaces, process, is_alive}
use Rattle.genie_space.specs.Spaces as spaces
use Rattle.genie_model.specs.Ending.{region_of}
use Rattle.genie_model.specs.Lemmas.Lists.{Has, all_has, any_found, find_append, find_has, find_none, has_any, has_either, has_map, or_next}
use Rattle.genie_model.specs.Pending.{is_inward, is_posted}
use Rattle.genie_model.specs.Regions as model
use Rattle.genie_model.specs.State as flat
use Rattle.genie_model.specs.Tables.{entry}
use Rattle.genie_orderly.specs.Lemmas.FoundRegions.{all_of, region_found}
use Rattle.genie_orderly.specs.Orderly.{IsFilled, ListsOut, awaited, fills, fills_state, is_in as is_in_state, is_held, is_out, is_out_region}
use Rattle.genie_room.specs.Places.{QueuesSuffice}
use Rattle.genie_kernel.specs.declared.kernel.Kernel.{Kernel}
use Rattle.genie_kernel.specs.declared.transfer.Transfer.{Transfer}
use Rattle.genie_kernel.specs.Calls.{has_number, is_named, region_number}
use Rattle.genie_kernel.specs.Good.{IsGood}
use Rattle.genie_kernel.specs.Regions.{has_id, owned_regions, regions_of, process_view, processes_view, region_view}
use Rattle.genie_kernel.specs.View.{Bytes, state_of, outline, no_bytes}
use Rattle.genie_kernel.specs.Lemmas.Processes.{find_map, process_entry, regions_in, regions_view}
use Rattle.genie_kernel.specs.Lemmas.Staying.{at_least}
use Rattle.genie_changes.specs.Removing.{IsOnlyIn}
use Rattle.genie_changes.specs.Settled.{GoodIsSettled}
use Rattle.genie_endings.specs.declared.region.Placed.{Placed}
use Rattle.genie_endings.specs.Named.{named, placed_in}
use Rattle.genie_endings.proofs.Phases.{seen_as}

-- the regions of the view are those of all processes
all_seen : (s : ℕ → ℕ → List ℕ) (ps : List (Option (List Region))) (qs : List (List ℕ)) → all_of (processes_view s ps qs) ≡ map (region_view s) (owned_regions ps)
all_seen s [] qs = refl
all_seen s (p ∷ ps) [] = ap₂ ◌++◌ (regions_in s p []) (all_seen s ps []) ∙ sym (map_joined (regions_of p) (owned_regions ps)) where
  map_joined : (xs ys : List Region) → map (region_view s) (xs ++ ys) ≡ map (region_view s) xs ++ map (region_view s) ys
  map_joined [] ys = refl
  map_joined (x ∷ xs) ys = ap (λ l. region_view s x ∷ l) (map_joined xs ys)
all_seen s (p ∷ ps) (q ∷ qs) = ap₂ ◌++◌ (regions_in s p q) (all_seen s ps qs) ∙ sym (map_joined (regions_of p) (owned_regions ps)) where
  map_joined : (xs ys : List Region) → map (region_view s) (xs ++ ys) ≡ map (region_view s) xs ++ map (region_view s) ys
  map_joined [] ys = refl
  map_joined (x ∷ xs) ys = ap (λ l. region_view s x ∷ l) (map_joined xs ys)

numbered_seen : (k : Kernel) (b : Bytes) (j : ℕ) → model.region_numbered (state_of k b) j ≡ option_map (region_view b.seen.entry_bytes) (find (has_id j) (owned_regions k.spaces.processes))
numbered_seen k b j = region_found (state_of k b) j ∙ ap (find (model.is_region j)) (all_seen b.seen.entry_bytes k.spaces.processes k.queues) ∙ find_map (model.is_region j) (region_view b.seen.entry_bytes) (owned_regions k.spaces.processes)

found_here : (n : ℕ) (ps : List (Option (List Region))) (p : ℕ) (rs : List Region) (r : Region) → entry ps p ≡ Some rs → find (has_id n) rs ≡ Some r → IsOnlyIn n p ps → find (has_id n) (owned_regions ps) ≡ Some r
found_here n [] p rs r e f only = absurd (cc)
found_here n (y ∷ ps) zero rs r e f only = find_append (has_id n) (regions_of y) (owned_regions ps) ∙ ap (λ o. or_next o (find (has_id n) (owned_regions ps))) (ap (λ (z : Option (List Region)). find (has_id n) (regions_of z)) e ∙ f)
found_here n (y ∷ ps) (suc p) rs r e f only = find_append (has_id n) (regions_of y) (owned_regions ps) ∙ ap (λ o. or_next o (find (has_id n) (owned_regions ps))) (find_none (has_id n) (regions_of y) (only 0 (omega arith))) ∙ found_here n ps p rs r e f (λ i ne. only (suc i) (omega (arith, ne)))

-- a region of all is one of a process
owner_of : (r : Region) (ps : List (Option (List Region))) → Has r (owned_regions ps) → (q : ℕ) × Has r (regions_of (entry ps q))
owner_of r [] h = absurd h
owner_of r (p ∷ ps) h = ⊎_elim (λ first. (0, first)) (λ later. let l = owner_of r ps later in (suc l.0, l.1)) (has_either r (regions_of p) (owned_regions ps) h)

-- the region that a transfer names, in the process that owns the transfer
pub record IsNamed (ps : List (Option (List Region))) (owner : Option ℕ) (region : Option RegionId) (p : ℕ) (r : Region) : Type 0 where
  pub owned : owner ≡ Some p
  pub number : option_map (λ (j : RegionId). j.0) region ≡ Some r.id.0
  pub regions : List Region
  pub there : entry ps p ≡ Some regions
  pub found : find (has_id r.id.0) regions ≡ Some r

in_some : (o : Option (List Region)) (n : ℕ) (r : Region) → find (has_id n) (regions_of o) ≡ Some r → (l : List Region) × (o ≡ Some l) × (find (has_id n) l ≡ Some r)
in_some None n r e = absurd (cc)
in_some (Some l) n r e = (l, refl, e)

pub named_is : (s : AddressSpaces) (owner : Option ℕ) (region : Option RegionId) (x : Placed) → named s owner region ≡ Some x → IsNamed s.processes owner region x.pid x.region
named_is s None region x e = absurd (cc)
named_is s (Some p) None x e = absurd (cc)
named_is s (Some p) (Some j) x e = by_found (layouts.region_of j (spaces.regions_of p s)) refl e where
  by_found : (o : Option Region) → layouts.region_of j (spaces.regions_of p s) ≡ o → option_map (placed_in p) o ≡ Some x → IsNamed s.processes (Some p) (Some j) x.pid x.region
  by_found None f h = absurd (cc)
  by_found (Some r) f h =
      let same : placed_in p r ≡ x = cc in
      let passes : has_id j.0 r ≡ true = (find_has (has_id j.0) (spaces.regions_of p s) r f).1 in
      let number : r.id.0 ≡ j.0 = grind (arith, rules, passes) in
      let at = in_some (process p s) j.0 r f in
      subst (λ (y : Placed). IsNamed s.processes (Some p) (Some j) y.pid y.region) same (record { owned = refl; number = ap (λ i. Some i) (sym number); regions = at.0; there = at.1; found = subst (λ i. find (has_id i) at.0 ≡ Some r) (sym number) at.2 })

pub named_not : (s : AddressSpaces) (owner : Option ℕ) (region : Option RegionId) (q : ℕ) (r : Region) → named s owner region ≡ None → owner ≡ Some q → option_map (λ (j : RegionId). j.0) region ≡ Some r.id.0 → Has r (regions_of (entry s.processes q)) → ⊥
named_not s None region q r e o n h = absurd (cc)
named_not s (Some p) None q r e o n h = absurd (cc)
named_not s (Some p) (Some j) q r e o n h =
    let same : p ≡ q = cc in
    let number : j.0 ≡ r.id.0 = cc in
    let here : Has r (regions_of (entry s.processes p)) = subst (λ i. Has r (regions_of (entry s.processes i))) (sym same) h in
    let some = any_found (has_id j.0) (regions_of (entry s.processes p)) (has_any (has_id j.0) r (regions_of (entry s.processes p)) here (grind (arith, rules, number))) in
    let clash : Some (placed_in p some.0) ≡ None = sym (ap (option_map (placed_in p)) some.1) ∙ e in
    absurd (cc)

pub named_true : (region : Option RegionId) (j : ℕ) → option_map (λ (i : RegionId). i.0) region ≡ Some j → is_named region j ≡ true
named_true None j e = absurd (cc)
named_true (Some i) j e = let same : i.0 ≡ j = cc in grind (arith, rules, same)

one_in : (state : RegionState) → 0 < (if is_in_state state then 1 else 0) → In ≡ state
one_in Live l = absurd (omega (arith, l))
one_in Out l = absurd (omega (arith, l))
one_in In l = refl
one_in Held l = absurd (omega (arith, l))

one_held : (state : RegionState) → 0 < (if is_held state then 1 else 0) → Held ≡ state
one_held Live l = absurd (omega (arith, l))
one_held Out l = absurd (omega (arith, l))
one_held In l = absurd (omega (arith, l))
one_held Held l = refl

awaited_is : (state is : RegionState) → 0 < awaited state is → is ≡ state
awaited_is state Live l = absurd (omega (arith, l))
awaited_is state Out l = absurd (omega (arith, l))
awaited_is state In l = one_in state l
awaited_is state Held l = one_held state l

module _ (k : Kernel) (n : ℕ) (t : Transfer) (state : RegionState) (g : IsGood k) (found : find (has_number n) k.transfers ≡ Some t) (posted : is_posted t.phase ≡ true) (suits : fills_state state (class_of t.sem) ≡ true) where
  abbrev ps : List (Option (List Region))
  ps = k.spaces.processes

  abbrev z : Bytes
  z = no_bytes k.config.page

  abbrev v : flat.Transfer
  v = seen_as k z t

  seen_there : Has v (outline k).transfers
  seen_there = has_map (seen_as k z) t k.transfers (find_has (has_number n) k.transfers t found).0

  inward : is_inward t.dir ≡ true
  inward = all_has (λ (u : flat.Transfer). is_posted u.phase ≡ true → is_inward u.direction ≡ true) (outline k).transfers g.orderly.posted v seen_there posted

  fills_it : (j : ℕ) → is_named t.region j ≡ true → fills state j v ≡ true
  fills_it j named = ap (λ b. b && fills_state state (class_of t.sem) && is_named t.region j) inward ∙ ap (λ b. b && is_named t.region j) suits ∙ named

  filled : (q : ℕ) (r : Region) → Has r (regions_of (entry ps q)) → IsFilled (outline k).transfers q r.id.0 r.state
  filled q r there = all_has (λ (x : flat.Region). IsFilled (outline k).transfers q x.number x.state) (model.regions_at (outline k) q) (g.orderly.filled q) (region_view z.seen.entry_bytes r) (subst (Has (region_view z.seen.entry_bytes r)) (sym (regions_view z.seen.entry_bytes ps k.queues q)) (has_map (region_view z.seen.entry_bytes) r (regions_of (entry ps q)) there))

  owner_has : (q : ℕ) (r : Region) → Has r (regions_of (entry ps q)) → is_named t.region r.id.0 ≡ true → t.owner ≡ Some q
  owner_has q r there named = all_has (λ (u : flat.Transfer). fills state r.id.0 u ≡ true → u.owner ≡ Some q) (outline k).transfers ((filled q r there).own state) v seen_there (fills_it r.id.0 named)

  -- the region is in the state that such an input fills
  pub state_is : (q : ℕ) (r : Region) → Has r (regions_of (entry ps q)) → is_named t.region r.id.0 ≡ true → r.state ≡ state
  state_is q r there named =
      let counted = (filled q r there).one state in
      let one : num (fills state r.id.0 v) ≡ 1 = ap num (fills_it r.id.0 named) in
      let least = at_least (λ (u : flat.Transfer). num (fills state r.id.0 u)) (outline k).transfers v seen_there in
      awaited_is state r.state (omega (arith, counted, one, least))

  pub region_some : (settled : GoodIsSettled) (b : Bytes) (p : ℕ) (r : Region) → IsNamed ps t.owner t.region p r → region_of (state_of k b) (seen_as k b t) ≡ Some (region_view b.seen.entry_bytes r)
  region_some settled b p r is =
      let here : list_any (has_id r.id.0) (regions_of (entry ps p)) ≡ true = ap (λ (o : Option (List Region)). list_any (has_id r.id.0) (regions_of o)) is.there ∙ has_any (has_id r.id.0) r is.regions (find_has (has_id r.id.0) is.regions r is.found).0 (find_has (has_id r.id.0) is.regions r is.found).1 in
      ap (option_and_then (model.region_numbered (state_of k b))) is.number ∙ numbered_seen k b r.id.0 ∙ ap (option_map (region_view b.seen.entry_bytes)) (found_here r.id.0 ps p is.regions r is.there is.found ((settled k g).numbered.only p r.id.0 here))

  pub region_none : (b : Bytes) → named k.spaces t.owner t.region ≡ None → region_of (state_of k b) (seen_as k b t) ≡ None
  region_none b none = by_number (region_number t) refl where
    by_found : (j : ℕ) → region_number t ≡ Some j → (o : Option Region) → find (has_id j) (owned_regions ps) ≡ o → option_map (region_view b.seen.entry_bytes) o ≡ None
    by_found j number None f = refl
    by_found j number (Some r) f =
        let is = find_has (has_id j) (owned_regions ps) r f in
        let passes : has_id j r ≡ true = is.1 in
        let same : r.id.0 ≡ j = grind (arith, rules, passes) in
        let number_is : region_number t ≡ Some r.id.0 = number ∙ ap (λ i. Some i) (sym same) in
        let at = owner_of r ps is.0 in
        absurd (named_not k.spaces t.owner t.region at.0 r none (owner_has at.0 r at.1 (named_true t.region r.id.0 number_is)) number_is at.1)

    by_number : (o : Option ℕ) → region_number t ≡ o → option_and_then (model.region_numbered (state_of k b)) o ≡ None
    by_number None e = refl
    by_number (Some j) e = numbered_seen k b j ∙ by_found j e (find (has_id j) (owned_regions ps)) refl

  -- it is accessible to its process, and no queue lists it unless it is moved out
  pub record MayMove (p : ℕ) (r : Region) : Type 0 where
    pub number : p < 16
    pub alive : is_alive p k.spaces ≡ true
    pub there : layouts.region_of r.id (spaces.regions_of p k.spaces) ≡ Some r

  within : (xs : List (Option (List Region))) (p : ℕ) (x : List Region) → entry xs p ≡ Some x → p < length xs
  within [] p x e = absurd (cc)
  within (y ∷ xs) zero x e = omega arith
  within (y ∷ xs) (suc p) x e = let l = within xs p x e in omega (arith, l)

  pub may_move : (p : ℕ) (r : Region) → IsNamed ps t.owner t.region p r → MayMove p r
  may_move p r is = record {
    number = omega (arith, within ps p is.regions is.there, g.spaced.processes);
    alive = ap is_some is.there;
    there = ap (λ (o : Option (List Region)). find (has_id r.id.0) (regions_of o)) is.there ∙ is.found;
  }

  module _ (p : ℕ) (r : Region) (is : IsNamed ps t.owner t.region p r) where
    abbrev queue : List ℕ
    queue = get_or k.queues p []

    region_there : Has r (regions_of (entry ps p))
    region_there = subst (λ (o : Option (List Region)). Has r (regions_of o)) (sym is.there) (find_has (has_id r.id.0) is.regions r is.found).0

    is_state : r.state ≡ state
    is_state = state_is p r region_there (named_true t.region r.id.0 is.number)

    pub room : is_out state ≡ false → QueuesSuffice → length queue < 32
    room not_out suffice =
        let most = suffice k p is.regions g is.there in
        let one : num (not (is_out r.state)) ≡ 1 = ap (λ s. num (not (is_out s))) is_state ∙ ap (λ b. num (not b)) not_out in
        let least = at_least (λ (x : Region). num (not (is_out x.state))) is.regions r (find_has (has_id r.id.0) is.regions r is.found).0 in
        omega (arith, most, one, least)

    lists : ListsOut (record { queue = queue; regions = map (region_view z.seen.entry_bytes) is.regions })
    lists = subst (λ o. IfSome o ListsOut) (process_entry z.seen.entry_bytes ps k.queues p ∙ ap (λ (o : Option (List Region)). process_view z.seen.entry_bytes o queue) is.there) (g.orderly.weak p)

    none_out : is_out state ≡ false → (rs : List Region) → ((x : Region) → Has x rs → Has x (regions_of (entry ps p))) → count_by (is_out_region r.id.0) (map (region_view z.seen.entry_bytes) rs) ≡ 0
    none_out not_out [] among = refl
    none_out not_out (x ∷ rs) among =
        let fails : is_out_region r.id.0 (region_view z.seen.entry_bytes x) ≡ false = ⊎_elim
        (λ (same : x.id.0 ≡ r.id.0).
        let of_state : x.state ≡ state = state_is p x (among x (inl refl)) (named_true t.region x.id.0 (is.number ∙ ap (λ i. Some i) (sym same))) in
        let not_here : is_out x.state ≡ false = ap is_out of_state ∙ not_out in
        ap (λ b. (x.id.0 == r.id.0) && b) not_here ∙ (elim (x.id.0 == r.id.0) as (λ b. (b && false) ≡ false) [ true ↦ refl | false ↦ refl ]))
        (λ (other : x.id.0 ≢ r.id.0). let differ : (x.id.0 == r.id.0) ≡ false = grind (arith, rules, other) in ap (λ b. b && is_out x.state) differ)
        (cases_eq x.id.0 r.id.0) in
        let zero_here : num (is_out_region r.id.0 (region_view z.seen.entry_bytes x)) ≡ 0 = ap num fails in
        omega (arith, sum_by-cons (λ (y : flat.Region). num (is_out_region r.id.0 y)) (region_view z.seen.entry_bytes x) (map (region_view z.seen.entry_bytes) rs), zero_here, none_out not_out rs (λ y h. among y (inr h)))

    none_in : (q : List ℕ) → count_by (λ m. m == r.id.0) q ≡ 0 → is_in r.id.0 q ≡ false
    none_in [] e = refl
    none_in (x ∷ q) e =
        let all = sum_by-cons (λ m. num (m == r.id.0)) x q in
        elim (x == r.id.0) as (λ b. (x == r.id.0) ≡ b → (b || is_in r.id.0 q) ≡ false) [
          | true ↦ λ h. let one : num (x == r.id.0) ≡ 1 = ap num h in absurd (omega (arith, all, one, e))
          | false ↦ λ h. none_in q (omega (arith, all, e))
        ] refl

    pub unlisted : is_out state ≡ false → is_in r.id.0 queue ≡ false
    unlisted not_out = none_in queue (lists r.id.0 ∙ none_out not_out is.regions (λ x h. subst (λ (o : Option (List Region)). Has x (regions_of o)) (sym is.there) h))
