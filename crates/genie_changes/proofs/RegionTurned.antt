-- A region that comes into another state.
use Rattle.std.proofs.Common.{◌≡◌, ◌≢◌, ℕ, ◌+◌, ◌*◌, ◌<◌, ◌≤◌, zero, suc, true, false, List, [], ◌∷◌, ◌++◌, refl, sym, ap, ap₂, subst, arith, rules, ◌∙◌, ⊎_elim, map, filter, length, get_or, set, find, get_or-set_same, get_or-set_other}
use Rattle.std.specs.Prelude.{Option, Some, None, All, AllPairs, is_some, not, if◌then◌else◌, ◌==◌, ◌&&◌, ◌||◌}
use Rattle.std.specs.List.{list_any}
use Rattle.std.specs.Option.{option_map}
use Rattle.std.proofs.lemmas.Bool.{cases_eq}
use Rattle.std.proofs.lemmas.List.Kept.{AllPairs-cons}
use Rattle.genie_base.specs.declared.region.RegionState.{RegionState}
use Rattle.genie_base.specs.declared.region.RegionState.TheVariants.{Live, Out}
use Rattle.genie_region.specs.declared.region.Region.{Region}
use Rattle.genie_model.specs.Lemmas.Lists.{any_append, pairs_all, pairs_tail}
use Rattle.genie_model.specs.Outputs.{moved_out, moved_out_of}
use Rattle.genie_model.specs.Regions.{change_process, changed, is_region, with_state}
use Rattle.genie_model.specs.State as flat
use Rattle.genie_model.specs.Tables.{entry}
use Rattle.genie_kernel.specs.declared.kernel.Kernel.{Kernel}
use Rattle.genie_kernel.specs.declared.transfer.Transfer.{Transfer}
use Rattle.genie_kernel.specs.Backed.{IsGuarded}
use Rattle.genie_kernel.specs.Calls.{names_weakly}
use Rattle.genie_kernel.specs.Orphans.{all_numbers, is_owned, orphan_view, orphans_view}
use Rattle.genie_kernel.specs.Regions.{has_id, owned_regions, regions_of, process_view, processes_view, region_view, with_changed}
use Rattle.genie_kernel.specs.View.{Bytes, state_of}
use Rattle.genie_changes.specs.Removing.{FitsTables}
use Rattle.genie_changes.specs.Settled.{AreListed, AreNumbered, IsSettled, LieInRegions}
use Rattle.genie_changes.specs.Turned.{ChangesOwner, ListsOnly, in_state, turned}
use Rattle.genie_changes.proofs.Backing.{backed_changed, few_changed, finds_named_changed, held_over_regions}
use Rattle.genie_changes.proofs.Processes.{all_set, all_turned, found_set, found_turned, regions_set}
use Rattle.genie_changes.proofs.Spaces.{spaced_stay}

-- the processes where one and its queue are changed, and all others are as before
module _ (s : ℕ → ℕ → List ℕ) (f : flat.Process → flat.Process) where
  abbrev Stays : Option (List Region) → List ℕ → Type 0
  Stays p q = change_process f (process_view s p q) ≡ process_view s p q

  all_stay : (ps : List (Option (List Region))) (qs : List (List ℕ)) → ((i : ℕ) → Stays (entry ps i) (get_or qs i [])) → map (change_process f) (processes_view s ps qs) ≡ processes_view s ps qs
  all_stay [] qs h = refl
  all_stay (p ∷ ps) [] h = ap₂ ◌∷◌ (h 0) (all_stay ps [] (λ i. h (suc i)))
  all_stay (p ∷ ps) (q ∷ qs) h = ap₂ ◌∷◌ (h 0) (all_stay ps qs (λ i. h (suc i)))

  pub one_turned : (ps : List (Option (List Region))) (qs : List (List ℕ)) (p : ℕ) (x : Option (List Region)) (q : List ℕ) → p < length ps → p < length qs → change_process f (process_view s (entry ps p) (get_or qs p [])) ≡ process_view s x q → ((i : ℕ) → i ≢ p → Stays (entry ps i) (get_or qs i [])) → processes_view s (set ps p x) (set qs p q) ≡ map (change_process f) (processes_view s ps qs)
  one_turned [] qs p x q l m here h = absurd (omega (arith, l))
  one_turned (y ∷ ps) [] p x q l m here h = absurd (omega (arith, m))
  one_turned (y ∷ ps) (z ∷ qs) zero x q l m here h = ap₂ ◌∷◌ (sym here) (sym (all_stay ps qs (λ i. h (suc i) (omega arith))))
  one_turned (y ∷ ps) (z ∷ qs) (suc p) x q l m here h = ap₂ ◌∷◌ (sym (h 0 (omega arith))) (one_turned ps qs p x q (omega (arith, l)) (omega (arith, m)) here (λ i ne. h (suc i) (omega (arith, ne))))

within : {X : Type 0} (xs : List (Option X)) (p : ℕ) (x : X) → entry xs p ≡ Some x → p < length xs
within [] p x e = absurd (cc)
within (y ∷ xs) zero x e = omega arith
within (y ∷ xs) (suc p) x e = let l = within xs p x e in omega (arith, l)

any_turned : (m n : ℕ) (state : RegionState) (rs : List Region) → list_any (has_id m) (with_changed n (in_state state) rs) ≡ list_any (has_id m) rs
any_turned m n state [] = refl
any_turned m n state (r ∷ rs) = elim (r.id.0 == n) as (λ b. (has_id m (if b then in_state state r else r) || list_any (has_id m) (with_changed n (in_state state) rs)) ≡ (has_id m r || list_any (has_id m) rs)) [
  | true ↦ ap (λ b. has_id m r || b) (any_turned m n state rs)
  | false ↦ ap (λ b. has_id m r || b) (any_turned m n state rs)
]

abbrev Apart : Region → Region → Type 0
Apart a b = a.id.0 ≢ b.id.0

number_turned : (n : ℕ) (state : RegionState) (r : Region) → (if r.id.0 == n then in_state state r else r).id.0 ≡ r.id.0
number_turned n state r = elim (r.id.0 == n) as (λ b. (if b then in_state state r else r).id.0 ≡ r.id.0) [ true ↦ refl | false ↦ refl ]

apart_turned : (n : ℕ) (state : RegionState) (rs : List Region) → AllPairs Apart rs → AllPairs Apart (with_changed n (in_state state) rs)
apart_turned n state [] a = a
apart_turned n state (r ∷ rs) a =
    let others : All (λ (q : Region). r.id.0 ≢ q.id.0) rs = pairs_all Apart r rs a in
    let now : All (λ (q : Region). r.id.0 ≢ q.id.0) (with_changed n (in_state state) rs) = all_turned n (in_state state) (λ (q : Region). r.id.0 ≢ q.id.0) (λ (q : Region). r.id.0 ≢ q.id.0) (λ q x y. x) rs others others in
    AllPairs-cons Apart (if r.id.0 == n then in_state state r else r) (with_changed n (in_state state) rs) (λ i d l same. now i d l (sym (number_turned n state r) ∙ same)) (apart_turned n state rs (pairs_tail Apart r rs a))

-- a region but for its state
abbrev stateless : Region → Region
stateless r = record r { state = Live }

-- a region that is found with others was found before, with the same pages
record WasFound (regions : List Region) (r : Region) : Type 0 where
  region : Region
  found : find (has_id r.id.0) regions ≡ Some region
  same : stateless region ≡ stateless r

was_found : (r : Region) (o : Option Region) → option_map stateless (Some r) ≡ option_map stateless o → (q : Region) × (o ≡ Some q) × (stateless q ≡ stateless r)
was_found r None e = absurd (cc)
was_found r (Some q) e = (q, refl, (let same : stateless r ≡ stateless q = cc in sym same))

module _ (k : Kernel) (p n : ℕ) (state : RegionState) (rs : List Region) (queue : List ℕ) (s : IsSettled k) (there : entry k.spaces.processes p ≡ Some rs) where
  abbrev ps : List (Option (List Region))
  ps = k.spaces.processes

  abbrev now : List Region
  now = with_changed n (in_state state) rs

  abbrev after : List (Option (List Region))
  after = set ps p (Some now)

  in_table : p < length ps
  in_table = within ps p rs there

  in_queues : p < length k.queues
  in_queues = omega (arith, in_table, s.spaced.processes, s.spaced.queue_places)

  any_same : (i m : ℕ) → list_any (has_id m) (regions_of (entry after i)) ≡ list_any (has_id m) (regions_of (entry ps i))
  any_same i m = regions_set rs now (λ l. list_any (has_id m) l ≡ list_any (has_id m) (regions_of (entry ps i))) ps p i there (λ same is. any_turned m n state rs ∙ is) refl

  numbered : AreNumbered after
  numbered = record {
    only = λ q m here i ne. any_same i m ∙ s.numbered.only q m (sym (any_same q m) ∙ here) i ne;
    each = λ q. regions_set rs now (AllPairs Apart) ps p q there (λ same a. apart_turned n state rs a) (s.numbered.each q);
    fit = all_set rs now FitsTables ps p there (λ a. all_turned n (in_state state) FitsTables FitsTables (λ r x y. record { low = x.low; some = x.some; most = x.most }) rs a a) s.numbered.fit;
  }

  found_before : (r : Region) → find (has_id r.id.0) (owned_regions after) ≡ Some r → (q : Region) × (find (has_id r.id.0) (owned_regions ps) ≡ Some q) × (stateless q ≡ stateless r)
  found_before r found = was_found r (find (has_id r.id.0) (owned_regions ps)) (ap (option_map stateless) (sym found) ∙ found_set rs now stateless (has_id r.id.0) ps p there (found_turned n (in_state state) stateless (has_id r.id.0) (λ q. refl) (λ q. refl) rs))

  ranges : LieInRegions k.config.page (owned_regions after) k.transfers
  ranges i d l r found named =
      let was = found_before r found in
      let number : was.0.id.0 ≡ r.id.0 = ap (λ (q : Region). q.id.0) was.2 in
      let pages : was.0.pages ≡ r.pages = ap (λ (q : Region). q.pages) was.2 in
      let t : Transfer = get_or k.transfers i d in
      subst (λ j. t.offset + t.len ≤ j * k.config.page) pages (s.ranges i d l was.0 (subst (λ j. find (has_id j) (owned_regions ps) ≡ Some was.0) (sym number) was.1) (subst (λ j. names_weakly j t ≡ true) (sym number) named))

  module _ (lists : ListsOnly queue rs) where
    listed : AreListed after (set k.queues p queue)
    listed i m live none = ⊎_elim
        (λ (same : i ≡ p).
        let here : list_any (has_id m) rs ≡ false = ap (λ (o : Option (List Region)). list_any (has_id m) (regions_of o)) (sym there) ∙ ap (λ j. list_any (has_id m) (regions_of (entry ps j))) (sym same) ∙ sym (any_same i m) ∙ none in
        ap (λ j. list_any (λ x. x == m) (get_or (set k.queues p queue) j [])) same ∙ ap (list_any (λ x. x == m)) (get_or-set_same k.queues p queue [] in_queues) ∙ lists m here)
        (λ (other : i ≢ p).
        ap (list_any (λ x. x == m)) (get_or-set_other k.queues p i queue [] other) ∙ s.listed i m (ap is_some (sym (get_or-set_other ps p i (Some now) None other)) ∙ live) (sym (any_same i m) ∙ none))
        (cases_eq i p)

    pub turned_settles : IsSettled (turned k p n state rs queue)
    turned_settles = record {
      fits = s.fits;
      has_bytes = s.has_bytes;
      sized = s.sized;
      spaced = spaced_stay k.config k.spaces k.queues p p (Some now) queue s.spaced;
      equipped = s.equipped;
      numbered = numbered;
      listed = listed;
      ranges = ranges;
      rising = s.rising;
      sound = s.sound;
      cached = s.cached;
      few = few_changed ps k.hidden p rs there n (in_state state) s.few;
      backed = backed_changed k.memory.objects ps k.hidden p n (in_state state) rs there (λ r. (refl, refl)) s.backed;
      guarded = all_set rs now (IsGuarded k.memory.objects) ps p there (λ a. all_turned n (in_state state) (IsGuarded k.memory.objects) (IsGuarded k.memory.objects) (λ r x y. x) rs a a) s.guarded;
      counted = s.counted;
      owners = s.owners;
      held = held_over_regions k.config.page k.memory (owned_regions ps) (owned_regions after) k.transfers (finds_named_changed k.transfers ps p n (in_state state) rs there (λ r. (refl, refl))) s.held;
      planned = s.planned;
      fitting = s.fitting;
      posted = s.posted;
      sending = s.sending;
      receiving = s.receiving;
      arrived = s.arrived;
    }

  module _ (b : Bytes) (f : flat.Process → flat.Process) (has : list_any (has_id n) rs ≡ true) (changes : ChangesOwner b.seen.entry_bytes n f rs now (get_or k.queues p []) queue) where
    any_seen : (l : List Region) → list_any (is_region n) (map (region_view b.seen.entry_bytes) l) ≡ list_any (has_id n) l
    any_seen [] = refl
    any_seen (r ∷ l) = ap (λ x. has_id n r || x) (any_seen l)

    stays : (o : Option (List Region)) (q : List ℕ) → list_any (has_id n) (regions_of o) ≡ false → (is_some o ≡ true → list_any (λ j. j == n) q ≡ false) → change_process f (process_view b.seen.entry_bytes o q) ≡ process_view b.seen.entry_bytes o q
    stays None q none quiet = refl
    stays (Some l) q none quiet = ap (λ (x : flat.Process). Some x) (changes.others (record { queue = q; regions = map (region_view b.seen.entry_bytes) l }) (any_seen l ∙ none) (quiet refl))

    only : (i : ℕ) → i ≢ p → list_any (has_id n) (regions_of (entry ps i)) ≡ false
    only = s.numbered.only p n (ap (λ (o : Option (List Region)). list_any (has_id n) (regions_of o)) there ∙ has)

    processes : processes_view b.seen.entry_bytes after (set k.queues p queue) ≡ map (change_process f) (processes_view b.seen.entry_bytes ps k.queues)
    processes = one_turned b.seen.entry_bytes f ps k.queues p (Some now) queue in_table in_queues
        (ap (λ (o : Option (List Region)). change_process f (process_view b.seen.entry_bytes o (get_or k.queues p []))) there ∙ ap (λ (x : flat.Process). Some x) changes.here)
        (λ i ne. stays (entry ps i) (get_or k.queues i []) (only i ne) (λ live. s.listed i n live (only i ne)))

    owned_same : (m : ℕ) → is_owned (owned_regions after) m ≡ is_owned (owned_regions ps) m
    owned_same m = any_all ps p there where
      any_all : (xs : List (Option (List Region))) (j : ℕ) → entry xs j ≡ Some rs → list_any (has_id m) (owned_regions (set xs j (Some now))) ≡ list_any (has_id m) (owned_regions xs)
      any_all [] j e = refl
      any_all (y ∷ xs) zero e = any_append (has_id m) now (owned_regions xs) ∙ ap (λ x. x || list_any (has_id m) (owned_regions xs)) (any_turned m n state rs ∙ ap (λ (o : Option (List Region)). list_any (has_id m) (regions_of o)) (sym e)) ∙ sym (any_append (has_id m) (regions_of y) (owned_regions xs))
      any_all (y ∷ xs) (suc j) e = any_append (has_id m) (regions_of y) (owned_regions (set xs j (Some now))) ∙ ap (λ x. list_any (has_id m) (regions_of y) || x) (any_all xs j e) ∙ sym (any_append (has_id m) (regions_of y) (owned_regions xs))

    orphans : orphans_view k.config.page b.seen.kept_bytes (owned_regions after) k.transfers ≡ orphans_view k.config.page b.seen.kept_bytes (owned_regions ps) k.transfers
    orphans = λ i. map (orphan_view k.config.page b.seen.kept_bytes k.transfers) (filter (λ j. list_any (names_weakly j) k.transfers && not (owned_same j i)) all_numbers)

    pub turned_state : state_of (turned k p n state rs queue) b ≡ record (state_of k b) { processes = map (change_process f) (state_of k b).processes }
    turned_state = λ i. record (state_of k b) { processes = processes i; orphans = orphans i }

-- a region that is moved out
module _ (entries : ℕ → ℕ → List ℕ) (n : ℕ) where
  any_named : (rs : List Region) → list_any (is_region n) (map (region_view entries) rs) ≡ list_any (has_id n) rs
  any_named [] = refl
  any_named (r ∷ rs) = ap (λ x. has_id n r || x) (any_named rs)

  all_out : (rs : List Region) → map (changed n (with_state Out)) (map (region_view entries) rs) ≡ map (region_view entries) (with_changed n (in_state Out) rs)
  all_out [] = refl
  all_out (r ∷ rs) = ap₂ ◌∷◌ (elim (r.id.0 == n) as (λ b. (if b then with_state Out (region_view entries r) else region_view entries r) ≡ region_view entries (if b then in_state Out r else r)) [ true ↦ refl | false ↦ refl ]) (all_out rs)

  moves_out : (rs : List Region) (queue : List ℕ) → list_any (has_id n) rs ≡ true → ChangesOwner entries n (moved_out_of n) rs (with_changed n (in_state Out) rs) queue (queue ++ n ∷ [])
  moves_out rs queue has = record {
    here =
        let p : flat.Process = record { queue = queue; regions = map (region_view entries) rs } in
        let q : flat.Process = record { queue = queue ++ n ∷ []; regions = map (changed n (with_state Out)) (map (region_view entries) rs) } in
        ap (λ b. if b then q else p) (any_named rs ∙ has) ∙ (λ i. record { queue = queue ++ n ∷ []; regions = all_out rs i });
    others = λ q none quiet. ap (λ b. if b then record { queue = q.queue ++ n ∷ []; regions = map (changed n (with_state Out)) q.regions } else q) none;
  }

pub moved_out_state : (k : Kernel) (p n : ℕ) (rs : List Region) (b : Bytes) → IsSettled k → entry k.spaces.processes p ≡ Some rs → list_any (has_id n) rs ≡ true → state_of (turned k p n Out rs (get_or k.queues p [] ++ n ∷ [])) b ≡ moved_out (state_of k b) n
moved_out_state k p n rs b s there has = turned_state k p n Out rs (get_or k.queues p [] ++ n ∷ []) s there b (moved_out_of n) has (moves_out b.seen.entry_bytes n rs (get_or k.queues p []) has)

pub moved_out_lists : (k : Kernel) (p n : ℕ) (rs : List Region) → IsSettled k → entry k.spaces.processes p ≡ Some rs → list_any (has_id n) rs ≡ true → ListsOnly (get_or k.queues p [] ++ n ∷ []) rs
moved_out_lists k p n rs s there has m none =
    let live : is_some (entry k.spaces.processes p) ≡ true = ap is_some there in
    let quiet = s.listed p m live (ap (λ (o : Option (List Region)). list_any (has_id m) (regions_of o)) there ∙ none) in
    let other : (n == m) ≡ false = ⊎_elim
    (λ (same : n ≡ m). let clash : true ≡ false = sym has ∙ ap (λ j. list_any (has_id j) rs) same ∙ none in absurd (cc))
    (λ (differ : n ≢ m). grind (arith, rules, differ))
    (cases_eq n m) in
    any_append (λ j. j == m) (get_or k.queues p []) (n ∷ []) ∙ ap₂ (λ x y. x || (y || false)) quiet other
