-- What is so of the processes and their regions after every step.
use Rattle.std.proofs.Common.{◌≡◌, ℕ, zero, suc, ◌+◌, ◌*◌, ◌<◌, ◌≤◌, true, false, not, List, [], ◌∷◌, length, refl, ap, ◌∙◌, arith, length-set}
use Rattle.std.specs.Prelude.{Option, Some, None, All, cond, sum_by, slice_set, unwrap_or, is_some}
use Rattle.std.proofs.lemmas.Bool.Decides.{nat_tests}
use Rattle.std.proofs.lemmas.List.{length-replicate}
use Rattle.std.proofs.lemmas.List.Elements.{All-head, All-tail, All-weaker, All-set, All-filter}
use Rattle.std.proofs.lemmas.List.Kept.{AllPairs-filter}
use Rattle.std.proofs.lemmas.List.Sums.{sum_by-cons, length-filter, count_by-le-length}
use Rattle.genie_base.specs.Configs.{Config}
use Rattle.genie_base.specs.Regions.{AreInOrder, is_accessible}
use Rattle.genie_base.specs.Transfers.{class_of}
use Rattle.genie_base.specs.declared.event.Event.{Event}
use Rattle.genie_base.specs.declared.event.Event.TheVariants.{Spawn, Fork, Map, Alloc, Input, Send, Recv}
use Rattle.genie_base.specs.declared.region.Area.TheVariants.{App, Sys}
use Rattle.genie_base.specs.declared.region.RegionState.TheVariants.{Live, In, Held}
use Rattle.genie_base.specs.declared.semantics.Class.{Class}
use Rattle.genie_base.specs.declared.semantics.Class.TheVariants.{Copy, Share, Move, WeakMove}
use Rattle.genie_model.specs.Inputs.{with_buffer, weak_buffer, reusable, pages_for}
use Rattle.genie_orderly.specs.Steps.{Stays}
use Rattle.genie_orderly.specs.Orderly.{IsOrderly, IsRegion, AreApart, RegionsAreApart, CommittedIsBounded}
use Rattle.genie_model.specs.Refusing.{refuse, must_make, accessible_pages}
use Rattle.genie_model.specs.Regions.{extent_of, regions_of, regions_at, region_pages, committed, place_of, change_process, with_mode, with_state}
use Rattle.genie_model.specs.Space.{spawned, zeros, zeros_at_place, with_region, add_region, accessible, copy_of, add_copies, fork}
use Rattle.genie_model.specs.State.{State, Region, Process}
use Rattle.genie_model.specs.Step.{accept, perform, with_budget}
use Rattle.genie_model.specs.Tables.{entry}
use Rattle.genie_model.specs.Ending.{filled}
use Rattle.genie_orderly.specs.Lemmas.AcceptedEvents.{IsNew, map_accepted, alloc_accepted, input_accepted, fork_accepted, page_some}
use Rattle.genie_orderly.proofs.Regions.Apart.{Before, all_added, sum_added, one_more, clear}
use Rattle.genie_model.specs.Lemmas.RegionCounts.{added_few}
use Rattle.genie_orderly.proofs.Regions.Sizes.{KeepsTable, set_sum, spawned_keeps, exit_keeps, remove_keeps, change_keeps, put_keeps, moved_out_keeps, moved_in_keeps, filled_shape, state_shape}
use Rattle.genie_model.specs.Lemmas.Steps.{event_so}
use Rattle.genie_model.specs.Lemmas.Lists.{at_entry, pairs_all, pairs_tail}
use Rattle.genie_orderly.proofs.Runs.Events.{IsKept, event_kept}

-- 16 processes, whose regions are apart and fit the store
pub record SpacedTable (c : Config) (processes : List (Option Process)) : Type 0 where
  pub places : length processes ≡ 16
  pub apart : All (λ (p : Option Process). AreApart c.page (regions_of p)) processes
  pub pages : sum_by region_pages processes ≤ c.slots

abbrev pub IsSpaced : State → Type 0
IsSpaced s = SpacedTable s.config s.processes

pub spaced : (s : State) → IsOrderly s → IsSpaced s
spaced s o = record { places = o.places; apart = o.regions; pages = o.committed }

pub kept : {c d : Config} {old new : List (Option Process)} → KeepsTable c old d new → SpacedTable c old → SpacedTable d new
kept {c} k h =
    let same = k.config in
    rw same (record { places = k.table.places ∙ h.places; apart = k.table.apart c.page h.apart; pages = omega (arith, k.table.pages, h.pages) })

pub none_apart : (page : ℕ) → AreApart page []
none_apart page = record { few = omega arith; order = λ i j d l m. absurd (omega arith); each = λ k d l. absurd (omega arith) }

pub apart_at : (s : State) (p : ℕ) → IsSpaced s → AreApart s.config.page (regions_at s p)
apart_at s p h = at_entry (λ (x : Option Process). AreApart s.config.page (regions_of x)) s.processes p (none_apart s.config.page) h.apart

region_there : (page : ℕ) (r : Region) (p : Option Process) → IsRegion page r → All (λ q. clear extent_of r q ≡ true) (regions_of p) → length (regions_of p) < 32 → AreApart page (regions_of p) → AreApart page (regions_of (change_process (with_region r) p))
region_there page r None here free room h = h
region_there page r (Some p) here free room h = one_more page r p.regions here free room h

pages_there : (r : Region) (p : Option Process) → region_pages (change_process (with_region r) p) ≤ region_pages p + r.pages
pages_there r None = omega arith
pages_there r (Some p) = omega (arith, sum_added extent_of (λ (q : Region). q.pages) r p.regions)

pub pages_added : (s : State) (p : ℕ) (r : Region) → committed (add_region s p r) ≤ committed s + r.pages
pages_added s p r = set_sum region_pages (change_process (with_region r) (entry s.processes p)) None r.pages s.processes p (pages_there r (entry s.processes p))

-- a new region
pub added : (s : State) (p : ℕ) (r : Region) → IsNew s p r.area r.start r.pages → length r.bytes ≡ r.pages * s.config.page → IsSpaced s → IsSpaced (add_region s p r)
added s p r new bytes h =
    let region : IsRegion s.config.page r = record { some = new.some; most = new.most; area = new.area; bytes = bytes } in
    let pages = pages_added s p r in
    record {
      places = length-set s.processes p (change_process (with_region r) (entry s.processes p)) ∙ h.places;
      apart = All-set (λ (x : Option Process). AreApart s.config.page (regions_of x)) s.processes p (change_process (with_region r) (entry s.processes p)) (region_there s.config.page r (entry s.processes p) region new.free new.few (apart_at s p h)) h.apart;
      pages = omega (arith, pages, new.backing);
    }

in_process : (P : Region → Type 0) (r : Region) (p : Option Process) → P r → All P (regions_of p) → All P (regions_of (change_process (with_region r) p))
in_process P r None here h = h
in_process P r (Some p) here h = all_added extent_of P r p.regions here h

in_table : (P : Region → Type 0) (r : Region) (processes : List (Option Process)) (p : ℕ) → P r → All P (regions_of (entry processes p)) → All P (regions_of (entry (slice_set processes p (change_process (with_region r) (entry processes p))) p))
in_table P r [] p here h = h
in_table P r (x ∷ processes) zero here h = in_process P r x here h
in_table P r (x ∷ processes) (suc p) here h = in_table P r processes p here h

-- process q has room for these, in this order behind what it has
record Takes (s : State) (q : ℕ) (regions : List Region) : Type 0 where
  each : All (IsRegion s.config.page) regions
  order : AreInOrder extent_of regions
  behind : All (λ (x : Region). All (Before extent_of x) regions) (regions_at s q)
  few : length (regions_at s q) + length regions ≤ 32
  backing : committed s + sum_by (λ (r : Region). r.pages) regions ≤ s.config.slots

free_behind : (x r : Region) → Before extent_of x r → clear extent_of r x ≡ true
free_behind x r le = grind (arith, nat_tests)

takes_first : (s : State) (q : ℕ) (r : Region) (regions : List Region) → Takes s q (r ∷ regions) → IsNew s q r.area r.start r.pages
takes_first s q r regions t =
    let first = All-head (IsRegion s.config.page) r regions t.each in
    record {
      some = first.some;
      most = first.most;
      area = first.area;
      free = All-weaker (λ (x : Region). All (Before extent_of x) (r ∷ regions)) (λ (x : Region). clear extent_of r x ≡ true) (λ x h. free_behind x r (All-head (Before extent_of x) r regions h)) (regions_at s q) t.behind;
      few = omega (arith, t.few);
      backing = omega (arith, t.backing, sum_by-cons (λ (x : Region). x.pages) r regions);
    }

takes_rest : (s : State) (q : ℕ) (r : Region) (regions : List Region) → Takes s q (r ∷ regions) → Takes (add_region s q (copy_of s r)) q regions
takes_rest s q r regions t =
    let few = added_few s q (copy_of s r) in
    let pages = pages_added s q (copy_of s r) in
    record {
      each = All-tail (IsRegion s.config.page) r regions t.each;
      order = pairs_tail (Before extent_of) r regions t.order;
      behind = in_table (λ (x : Region). All (Before extent_of x) regions) (copy_of s r) s.processes q (pairs_all (Before extent_of) r regions t.order) (All-weaker (λ (x : Region). All (Before extent_of x) (r ∷ regions)) (λ (x : Region). All (Before extent_of x) regions) (λ x h. All-tail (Before extent_of x) r regions h) (regions_at s q) t.behind);
      few = omega (arith, few, t.few);
      backing = omega (arith, pages, t.backing, sum_by-cons (λ (x : Region). x.pages) r regions);
    }

copies_spaced : (s : State) (q : ℕ) (regions : List Region) → Takes s q regions → IsSpaced s → IsSpaced (add_copies s q regions)
copies_spaced s q [] t h = h
copies_spaced s q (r ∷ regions) t h = copies_spaced (add_region s q (copy_of s r)) q regions (takes_rest s q r regions t) (added s q (copy_of s r) (takes_first s q r regions t) (All-head (IsRegion s.config.page) r regions t.each).bytes h)

accessible_sum : (regions : List Region) → sum_by (λ (r : Region). r.pages) (accessible regions) ≡ sum_by accessible_pages regions
accessible_sum [] = refl
accessible_sum (r ∷ regions) =
    let rest = accessible_sum regions in
    let sum = sum_by-cons accessible_pages r regions in
    (elim (is_accessible r.state) as (λ b. sum_by accessible_pages (r ∷ regions) ≡ cond b r.pages 0 + sum_by accessible_pages regions → sum_by (λ (x : Region). x.pages) (cond b (r ∷ accessible regions) (accessible regions)) ≡ sum_by accessible_pages (r ∷ regions))
    [ true ↦ λ e. omega (arith, e, rest, sum_by-cons (λ (x : Region). x.pages) r (accessible regions)) | false ↦ λ e. omega (arith, e, rest) ]) sum

spawned_at : (processes : List (Option Process)) (q : ℕ) → regions_of (entry (slice_set processes q (Some (record { queue = []; regions = [] }))) q) ≡ []
spawned_at [] q = refl
spawned_at (x ∷ processes) zero = refl
spawned_at (x ∷ processes) (suc q) = spawned_at processes q

fork_spaced : (s : State) (p q : ℕ) → refuse s (Fork p q) ≡ None → IsSpaced s → IsSpaced (fork s p q).0
fork_spaced s p q e h =
    let regions : List Region = regions_at s p in
    let apart = apart_at s p h in
    let fits = (fork_accepted s p q e).backing in
    let empty : regions_at (spawned s q) q ≡ [] = spawned_at s.processes q in
    let pages = (spawned_keeps s q).table.pages in
    copies_spaced (spawned s q) q (accessible regions) (record {
      each = All-filter (λ (r : Region). is_accessible r.state) (IsRegion s.config.page) regions apart.each;
      order = AllPairs-filter (Before extent_of) (λ (r : Region). is_accessible r.state) regions apart.order;
      behind = rw empty (λ k d l. absurd (omega arith));
      few = omega (arith, ap length empty, apart.few, length-filter (λ (r : Region). is_accessible r.state) regions, count_by-le-length (λ (r : Region). is_accessible r.state) regions);
      backing = omega (arith, pages, fits, accessible_sum regions);
    }) (kept (spawned_keeps s q) h)

weak_spaced : (s : State) (p n : ℕ) (o : Option ℕ) → (not (is_some o) ≡ true → IsNew s p Sys (unwrap_or (place_of s p (pages_for s n)) 0) (pages_for s n)) → IsSpaced s → IsSpaced (weak_buffer s p n o)
weak_spaced s p n None new h = added s p (zeros_at_place s In p (pages_for s n)) (new refl) (length-replicate (pages_for s n * s.config.page) 0) h
weak_spaced s p n (Some k) new h = kept (moved_in_keeps s k) h

input_spaced : (s : State) (p : ℕ) (class : Class) (n : ℕ) → (must_make s p class n ≡ true → IsNew s p Sys (unwrap_or (place_of s p (pages_for s n)) 0) (pages_for s n)) → IsSpaced s → IsSpaced (with_buffer s p class n)
input_spaced s p Copy n new h = h
input_spaced s p Share n new h = h
input_spaced s p Move n new h = added s p (zeros_at_place s Held p (pages_for s n)) (new refl) (length-replicate (pages_for s n * s.config.page) 0) h
input_spaced s p WeakMove n new h = weak_spaced s p n (reusable s p (pages_for s n)) new h

spaced_kept : IsKept IsSpaced
spaced_kept = record {
  exit = λ s p h. kept (exit_keeps s p) h;
  remove = λ s r there h. kept (remove_keeps s r) h;
  mode = λ s k writable h. kept (change_keeps s k (with_mode writable) (λ r. record { start = refl; pages = refl; area = refl; bytes = refl })) h;
  bytes = λ s k x new h. kept (put_keeps s k x new) h;
  out = λ s k h. kept (moved_out_keeps s k) h;
  fill = λ s k new h. kept (change_keeps s k (filled new) (filled_shape new)) h;
  live = λ s k h. kept (change_keeps s k (with_state Live) (state_shape Live)) h;
  rest = λ s transfers devices next h. h;
}

perform_spaced : (s : State) (e : Event) → refuse s e ≡ None → 0 < s.config.page → IsSpaced s → IsSpaced (perform s e).0
perform_spaced s (Spawn p) e page h = kept (spawned_keeps s p) h
perform_spaced s (Fork p q) e page h = fork_spaced s p q e h
perform_spaced s (Map p g n) e page h = added s p (zeros s App Live g n) (map_accepted s p g n e) (length-replicate (n * s.config.page) 0) h
perform_spaced s (Alloc p n) e page h = added s p (zeros_at_place s Live p n) (alloc_accepted s p n e) (length-replicate (n * s.config.page) 0) h
perform_spaced s (Input p sem d port flow a n) e page h = input_spaced s p (class_of sem) n (input_accepted s p (class_of sem) d _ n _ page e) h
perform_spaced s e none page h = event_kept IsSpaced spaced_kept s e refl h

budget_spaced : (s : State) (e : Event) (k : ℕ) → IsSpaced s → IsSpaced (accept s e).0 → IsSpaced (accept s (with_budget e k)).0
budget_spaced s (Send d n) k h now = event_kept IsSpaced spaced_kept s (Send d k) refl h
budget_spaced s (Recv d n) k h now = event_kept IsSpaced spaced_kept s (Recv d k) refl h
budget_spaced s e k h now = now

pub spacing_stays : Stays IsSpaced
spacing_stays s e m whole o =
    let page = page_some s.config.page o.config.page in
    event_so IsSpaced s (spaced s o) e (λ none. perform_spaced s e none (omega (arith, page)) (spaced s o)) (λ none k. budget_spaced s e k (spaced s o) (perform_spaced s e none (omega (arith, page)) (spaced s o))) m

pub regions_stay_apart : Stays RegionsAreApart
regions_stay_apart s e m whole o = (spacing_stays s e m whole o).apart

pub committed_is_bounded : Stays CommittedIsBounded
committed_is_bounded s e m whole o = (spacing_stays s e m whole o).pages

pub places_stay : Stays (λ (s : State). length s.processes ≡ 16)
places_stay s e m whole o = (spacing_stays s e m whole o).places
