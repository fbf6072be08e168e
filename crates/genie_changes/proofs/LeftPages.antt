-- The pages of a region under loans.
use Rattle.std.proofs.Common.{◌≡◌, ℕ, ◌+◌, ◌*◌, ◌/◌, ◌<◌, ◌≤◌, true, false, List, [], ◌∷◌, ◌++◌, refl, sym, ap, subst, arith, rules, ◌∙◌, ◌⊎◌, ⊎_elim, length, map, get_or}
use Rattle.std.specs.Prelude.{Option, Some, None, find}
use Rattle.std.proofs.lemmas.List.{length-replicate}
use Rattle.genie_region.specs.declared.region.Region.{Region}
use Rattle.genie_model.specs.Lemmas.Lists.{Has, all_has, has_map, find_has, any_found}
use Rattle.genie_model.specs.Regions as model
use Rattle.genie_model.specs.State as flat
use Rattle.genie_model.specs.Tables.{entry}
use Rattle.genie_orderly.specs.Lemmas.FoundRegions.{all_of, found_at, no_orphan_at}
use Rattle.genie_orderly.specs.Orderly.{Lies, LiesInRegion, LiesInOrphan}
use Rattle.genie_kernel.specs.declared.kernel.Kernel.{Kernel}
use Rattle.genie_kernel.specs.declared.transfer.Transfer.{Transfer}
use Rattle.genie_kernel.specs.Calls.{is_strong_call, is_named, region_number, first_waiting}
use Rattle.genie_kernel.specs.Good.{IsGood}
use Rattle.genie_kernel.specs.Held.{PageOf, HoldsPages, IsInFrame, region_named, page_of_loan, weak_transfers}
use Rattle.genie_kernel.specs.Loans.{frames_of}
use Rattle.genie_kernel.specs.Orphans.{covers}
use Rattle.genie_kernel.specs.Planned.{Lends, is_early_device}
use Rattle.genie_kernel.specs.Regions.{has_id, owned_regions, processes_view, region_view}
use Rattle.genie_kernel.specs.Transfers.{transfer_view}
use Rattle.genie_kernel.specs.View.{no_bytes, outline}
use Rattle.genie_kernel.specs.Lemmas.Staying.{weak_held}
use Rattle.genie_changes.specs.Orphans.{LeavesPages}
use Rattle.genie_changes.specs.Premises.{ShowsLeft}
use Rattle.genie_changes.proofs.Gained.{object_length}
use Rattle.genie_changes.proofs.Places.{loan_of}
use Rattle.genie_changes.proofs.Premises.{LendsFrom, begins_in, weak_range, weak_has, named_region}

pub map_joined : {X Y : Type 0} (f : X → Y) (xs ys : List X) → map f (xs ++ ys) ≡ map f xs ++ map f ys
map_joined f [] ys = refl
map_joined f (x ∷ xs) ys = ap (λ l. f x ∷ l) (map_joined f xs ys)

-- the regions of the view are those of all processes
pub regions_seen : (s : ℕ → ℕ → List ℕ) (ps : List (Option (List Region))) (qs : List (List ℕ)) → all_of (processes_view s ps qs) ≡ map (region_view s) (owned_regions ps)
regions_seen s [] qs = refl
regions_seen s (None ∷ ps) [] = regions_seen s ps []
regions_seen s (None ∷ ps) (q ∷ qs) = regions_seen s ps qs
regions_seen s (Some rs ∷ ps) [] = ap (λ l. map (region_view s) rs ++ l) (regions_seen s ps []) ∙ sym (map_joined (region_view s) rs (owned_regions ps))
regions_seen s (Some rs ∷ ps) (q ∷ qs) = ap (λ l. map (region_view s) rs ++ l) (regions_seen s ps qs) ∙ sym (map_joined (region_view s) rs (owned_regions ps))

-- a range that lies in what is a region lies in the region
pub in_region : (t : flat.Transfer) (o : Option flat.Region) (p : Option flat.Orphan) (r : flat.Region) → o ≡ Some r → p ≡ None → (LiesInRegion t o ⊎ LiesInOrphan t p) → t.offset + t.len ≤ length r.bytes
in_region t o p r is none h = ⊎_elim (λ lies. subst (LiesInRegion t) is lies) (λ lies. absurd (subst (LiesInOrphan t) none lies)) h

module _ (k : Kernel) (r : Region) (entries : ℕ → ℕ → List ℕ) (new : ℕ → List ℕ) (g : IsGood k) (some : 0 < k.config.page) (found : find (has_id r.id.0) (owned_regions k.spaces.processes) ≡ Some r) (left : ShowsLeft k r entries new) where
  abbrev n : ℕ
  n = r.id.0

  abbrev page : ℕ
  page = k.config.page

  abbrev rs : List Region
  rs = owned_regions k.spaces.processes

  -- what is known of a weak transfer that names the region
  record Known (t : Transfer) : Type 0 where
    there : Has t k.transfers
    weak : is_strong_call t ≡ false
    named : region_number t ≡ Some n
    range : LendsFrom page t.offset t t.loans
    holds : HoldsPages page k.memory rs g.held.page_in g.held.frame_of t

  known : (x : ℕ) (t : Transfer) → Has t k.transfers → covers n x t ≡ true → Known t
  known x t there passes =
      let weak : is_strong_call t ≡ false = grind (arith, rules, passes) in
      let named : is_named t.region n ≡ true = grind (arith, rules, passes) in
      let lends : Lends page k.memory.frames.owners (is_early_device (entry k.devices t.dev)) t t.dir = all_has (λ (u : Transfer). Lends page k.memory.frames.owners (is_early_device (entry k.devices u.dev)) u u.dir) k.transfers g.planned t there in
      record {
        there = there;
        weak = weak;
        named = named_region t n named;
        range = subst (λ m. LendsFrom page m t t.loans) (begins_in t weak) (weak_range page k.memory.frames.owners (is_early_device (entry k.devices t.dev)) t t.dir weak lends);
        holds = all_has (HoldsPages page k.memory rs g.held.page_in g.held.frame_of) (weak_transfers k.transfers) g.held.each t (weak_has t k.transfers weak there);
      }

  -- each of its frames shows the entry of its page
  frame_shows : (t : Transfer) → Known t → (j : ℕ) → j < length (frames_of t.loans) → new (get_or (frames_of t.loans) j 0) ≡ entries r.object.0 (page_of_loan page t j).index
  frame_shows t h j l =
      let f : ℕ = get_or (frames_of t.loans) j 0 in
      let is : region_named rs (region_number t) ≡ Some r = ap (region_named rs) h.named ∙ found in
      left.shown (page_of_loan page t j).index f (subst (λ o. IsInFrame k.memory o (page_of_loan page t j).index f) is (h.holds.held j l)) (weak_held k t j g h.there h.weak l)

  covered_bytes : (x : ℕ) (t : Transfer) → covers n x t ≡ true → Known t → new (g.held.frame_of (record { region = Some n; index = x / page })) ≡ entries r.object.0 (x / page)
  covered_bytes x t passes h =
      let loan = loan_of page n x t some h.range.pages passes in
      ap (λ (q : PageOf). new (g.held.frame_of q)) (sym loan.is) ∙ ap new (h.holds.frames loan.at loan.inside) ∙ frame_shows t h loan.at loan.inside ∙ ap (λ (q : PageOf). entries r.object.0 q.index) loan.is

  abbrev zeros : ℕ → ℕ → List ℕ
  zeros = (no_bytes page).seen.entry_bytes

  covered_inside : (x : ℕ) (t : Transfer) → covers n x t ≡ true → Known t → x < r.pages * page
  covered_inside x t passes h =
      let v : flat.Transfer = transfer_view (no_bytes page).seen.kept_bytes k.devices k.pools (first_waiting k.transfers) t in
      let here : Has (region_view zeros r) (all_of (outline k).processes) = subst (Has (region_view zeros r)) (sym (regions_seen zeros k.spaces.processes k.queues)) (has_map (region_view zeros) r rs (find_has (has_id n) rs r found).0) in
      let lies = all_has (λ (u : flat.Transfer). Lies (outline k) u u.region) (outline k).transfers g.orderly.ranges v (has_map (transfer_view (no_bytes page).seen.kept_bytes k.devices k.pools (first_waiting k.transfers)) t k.transfers h.there) in
      let ends = in_region v (model.region_numbered (outline k) n) (model.orphan_numbered (outline k) n) (region_view zeros r) (found_at (outline k) g.orderly.numbers (region_view zeros r) here n refl) (no_orphan_at (outline k) g.orderly.numbers (region_view zeros r) here n refl) (subst (Lies (outline k) v) h.named lies) in
      let long = object_length (zeros r.object.0) page 0 r.pages (λ i. length-replicate page 0) in
      let below : x < t.offset + t.len = grind (arith, rules, passes) in
      omega (arith, ends, long, below)

  pub leaves_pages : LeavesPages page entries new g.held.frame_of r k.transfers
  leaves_pages = record {
    inside = λ x any. let t = any_found (covers n x) k.transfers any in let is = find_has (covers n x) k.transfers t.0 t.1 in covered_inside x t.0 is.1 (known x t.0 is.0 is.1);
    lie = λ x t e.
        let is = find_has (covers n x) k.transfers t e in
        let h = known x t is.0 is.1 in
        record { range = h.range; frames = h.holds.frames; full = λ j l. ap length (frame_shows t h j l) ∙ left.full (page_of_loan page t j).index };
    bytes = λ x any. let t = any_found (covers n x) k.transfers any in let is = find_has (covers n x) k.transfers t.0 t.1 in covered_bytes x t.0 is.1 (known x t.0 is.0 is.1);
    full = left.full;
  }
