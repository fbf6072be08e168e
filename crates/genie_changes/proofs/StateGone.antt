-- The state of a kernel without a region.
use Rattle.std.proofs.Common.{◌≡◌, ℕ, ◌+◌, ◌*◌, ◌/◌, ◌<◌, ◌≤◌, true, false, List, [], refl, sym, ap, subst, arith, rules, ◌∙◌, length, get_or, set, find}
use Rattle.std.specs.Prelude.{Option, Some}
use Rattle.std.proofs.lemmas.List.{length-replicate}
use Rattle.genie_region.specs.declared.region.Region.{Region}
use Rattle.genie_space.specs.Spaces.{set_regions}
use Rattle.genie_model.specs.Lemmas.Lists.{Has, all_has, any_found, find_has, has_at}
use Rattle.genie_model.specs.Space.{remove, tidy}
use Rattle.genie_model.specs.Tables.{entry}
use Rattle.genie_kernel.specs.declared.kernel.Kernel.{Kernel}
use Rattle.genie_kernel.specs.declared.transfer.Transfer.{Transfer}
use Rattle.genie_kernel.specs.Calls.{is_strong_call, is_named, names_weakly, region_number}
use Rattle.genie_kernel.specs.Held.{PageOf, HoldsPages, IsInFrame, region_named, page_of_loan, weak_transfers}
use Rattle.genie_kernel.specs.Loans.{frames_of}
use Rattle.genie_kernel.specs.Orphans.{covers}
use Rattle.genie_kernel.specs.Planned.{Lends, is_early_device}
use Rattle.genie_kernel.specs.Regions.{has_id, owned_regions, region_view}
use Rattle.genie_kernel.specs.Steps.{bytes_over}
use Rattle.genie_kernel.specs.View.{Bytes, no_bytes, state_of}
use Rattle.genie_changes.specs.Orphans.{LeavesPages}
use Rattle.genie_changes.specs.Paged.{HavePages}
use Rattle.genie_changes.specs.Premises.{ShowsLeft}
use Rattle.genie_changes.specs.Regions.{without_number, ShowSameEntries}
use Rattle.genie_changes.specs.Removing.{FitsTables, IsOnlyIn}
use Rattle.genie_changes.specs.Removal.{RemovesRegion, ShowsRemoval, unlisted}
use Rattle.genie_changes.specs.Settled.{IsSettled}
use Rattle.genie_changes.specs.States.{ProcessesLose}
use Rattle.genie_changes.proofs.Keeping.{same_needed}
use Rattle.genie_changes.proofs.Leaving.{found_here, leaves_others, owned_left, processes_less}
use Rattle.genie_changes.proofs.Lent.{needed_same, weak_held}
use Rattle.genie_changes.proofs.Places.{loan_of}
use Rattle.genie_changes.proofs.Premises.{LendsFrom, begins_in, weak_range, weak_has, named_region}
use Rattle.genie_changes.proofs.RegionGone.{left_apart, only, owns, quiet, shows_left, there_below}
use Rattle.genie_changes.proofs.Removed.{removed_state}
use Rattle.genie_changes.proofs.Spaces.{processes_alike}

-- the pages of a region stay under the loans on them
module _ (k : Kernel) (r : Region) (entries : ℕ → ℕ → List ℕ) (new : ℕ → List ℕ) (g : IsSettled k) (found : find (has_id r.id.0) (owned_regions k.spaces.processes) ≡ Some r) (left : ShowsLeft k r entries new) where
  abbrev n : ℕ
  n = r.id.0

  abbrev page : ℕ
  page = k.config.page

  abbrev rs : List Region
  rs = owned_regions k.spaces.processes

  abbrev LendsIt : Transfer → Type 0
  LendsIt u = Lends page k.memory.frames.owners (is_early_device (entry k.devices u.dev)) u u.dir

  -- what is known of a weak transfer that names the region
  record Known (t : Transfer) : Type 0 where
    there : Has t k.transfers
    weak : is_strong_call t ≡ false
    named : region_number t ≡ Some n
    within : t.offset + t.len ≤ r.pages * page
    range : LendsFrom page t.offset t t.loans
    holds : HoldsPages page k.memory rs g.held.page_in g.held.frame_of t

  known : (x : ℕ) (t : Transfer) → Has t k.transfers → covers n x t ≡ true → Known t
  known x t there passes =
      let weak : is_strong_call t ≡ false = grind (arith, rules, passes) in
      let named : is_named t.region n ≡ true = grind (arith, rules, passes) in
      let naming : names_weakly n t ≡ true = grind (arith, rules, weak, named) in
      record {
        there = there;
        weak = weak;
        named = named_region t n named;
        within = all_has (λ (u : Transfer). (q : Region) → find (has_id q.id.0) rs ≡ Some q → names_weakly q.id.0 u ≡ true → u.offset + u.len ≤ q.pages * page) k.transfers g.ranges t there r found naming;
        range = subst (λ m. LendsFrom page m t t.loans) (begins_in t weak) (weak_range page k.memory.frames.owners (is_early_device (entry k.devices t.dev)) t t.dir weak (all_has LendsIt k.transfers g.planned t there));
        holds = all_has (HoldsPages page k.memory rs g.held.page_in g.held.frame_of) (weak_transfers k.transfers) g.held.each t (weak_has t k.transfers weak there);
      }

  -- each of its frames shows the entry of its page
  frame_shows : (t : Transfer) → Known t → (j : ℕ) → j < length (frames_of t.loans) → new (get_or (frames_of t.loans) j 0) ≡ entries r.object.0 (page_of_loan page t j).index
  frame_shows t h j l =
      let f : ℕ = get_or (frames_of t.loans) j 0 in
      let is : region_named rs (region_number t) ≡ Some r = ap (region_named rs) h.named ∙ found in
      left.shown (page_of_loan page t j).index f (subst (λ o. IsInFrame k.memory o (page_of_loan page t j).index f) is (h.holds.held j l)) (weak_held k g t j h.there h.weak l)

  covered_bytes : (x : ℕ) (t : Transfer) → covers n x t ≡ true → Known t → new (g.held.frame_of (record { region = Some n; index = x / page })) ≡ entries r.object.0 (x / page)
  covered_bytes x t passes h =
      let loan = loan_of page n x t g.has_bytes h.range.pages passes in
      ap (λ (q : PageOf). new (g.held.frame_of q)) (sym loan.is) ∙ ap new (h.holds.frames loan.at loan.inside) ∙ frame_shows t h loan.at loan.inside ∙ ap (λ (q : PageOf). entries r.object.0 q.index) loan.is

  covered_inside : (x : ℕ) (t : Transfer) → covers n x t ≡ true → Known t → x < r.pages * page
  covered_inside x t passes h = let below : x < t.offset + t.len = grind (arith, rules, passes) in omega (arith, below, h.within)

  pub pages_left : LeavesPages page entries new g.held.frame_of r k.transfers
  pages_left = record {
    inside = λ x any. let t = any_found (covers n x) k.transfers any in let is = find_has (covers n x) k.transfers t.0 t.1 in covered_inside x t.0 is.1 (known x t.0 is.0 is.1);
    lie = λ x t e.
        let is = find_has (covers n x) k.transfers t e in
        let h = known x t is.0 is.1 in
        record { range = h.range; frames = h.holds.frames; full = λ j l. ap length (frame_shows t h j l) ∙ left.full (page_of_loan page t j).index };
    bytes = λ x any. let t = any_found (covers n x) k.transfers any in let is = find_has (covers n x) k.transfers t.0 t.1 in covered_bytes x t.0 is.1 (known x t.0 is.0 is.1);
    full = left.full;
  }

pub removal_shows : (p : ℕ) (r : Region) (old new : Kernel) (slots rests sents : ℕ → List ℕ) → RemovesRegion p r old new → IsSettled old → HavePages old.memory slots → ShowsRemoval r old (bytes_over old.memory slots rests sents) (bytes_over new.memory slots rests sents)
removal_shows p r old new slots rests sents x g paged = record {
  rests = refl;
  sents = refl;
  entries = λ o i ne. x.object.entries slots o i (quiet p r old new.memory x.regions x.there x.found x.object g o i ne);
  frames = needed_same old g new.memory (owns p r old new.memory x.regions x.there x.found x.object g);
  left = shows_left p r old new.memory x.regions x.there x.found x.object g slots paged;
}

pub outlines_show : (r : Region) (k : Kernel) → ShowsRemoval r k (no_bytes k.config.page) (no_bytes k.config.page)
outlines_show r k = record {
  rests = refl;
  sents = refl;
  entries = λ o i ne. refl;
  frames = same_needed (owned_regions k.spaces.processes) k.transfers k.pools (no_bytes k.config.page).seen.kept_bytes;
  left = record { shown = λ i f e held. refl; full = λ i. length-replicate k.config.page 0 };
}

module _ (p : ℕ) (r : Region) (k new : Kernel) (a b : Bytes) (x : RemovesRegion p r k new) (g : IsSettled k) (s : ShowsRemoval r k a b) where
  abbrev ps : List (Option (List Region))
  ps = k.spaces.processes

  abbrev left_ps : List (Option (List Region))
  left_ps = set ps p (Some (without_number r.id.0 x.regions))

  abbrev left_queues : List (List ℕ)
  left_queues = set k.queues p (unlisted r.id.0 (get_or k.queues p []))

  only_here : IsOnlyIn r.id.0 p ps
  only_here = only p r k new.memory x.regions x.there x.found x.object g

  entries_same : ShowSameEntries a.seen.entry_bytes b.seen.entry_bytes (owned_regions left_ps)
  entries_same = subst (ShowSameEntries a.seen.entry_bytes b.seen.entry_bytes) (sym (owned_left r.id.0 ps p x.regions x.there only_here)) (λ j e l i.
      let q : Region = get_or (without_number r.id.0 (owned_regions ps)) j e in
      s.entries q.object.0 i (left_apart p r k new.memory x.regions x.there x.found x.object g q (has_at (without_number r.id.0 (owned_regions ps)) j e l)).1)

  lose : ProcessesLose r.id.0 k a (set_regions k.spaces p (without_number r.id.0 x.regions)) left_queues b
  lose = processes_alike a.seen.entry_bytes b.seen.entry_bytes left_ps left_queues entries_same ∙ processes_less a.seen.entry_bytes r.id.0 ps k.queues p x.regions x.there (there_below p r k new.memory x.regions x.there x.found x.object g) only_here (λ i ne live. g.listed i r.id.0 live (only_here i ne))

  pub removal_state : state_of new b ≡ tidy (remove (state_of k a) (region_view a.seen.entry_bytes r))
  removal_state =
      let found = found_here r.id.0 ps p x.regions r x.there x.found only_here in
      let fit : FitsTables r = all_has FitsTables (owned_regions ps) g.numbered.fit r (find_has (has_id r.id.0) (owned_regions ps) r found).0 in
      ap (λ (z : Kernel). state_of z b) x.left
      ∙ removed_state k new.memory (set_regions k.spaces p (without_number r.id.0 x.regions)) left_queues a b g.held.frame_of r g.has_bytes fit.most fit.low s.rests s.sents (leaves_others ps p r x.regions x.there x.found only_here) lose s.frames (pages_left k r a.seen.entry_bytes b.seen.kept_bytes g found s.left)
