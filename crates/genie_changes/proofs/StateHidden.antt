-- The state of a kernel of which a region was hidden.
use Rattle.std.proofs.Common.{◌≡◌, ℕ, List, [], refl, sym, ap, subst, ◌∙◌, get_or, set}
use Rattle.std.specs.Prelude.{Option, Some}
use Rattle.genie_region.specs.declared.region.Region.{Region}
use Rattle.genie_space.specs.Spaces.{set_regions}
use Rattle.genie_model.specs.Lemmas.Lists.{all_has, find_has, has_at}
use Rattle.genie_model.specs.Space.{remove, tidy}
use Rattle.genie_kernel.specs.declared.kernel.Kernel.{Kernel}
use Rattle.genie_kernel.specs.Regions.{has_id, owned_regions, region_view}
use Rattle.genie_kernel.specs.Steps.{bytes_over}
use Rattle.genie_kernel.specs.View.{Bytes, state_of}
use Rattle.genie_changes.specs.Paged.{HavePages}
use Rattle.genie_changes.specs.Regions.{without_number, ShowSameEntries}
use Rattle.genie_changes.specs.Removing.{FitsTables, IsOnlyIn}
use Rattle.genie_changes.specs.Hiding.{HidesRegion}
use Rattle.genie_changes.specs.Removal.{ShowsRemoval, unlisted}
use Rattle.genie_changes.specs.Settled.{IsSettled}
use Rattle.genie_changes.specs.States.{ProcessesLose}
use Rattle.genie_changes.proofs.Leaving.{found_here, leaves_others, owned_left, processes_less}
use Rattle.genie_changes.proofs.Lent.{needed_same}
use Rattle.genie_changes.proofs.RegionHidden.{left_apart, only, owns, quiet, shows_left, there_below}
use Rattle.genie_changes.proofs.Removed.{removed_state}
use Rattle.genie_changes.proofs.Spaces.{processes_alike}
use Rattle.genie_changes.proofs.StateGone.{pages_left}

pub hiding_shows : (p : ℕ) (r : Region) (old new : Kernel) (slots rests sents : ℕ → List ℕ) → HidesRegion p r old new → IsSettled old → HavePages old.memory slots → ShowsRemoval r old (bytes_over old.memory slots rests sents) (bytes_over new.memory slots rests sents)
hiding_shows p r old new slots rests sents x g paged = record {
  rests = refl;
  sents = refl;
  entries = λ o i ne. x.object.entries slots o i (quiet p r old new.memory x.regions x.there x.found x.object x.fits g o i ne);
  frames = needed_same old g new.memory (owns p r old new.memory x.regions x.there x.found x.object x.fits g);
  left = shows_left p r old new.memory x.regions x.there x.found x.object x.fits g slots paged;
}

module _ (p : ℕ) (r : Region) (k new : Kernel) (a b : Bytes) (x : HidesRegion p r k new) (g : IsSettled k) (s : ShowsRemoval r k a b) where
  abbrev ps : List (Option (List Region))
  ps = k.spaces.processes

  abbrev left_ps : List (Option (List Region))
  left_ps = set ps p (Some (without_number r.id.0 x.regions))

  abbrev left_queues : List (List ℕ)
  left_queues = set k.queues p (unlisted r.id.0 (get_or k.queues p []))

  only_here : IsOnlyIn r.id.0 p ps
  only_here = only p r k new.memory x.regions x.there x.found x.object x.fits g

  entries_same : ShowSameEntries a.seen.entry_bytes b.seen.entry_bytes (owned_regions left_ps)
  entries_same = subst (ShowSameEntries a.seen.entry_bytes b.seen.entry_bytes) (sym (owned_left r.id.0 ps p x.regions x.there only_here)) (λ j e l i.
      let q : Region = get_or (without_number r.id.0 (owned_regions ps)) j e in
      s.entries q.object.0 i (left_apart p r k new.memory x.regions x.there x.found x.object x.fits g q (has_at (without_number r.id.0 (owned_regions ps)) j e l)).1)

  lose : ProcessesLose r.id.0 k a (set_regions k.spaces p (without_number r.id.0 x.regions)) left_queues b
  lose = processes_alike a.seen.entry_bytes b.seen.entry_bytes left_ps left_queues entries_same ∙ processes_less a.seen.entry_bytes r.id.0 ps k.queues p x.regions x.there (there_below p r k new.memory x.regions x.there x.found x.object x.fits g) only_here (λ i ne live. g.listed i r.id.0 live (only_here i ne))

  pub hiding_state : state_of new b ≡ tidy (remove (state_of k a) (region_view a.seen.entry_bytes r))
  hiding_state =
      let found = found_here r.id.0 ps p x.regions r x.there x.found only_here in
      let fit : FitsTables r = all_has FitsTables (owned_regions ps) g.numbered.fit r (find_has (has_id r.id.0) (owned_regions ps) r found).0 in
      ap (λ (z : Kernel). state_of z b) x.left
      ∙ removed_state k new.memory (set_regions k.spaces p (without_number r.id.0 x.regions)) left_queues a b g.held.frame_of r g.has_bytes fit.most fit.low s.rests s.sents (leaves_others ps p r x.regions x.there x.found only_here) lose s.frames (pages_left k r a.seen.entry_bytes b.seen.kept_bytes g found s.left)
