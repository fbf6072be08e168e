-- A region that is removed while no weak transfer names it.
use Rattle.std.proofs.Common.{◌≡◌, ◌≢◌, ℕ, Bool, true, false, not, cond, List, [], ◌∷◌, refl, sym, ap, subst, ◌∙◌, ⊎_elim, map, filter, get_or, set}
use Rattle.std.specs.Prelude.{Option, Some, nat_lt, ◌&&◌}
use Rattle.std.specs.List.{list_any}
use Rattle.std.proofs.lemmas.Bool.{cases_eq}
use Rattle.genie_region.specs.declared.region.Region.{Region}
use Rattle.genie_model.specs.Lemmas.Lists.{has_at}
use Rattle.genie_model.specs.Pending.{names_weakly as model_names}
use Rattle.genie_model.specs.Regions.{change_process}
use Rattle.genie_model.specs.Space.{as_orphan, cut, is_named, remove, tidy, without_region}
use Rattle.genie_model.specs.State as flat
use Rattle.genie_model.specs.Tables.{put_in}
use Rattle.genie_kernel.specs.declared.kernel.Kernel.{Kernel}
use Rattle.genie_kernel.specs.Calls.{names_weakly, receiver}
use Rattle.genie_kernel.specs.Devices.{devices_view}
use Rattle.genie_kernel.specs.Orphans.{all_numbers, is_orphan, is_owned, orphan_view, orphans_view}
use Rattle.genie_kernel.specs.Regions.{owned_regions, processes_view}
use Rattle.genie_kernel.specs.Steps.{bytes_over}
use Rattle.genie_kernel.specs.View.{Bytes, no_bytes, state_of}
use Rattle.genie_kernel.specs.Lemmas.Alike.{transfers_alike, orphans_alike, devices_alike}
use Rattle.genie_changes.specs.Orphans.{IsWithout}
use Rattle.genie_changes.specs.Regions.{without_number, ShowSameEntries}
use Rattle.genie_changes.specs.Removing.{IsOnlyIn}
use Rattle.genie_changes.specs.Removal.{RemovesRegion, unlisted}
use Rattle.genie_changes.specs.Settled.{IsSettled}
use Rattle.genie_changes.specs.Unnamed.{ShowsOtherRegions}
use Rattle.genie_changes.proofs.Keeping.{same_needed}
use Rattle.genie_changes.proofs.Leaving.{leaves_others, owned_left, processes_less}
use Rattle.genie_changes.proofs.Lent.{needed_same}
use Rattle.genie_changes.proofs.RegionGone.{left_apart, only, owns, quiet, there_below}
use Rattle.genie_changes.proofs.Spaces.{processes_alike}

pub removal_shows_others : (p : ℕ) (r : Region) (old new : Kernel) (slots rests sents : ℕ → List ℕ) → RemovesRegion p r old new → IsSettled old → ShowsOtherRegions r old (bytes_over old.memory slots rests sents) (bytes_over new.memory slots rests sents)
removal_shows_others p r old new slots rests sents x g = record {
  rests = refl;
  sents = refl;
  entries = λ o i ne. x.object.entries slots o i (quiet p r old new.memory x.regions x.there x.found x.object g o i ne);
  frames = needed_same old g new.memory (owns p r old new.memory x.regions x.there x.found x.object g);
}

pub outlines_show_regions : (r : Region) (k : Kernel) → ShowsOtherRegions r k (no_bytes k.config.page) (no_bytes k.config.page)
outlines_show_regions r k = record { rests = refl; sents = refl; entries = λ o i ne. refl; frames = same_needed (owned_regions k.spaces.processes) k.transfers k.pools (no_bytes k.config.page).seen.kept_bytes }

module _ (p : ℕ) (r : Region) (k new : Kernel) (a b : Bytes) (x : RemovesRegion p r k new) (g : IsSettled k) (unnamed : list_any (names_weakly r.id.0) k.transfers ≡ false) (s : ShowsOtherRegions r k a b) where
  abbrev ps : List (Option (List Region))
  ps = k.spaces.processes

  abbrev left_ps : List (Option (List Region))
  left_ps = set ps p (Some (without_number r.id.0 x.regions))

  abbrev left_queues : List (List ℕ)
  left_queues = set k.queues p (unlisted r.id.0 (get_or k.queues p []))

  only_here : IsOnlyIn r.id.0 p ps
  only_here = only p r k new.memory x.regions x.there x.found x.object g

  entries_same : ShowSameEntries a.seen.entry_bytes b.seen.entry_bytes (owned_regions left_ps)
  entries_same = subst (ShowSameEntries a.seen.entry_bytes b.seen.entry_bytes) (sym (owned_left r.id.0 ps p x.regions x.there only_here)) (λ j e l i.
      let q : Region = get_or (without_number r.id.0 (owned_regions ps)) j e in
      s.entries q.object.0 i (left_apart p r k new.memory x.regions x.there x.found x.object g q (has_at (without_number r.id.0 (owned_regions ps)) j e l)).1)

  processes : processes_view b.seen.entry_bytes left_ps left_queues ≡ map (change_process (without_region r.id.0)) (processes_view a.seen.entry_bytes ps k.queues)
  processes = processes_alike a.seen.entry_bytes b.seen.entry_bytes left_ps left_queues entries_same ∙ processes_less a.seen.entry_bytes r.id.0 ps k.queues p x.regions x.there (there_below p r k new.memory x.regions x.there x.found x.object g) only_here (λ i ne live. g.listed i r.id.0 live (only_here i ne))

  without_it : IsWithout r (owned_regions ps) (owned_regions left_ps)
  without_it = leaves_others ps p r x.regions x.there x.found only_here

  orphan_same : (j : ℕ) → is_orphan (owned_regions left_ps) k.transfers j ≡ is_orphan (owned_regions ps) k.transfers j
  orphan_same j = ⊎_elim
      (λ (same : j ≡ r.id.0).
      let none : list_any (names_weakly j) k.transfers ≡ false = ap (λ i. list_any (names_weakly i) k.transfers) same ∙ unnamed in
      ap (λ c. c && not (is_owned (owned_regions left_ps) j)) none ∙ sym (ap (λ c. c && not (is_owned (owned_regions ps) j)) none))
      (λ (other : j ≢ r.id.0). ap (λ c. list_any (names_weakly j) k.transfers && not c) (without_it.others j other))
      (cases_eq j r.id.0)

  orphans : orphans_view k.config.page b.seen.kept_bytes (owned_regions left_ps) k.transfers ≡ orphans_view k.config.page a.seen.kept_bytes (owned_regions ps) k.transfers
  orphans = (λ i. map (orphan_view k.config.page b.seen.kept_bytes k.transfers) (filter (λ j. orphan_same j i) all_numbers)) ∙ orphans_alike (owned_regions ps) k.transfers k.pools a.seen.kept_bytes b.seen.kept_bytes s.frames k.config.page

  pub unnamed_state : state_of new b ≡ record (state_of k a) { processes = map (change_process (without_region r.id.0)) (state_of k a).processes }
  unnamed_state =
      let transfers = transfers_alike (owned_regions ps) k.transfers k.pools a.seen.kept_bytes b.seen.kept_bytes s.frames k.devices in
      let devices = (λ i. devices_view b.seen.kept_bytes 0 (s.rests i) (s.sents i) k.pools (receiver k.transfers) k.devices) ∙ devices_alike (owned_regions ps) k.transfers k.pools a.seen.kept_bytes b.seen.kept_bytes s.frames 0 a.rests a.sents (receiver k.transfers) k.devices in
      ap (λ (z : Kernel). state_of z b) x.left ∙ (λ i. record (state_of k a) { processes = processes i; orphans = orphans i; transfers = transfers i; devices = devices i })

-- an element that fails the test is put in
filter_put : {X : Type 0} (key : X → ℕ) (q : X → Bool) (x : X) (xs : List X) → q x ≡ false → filter q (put_in key x xs) ≡ filter q xs
filter_put key q x [] e = ap (λ b. cond b (x ∷ []) []) e
filter_put key q x (y ∷ ys) e = elim (nat_lt (key x) (key y)) as (λ b. filter q (cond b (x ∷ y ∷ ys) (y ∷ put_in key x ys)) ≡ filter q (y ∷ ys)) [
  | true ↦ ap (λ b. cond b (x ∷ filter q (y ∷ ys)) (filter q (y ∷ ys))) e
  | false ↦ ap (λ l. cond (q y) (y ∷ l) l) (filter_put key q x ys e)
]

pub unnamed_removal : (s : flat.State) (r : flat.Region) → list_any (model_names r.number) s.transfers ≡ false → tidy (remove s r) ≡ record (tidy s) { processes = map (change_process (without_region r.number)) s.processes }
unnamed_removal s r none = λ i. record (tidy s) {
  processes = map (change_process (without_region r.number)) s.processes;
  orphans = map (cut s.transfers) (filter_put (λ (o : flat.Orphan). o.number) (is_named s.transfers) (as_orphan r) s.orphans none i);
}
