-- Laws of a region that is removed while no weak transfer names it: no orphan stays.
use Rattle.std.specs.Prelude.{◌≡◌, ◌≢◌, ℕ, false, List, map}
use Rattle.std.specs.List.{list_any}
use Rattle.genie_region.specs.declared.region.Region.{Region}
use Rattle.genie_model.specs.Pending.{names_weakly as model_names}
use Rattle.genie_model.specs.Regions.{change_process}
use Rattle.genie_model.specs.Space.{remove, tidy, without_region}
use Rattle.genie_model.specs.State as flat
use Rattle.genie_kernel.specs.declared.kernel.Kernel.{Kernel}
use Rattle.genie_kernel.specs.Calls.{names_weakly}
use Rattle.genie_kernel.specs.Regions.{owned_regions}
use Rattle.genie_kernel.specs.Same.{SameNeeded}
use Rattle.genie_kernel.specs.Steps.{bytes_over}
use Rattle.genie_kernel.specs.View.{Bytes, no_bytes, state_of}
use Rattle.genie_changes.specs.Removal.{RemovesRegion}
use Rattle.genie_changes.specs.Settled.{IsSettled}

-- all other entries show the same, and so do the frames that devices need and the orphans
pub record ShowsOtherRegions (r : Region) (k : Kernel) (old new : Bytes) : Type 0 where
  pub rests : new.rests ≡ old.rests
  pub sents : new.sents ≡ old.sents
  pub entries : (o i : ℕ) → o ≢ r.object.0 → new.seen.entry_bytes o i ≡ old.seen.entry_bytes o i
  pub frames : SameNeeded (owned_regions k.spaces.processes) k.transfers k.pools old.seen.kept_bytes new.seen.kept_bytes

-- so it is of a region that is removed, whatever the store holds, and of the outlines
abbrev pub RemovalShowsOthers : Type 0
RemovalShowsOthers = (p : ℕ) (r : Region) (old new : Kernel) (slots rests sents : ℕ → List ℕ) → RemovesRegion p r old new → IsSettled old → ShowsOtherRegions r old (bytes_over old.memory slots rests sents) (bytes_over new.memory slots rests sents)

abbrev pub OutlinesShowOtherRegions : Type 0
OutlinesShowOtherRegions = (r : Region) (k : Kernel) → ShowsOtherRegions r k (no_bytes k.config.page) (no_bytes k.config.page)

-- where no weak transfer names it, the state is that without it
abbrev pub UnnamedState : Type 0
UnnamedState = (p : ℕ) (r : Region) (k new : Kernel) (a b : Bytes) → RemovesRegion p r k new → IsSettled k → list_any (names_weakly r.id.0) k.transfers ≡ false → ShowsOtherRegions r k a b
    → state_of new b ≡ record (state_of k a) { processes = map (change_process (without_region r.id.0)) (state_of k a).processes }

-- so it is of the flat machine
abbrev pub UnnamedRemoval : Type 0
UnnamedRemoval = (s : flat.State) (r : flat.Region) → list_any (model_names r.number) s.transfers ≡ false → tidy (remove s r) ≡ record (tidy s) { processes = map (change_process (without_region r.number)) s.processes }
