-- Laws of a region that is hidden: its process has it no more, and the cache keeps it.
use Rattle.std.specs.Prelude.{◌≡◌, ℕ, List, [], ◌∷◌, ◌++◌, find, Some}
use Rattle.genie_hiding.specs.Hidden.{objects_of}
use Rattle.genie_hiding.specs.Trimming.{AllStay}
use Rattle.genie_object.specs.declared.memory.Memory.{Memory}
use Rattle.genie_object.specs.Leaving.{Empties, is_object}
use Rattle.genie_object.specs.Sound.{FitsHidden}
use Rattle.genie_region.specs.declared.region.Region.{Region}
use Rattle.genie_model.specs.Space.{remove, tidy}
use Rattle.genie_model.specs.Tables.{entry}
use Rattle.genie_kernel.specs.declared.kernel.Kernel.{Kernel}
use Rattle.genie_kernel.specs.Kept.{Kept}
use Rattle.genie_kernel.specs.Regions.{has_id, region_view}
use Rattle.genie_kernel.specs.Steps.{bytes_over}
use Rattle.genie_kernel.specs.View.{Bytes, state_of}
use Rattle.genie_changes.specs.Paged.{HavePages}
use Rattle.genie_changes.specs.Removal.{ShowsRemoval, removed_from}
use Rattle.genie_changes.specs.Settled.{IsSettled}

-- the kernel over this memory, where process p, which has these regions, has r no more, and the cache keeps it
abbrev pub hidden_from : Kernel → Memory → ℕ → Region → List Region → Kernel
hidden_from k m p r regions = record (removed_from k m p r.id.0 regions) { hidden = k.hidden ++ record { pid = p; region = r } ∷ [] }

-- region r of process p is hidden, with those of its pages that may stay; nothing else has changed
pub record HidesRegion (p : ℕ) (r : Region) (old new : Kernel) : Type 0 where
  pub regions : List Region
  pub there : entry old.spaces.processes p ≡ Some regions
  pub found : find (has_id r.id.0) regions ≡ Some r
  pub object : Empties (is_object r.object.0) old.memory new.memory
  pub fits : FitsHidden new.memory (objects_of (old.hidden ++ record { pid = p; region = r } ∷ []))
  pub stays : AllStay old.memory new.memory r.object.0
  pub left : new ≡ hidden_from old new.memory p r regions

-- what is true between two changes stays so
abbrev pub HidingSettles : Type 0
HidingSettles = (p : ℕ) (r : Region) (old new : Kernel) → HidesRegion p r old new → IsSettled old → IsSettled new

-- no frame is freed or gets another owner while a device holds it
abbrev pub HidingKeeps : Type 0
HidingKeeps = (p : ℕ) (r : Region) (old new : Kernel) → HidesRegion p r old new → IsSettled old → Kept old new

-- it shows as where a region is removed, over slots that have a page each
abbrev pub HidingShows : Type 0
HidingShows = (p : ℕ) (r : Region) (old new : Kernel) (slots rests sents : ℕ → List ℕ) → HidesRegion p r old new → IsSettled old → HavePages old.memory slots → ShowsRemoval r old (bytes_over old.memory slots rests sents) (bytes_over new.memory slots rests sents)

-- and the state is that once the region is removed
abbrev pub HidingState : Type 0
HidingState = (p : ℕ) (r : Region) (k new : Kernel) (a b : Bytes) → HidesRegion p r k new → IsSettled k → ShowsRemoval r k a b → state_of new b ≡ tidy (remove (state_of k a) (region_view a.seen.entry_bytes r))
