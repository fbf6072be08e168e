-- Room for one region more.
use Rattle.std.specs.Prelude.{◌≡◌, ℕ, ◌+◌, ◌<◌, List, [], length, count_by, replicate, slice_set, slice_index_or, remove}
use Rattle.genie_hiding.specs.Hidden.{is_of, no_hidden, objects_of}
use Rattle.genie_object.specs.declared.memory.Memory.{Memory}
use Rattle.genie_object.specs.Leaving.{Removes}
use Rattle.genie_object.specs.Objects.{object_at, no_entry}
use Rattle.genie_object.specs.Sound.{IsSound, FitsHidden}
use Rattle.genie_region.specs.declared.region.Region.{Region}
use Rattle.genie_space.specs.Spaces.{regions_of, set_regions}
use Rattle.genie_changes.specs.Regions.{KeepsBytes, with_added}
use Rattle.genie_kernel.specs.declared.kernel.Kernel.{Kernel}
use Rattle.genie_kernel.specs.Good.{IsGood}
use Rattle.genie_kernel.specs.Kept.{Kept}
use Rattle.genie_kernel.specs.Steps.{bytes_over}
use Rattle.genie_copying.specs.Spending.{StayUnheld}

-- the process has room for one region more, hidden ones counted
abbrev pub HasRoom : ℕ → Kernel → Type 0
HasRoom p k = length (regions_of p k.spaces) + count_by (is_of p) k.hidden < 32

-- nothing but the memory and the hidden regions has changed, and all that the kernel stands for stays
pub record Clears (old new : Kernel) : Type 0 where
  pub good : IsGood new
  pub only : new ≡ record old { memory = new.memory; hidden = new.hidden }
  pub bytes : (slots : ℕ → List ℕ) (rests sents : ℕ → List ℕ) → KeepsBytes old (bytes_over old.memory slots rests sents) (bytes_over new.memory slots rests sents)
  pub kept : Kept old new
  pub meters : new.memory.frames.meters ≡ old.memory.frames.meters
  pub landed : new.memory.frames.landed ≡ old.memory.frames.landed
  pub unheld : StayUnheld (objects_of old.hidden) old.memory new.memory

-- so it is once one hidden region has gone, with its object
abbrev pub HiddenRegionGoes : Type 0
HiddenRegionGoes = (k : Kernel) (m : Memory) (i : ℕ) → IsGood k → i < length k.hidden → Removes (slice_index_or k.hidden i no_hidden).region.object.0 k.memory m → FitsHidden m (objects_of (remove k.hidden i)) → Clears k (record k { memory = m; hidden = remove k.hidden i })

-- a region more of process p, with an object of untouched pages that is made for it
pub record Adds (p : ℕ) (r : Region) (old new : Kernel) : Type 0 where
  pub absent : object_at old.memory.objects r.object.0 ≡ []
  pub size : length (object_at new.memory.objects r.object.0) ≡ r.pages
  pub sound : IsSound new.memory
  pub added : new ≡ record old { memory = record (old.memory) { objects = slice_set old.memory.objects r.object.0 (replicate r.pages no_entry) }; spaces = set_regions old.spaces p (with_added r (regions_of p old.spaces)) }
