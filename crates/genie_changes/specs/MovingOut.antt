-- Laws of a region that is moved out: it is Out, and behind the others in the weak queue of its process.
use Rattle.std.specs.Prelude.{◌≡◌, ℕ, ◌<◌, true, List, [], ◌∷◌, ◌++◌, length, Some, slice_set, slice_index_or}
use Rattle.std.specs.List.{list_any}
use Rattle.genie_base.specs.declared.numbers.RegionId.{RegionId}
use Rattle.genie_base.specs.declared.region.RegionState.TheVariants.{Out}
use Rattle.genie_region.specs.declared.region.Region.{Region}
use Rattle.genie_region.specs.Layouts.{with_region}
use Rattle.genie_space.specs.Spaces.{regions_of, set_regions}
use Rattle.genie_model.specs.Outputs as model
use Rattle.genie_model.specs.Tables.{entry}
use Rattle.genie_kernel.specs.declared.kernel.Kernel.{Kernel}
use Rattle.genie_kernel.specs.Regions.{has_id}
use Rattle.genie_kernel.specs.View.{Bytes, state_of}
use Rattle.genie_changes.specs.Beginning.{HasParts}
use Rattle.genie_changes.specs.Removing.{IsOnlyIn}

-- the same region, moved out
abbrev pub out_region : Region → Region
out_region r = record r { state = Out }

-- region id of process p is moved out
abbrev pub moved_out : Kernel → ℕ → RegionId → Kernel
moved_out k p id = record k { spaces = set_regions k.spaces p (with_region id out_region (regions_of p k.spaces)); queues = slice_set k.queues p (slice_index_or k.queues p [] ++ id.0 ∷ []) }

-- all that is true of a good kernel but for the outline's order stays so
abbrev pub MovedOutHasParts : Type 0
MovedOutHasParts = (k : Kernel) (p : ℕ) (id : RegionId) (rs : List Region) → entry k.spaces.processes p ≡ Some rs → HasParts k → HasParts (moved_out k p id)

-- the state with the region moved out, which one process has
abbrev pub MovedOutState : Type 0
MovedOutState = (k : Kernel) (p : ℕ) (id : RegionId) (rs : List Region) (b : Bytes) → entry k.spaces.processes p ≡ Some rs → list_any (has_id id.0) rs ≡ true → IsOnlyIn id.0 p k.spaces.processes → p < length k.queues → state_of (moved_out k p id) b ≡ model.moved_out (state_of k b) id.0
