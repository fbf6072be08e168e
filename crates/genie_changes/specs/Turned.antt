-- Laws of a region that comes into another state, and of the queue of its process with it.
use Rattle.std.specs.Prelude.{◌≡◌, ℕ, ◌==◌, false, true, List, [], ◌∷◌, ◌++◌, map, Some, slice_set, slice_index_or}
use Rattle.std.specs.List.{list_any}
use Rattle.genie_base.specs.declared.region.RegionState.{RegionState}
use Rattle.genie_base.specs.declared.region.RegionState.TheVariants.{Out}
use Rattle.genie_region.specs.declared.region.Region.{Region}
use Rattle.genie_space.specs.Spaces.{set_regions}
use Rattle.genie_model.specs.Outputs.{moved_out}
use Rattle.genie_model.specs.Regions.{change_process, is_region}
use Rattle.genie_model.specs.State as flat
use Rattle.genie_model.specs.Tables.{entry}
use Rattle.genie_kernel.specs.declared.kernel.Kernel.{Kernel}
use Rattle.genie_kernel.specs.Regions.{has_id, region_view, with_changed}
use Rattle.genie_kernel.specs.View.{Bytes, state_of}
use Rattle.genie_changes.specs.Settled.{IsSettled}

abbrev pub in_state : RegionState → Region → Region
in_state state r = record r { state = state }

-- region n of process p, which has these regions, is in this state, and the process has this queue
abbrev pub turned : Kernel → ℕ → ℕ → RegionState → List Region → List ℕ → Kernel
turned k p n state regions queue = record k { spaces = set_regions k.spaces p (with_changed n (in_state state) regions); queues = slice_set k.queues p queue }

-- the queue lists no number but those of the regions
abbrev pub ListsOnly : List ℕ → List Region → Type 0
ListsOnly queue regions = (m : ℕ) → list_any (has_id m) regions ≡ false → list_any (λ j. j == m) queue ≡ false

-- what is true between two changes stays so
abbrev pub TurnedSettles : Type 0
TurnedSettles = (k : Kernel) (p n : ℕ) (state : RegionState) (regions : List Region) (queue : List ℕ) → IsSettled k → entry k.spaces.processes p ≡ Some regions → ListsOnly queue regions → IsSettled (turned k p n state regions queue)

-- a change of the process that has region n: it makes these regions and this queue of it, and nothing else of any other one
pub record ChangesOwner (entries : ℕ → ℕ → List ℕ) (n : ℕ) (f : flat.Process → flat.Process) (regions now : List Region) (queue after : List ℕ) : Type 0 where
  pub here : f (record { queue = queue; regions = map (region_view entries) regions }) ≡ record { queue = after; regions = map (region_view entries) now }
  pub others : (q : flat.Process) → list_any (is_region n) q.regions ≡ false → list_any (λ j. j == n) q.queue ≡ false → f q ≡ q

-- the state of the kernel then
abbrev pub TurnedState : Type 0
TurnedState = (k : Kernel) (p n : ℕ) (state : RegionState) (regions : List Region) (queue : List ℕ) (b : Bytes) (f : flat.Process → flat.Process) → IsSettled k → entry k.spaces.processes p ≡ Some regions → list_any (has_id n) regions ≡ true → ChangesOwner b.seen.entry_bytes n f regions (with_changed n (in_state state) regions) (slice_index_or k.queues p []) queue
    → state_of (turned k p n state regions queue) b ≡ record (state_of k b) { processes = map (change_process f) (state_of k b).processes }

-- a region that is moved out is the last one of the queue
abbrev pub MovedOutState : Type 0
MovedOutState = (k : Kernel) (p n : ℕ) (regions : List Region) (b : Bytes) → IsSettled k → entry k.spaces.processes p ≡ Some regions → list_any (has_id n) regions ≡ true
    → state_of (turned k p n Out regions (slice_index_or k.queues p [] ++ n ∷ [])) b ≡ moved_out (state_of k b) n

abbrev pub MovedOutLists : Type 0
MovedOutLists = (k : Kernel) (p n : ℕ) (regions : List Region) → IsSettled k → entry k.spaces.processes p ≡ Some regions → list_any (has_id n) regions ≡ true → ListsOnly (slice_index_or k.queues p [] ++ n ∷ []) regions
