-- A region that becomes its process's.
use Rattle.std.specs.Prelude.{ℕ, List}
use Rattle.genie_base.specs.declared.region.RegionState.TheVariants as state
use Rattle.genie_changes.specs.Regions.{BackedChanged, ChangedRegion, FewChanged, FindsNamedChanged, GuardedChanged, HeldOverRegions}
use Rattle.genie_changes.specs.Removing.{FindsOthersStill}
use Rattle.genie_region.specs.declared.region.Region.{Region}
use Rattle.genie_space.specs.Spaces.{set_regions}
use Rattle.genie_kernel.specs.declared.kernel.Kernel.{Kernel}
use Rattle.genie_kernel.specs.Regions.{with_changed}

-- the region, Live
abbrev pub live : Region → Region
live r = record r { state = state.Live }

-- the kernel with region n of process p so, which has these regions
abbrev pub lively : Kernel → ℕ → ℕ → List Region → Kernel
lively k p n rs = record k { spaces = set_regions k.spaces p (with_changed n live rs) }

-- what a region changed leaves of the state and of what is true of a kernel
pub record ChangeLaws : Type 0 where
  pub changed : ChangedRegion
  pub few : FewChanged
  pub backed : BackedChanged
  pub guarded : GuardedChanged
  pub held : HeldOverRegions
  pub finds : FindsNamedChanged
  pub found : FindsOthersStill
