-- What the events on regions stand on.
use Rattle.genie_kernel.specs.Steps.{StaysOrderly}
use Rattle.genie_changes.specs.Regions.{AddedRegion, ChangedRegion, FewMore, FewChanged, BackedMore, BackedChanged, GuardedMore, GuardedChanged, HeldOverRegions, FindsNamedMore, FindsNamedChanged}

-- what a region more, and one changed, leave of the state and of what is true of a kernel
pub record RegionLaws : Type 0 where
  pub orderly : StaysOrderly
  pub added : AddedRegion
  pub changed : ChangedRegion
  pub few_more : FewMore
  pub few_changed : FewChanged
  pub backed_more : BackedMore
  pub backed_changed : BackedChanged
  pub guarded_more : GuardedMore
  pub guarded_changed : GuardedChanged
  pub held : HeldOverRegions
  pub finds_more : FindsNamedMore
  pub finds_changed : FindsNamedChanged
