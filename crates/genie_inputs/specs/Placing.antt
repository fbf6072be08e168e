-- The place of a new region.
use Rattle.std.specs.Prelude.{◌≡◌, ◌+◌, ◌-◌, ◌/◌, true, Some}
use Rattle.genie_base.specs.Regions.{place}
use Rattle.genie_base.specs.declared.numbers.ObjectId.{ObjectId}
use Rattle.genie_base.specs.declared.region.Area.TheVariants.{Sys}
use Rattle.genie_base.specs.declared.region.RegionState.{RegionState}
use Rattle.genie_region.specs.declared.region.Region.{Region}
use Rattle.genie_region.specs.Layouts.{extent}
use Rattle.genie_model.specs.Regions.{fresh}
use Rattle.genie_model.specs.Tables.{entry}
use Rattle.genie_kernel.specs.declared.kernel.Kernel.{Kernel}
use Rattle.genie_kernel.specs.Regions.{regions_of}
use Rattle.genie_kernel.specs.View.{outline}
use Rattle.genie_inputs.specs.declared.call.Call.{Call}
use Rattle.genie_inputs.specs.declared.place.Placement.{Placement}

-- the least number that isn't used, as many pages as the call's bytes need, and the lowest place for these
pub record IsPlace (k : Kernel) (c : Call) (at : Placement) : Type 0 where
  pub number : at.id.0 ≡ fresh (outline k)
  pub pages : at.pages ≡ (c.len + k.config.page - 1) / k.config.page
  pub lowest : place extent at.pages (regions_of (entry k.spaces.processes c.pid)) ≡ Some at.start

-- the region there
abbrev pub new_region : Placement → RegionState → ObjectId → Region
new_region at state object = record { id = at.id; start = at.start; pages = at.pages; area = Sys; state = state; writable = true; object = object }
