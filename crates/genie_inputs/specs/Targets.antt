-- What a weak input is to store in.
use Rattle.std.specs.Prelude.{◌≡◌, ℕ, ◌+◌, ◌-◌, ◌*◌, ◌≤◌, true, Some}
use Rattle.genie_base.specs.Regions.{reach}
use Rattle.genie_region.specs.declared.region.Region.{Region}
use Rattle.genie_region.specs.Layouts.{extent}
use Rattle.genie_model.specs.Tables.{entry}
use Rattle.genie_kernel.specs.declared.kernel.Kernel.{Kernel}
use Rattle.genie_kernel.specs.Regions.{regions_of}
use Rattle.genie_inputs.specs.declared.call.Call.{Call}

-- the call's bytes from address a on are those from place off on of this region, which may be written
pub record Reaches (k : Kernel) (c : Call) (a : ℕ) (r : Region) (off : ℕ) : Type 0 where
  pub found : reach extent k.config.page a c.len (regions_of (entry k.spaces.processes c.pid)) ≡ Some r
  pub writable : r.writable ≡ true
  pub place : off ≡ a - r.start * k.config.page
  pub inside : off + c.len ≤ k.config.page * r.pages
