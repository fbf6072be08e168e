-- Which process has the region that a transfer names.
use Rattle.std.specs.Prelude.{◌≡◌, ℕ, true, find, Some}
use Rattle.genie_space.specs.Spaces.{AddressSpaces, is_alive, regions_of}
use Rattle.genie_kernel.specs.declared.transfer.Transfer.{Transfer}
use Rattle.genie_kernel.specs.Calls.{region_number}
use Rattle.genie_kernel.specs.Regions.{has_id}
use Rattle.genie_arrivals.specs.declared.owned.OwnedRegion.{OwnedRegion}

-- the process has this region, whose number is n
pub record IsOwner (spaces : AddressSpaces) (n : ℕ) (o : OwnedRegion) : Type 0 where
  pub alive : is_alive o.pid spaces ≡ true
  pub found : find (has_id n) (regions_of o.pid spaces) ≡ Some o.region

-- and a transfer names it
pub record IsNamed (spaces : AddressSpaces) (t : Transfer) (o : OwnedRegion) : Type 0 where
  pub number : ℕ
  pub names : region_number t ≡ Some number
  pub owner : IsOwner spaces number o
