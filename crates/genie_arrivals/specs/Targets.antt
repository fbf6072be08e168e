-- Where the bytes of a copy input are stored.
use Rattle.std.specs.Prelude.{◌≡◌, ℕ, ◌-◌, ◌*◌, find, Option, None, Some, IfSome, IsSome}
use Rattle.genie_base.specs.Regions.{write_reach}
use Rattle.genie_object.specs.declared.objects.Range.{Range}
use Rattle.genie_region.specs.declared.region.Region.{Region}
use Rattle.genie_region.specs.Layouts.{extent}
use Rattle.genie_model.specs.Tables.{entry}
use Rattle.genie_kernel.specs.declared.kernel.Kernel.{Kernel}
use Rattle.genie_kernel.specs.declared.transfer.Transfer.{Transfer}
use Rattle.genie_kernel.specs.Calls.{has_number}
use Rattle.genie_kernel.specs.Regions.{regions_of}

-- the region that a write of the transfer's whole range reaches in process p
abbrev pub reached_by : Kernel → Transfer → ℕ → Option Region
reached_by k t p = write_reach extent k.config.page t.addr t.len (regions_of (entry k.spaces.processes p))

-- the transfer's process may write its range: what is stored goes to this range of the region's object
pub record IsTarget (k : Kernel) (t : Transfer) (range : Range) : Type 0 where
  pub pid : ℕ
  pub owner : t.owner ≡ Some pid
  pub region : Region
  pub reached : reached_by k t pid ≡ Some region
  pub object_is : range.object ≡ region.object
  pub place : range.off ≡ t.addr - region.start * k.config.page
  pub size : range.len ≡ t.stored

-- or it has no process, or one that may not write its range
abbrev pub HasNoTarget : Kernel → Transfer → Type 0
HasNoTarget k t = (p : ℕ) → t.owner ≡ Some p → reached_by k t p ≡ None

-- the same of the transfer of this number
abbrev pub IsTargetOf : Kernel → ℕ → Range → Type 0
IsTargetOf k n range = IfSome (find (has_number n) k.transfers) (λ t. IsTarget k t range)

abbrev pub HasNoTargetOf : Kernel → ℕ → Type 0
HasNoTargetOf k n = IfSome (find (has_number n) k.transfers) (HasNoTarget k)

-- there is such a transfer
abbrev pub IsPending : Kernel → ℕ → Type 0
IsPending k n = IsSome (find (has_number n) k.transfers)
