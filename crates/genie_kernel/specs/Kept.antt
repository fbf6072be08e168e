-- What no event does to a frame while a device holds it.
use Rattle.std.specs.Prelude.{◌≡◌, ◌≢◌, ◌⊎◌, ℕ, ◌<◌, true, false, find, Some}
use Rattle.genie_frame.specs.declared.frame.Owner.{Owner}
use Rattle.genie_frame.specs.declared.frame.Owner.TheVariants.{Free, Nobody}
use Rattle.genie_frame.specs.FrameTable.{owner_at}
use Rattle.genie_model.specs.Pending.{is_ready}
use Rattle.genie_model.specs.Tables.{entry}
use Rattle.genie_kernel.specs.declared.kernel.Kernel.{Kernel}
use Rattle.genie_kernel.specs.declared.transfer.Transfer.{Transfer}
use Rattle.genie_kernel.specs.Loans.{has_frame}
use Rattle.genie_kernel.specs.Calls.{has_number}
use Rattle.genie_kernel.specs.Counted.{pool_on}

-- the frame has the owner that it had, or is nobody's, and isn't free
pub record KeepsOwner (before after : Owner) : Type 0 where
  pub owner : (after ≡ before) ⊎ (after ≡ Nobody)
  pub unfreed : after ≢ Free

-- transfer k is pending before and after
pub record StaysPending (old new : Kernel) (k : ℕ) (before after : Transfer) : Type 0 where
  pub was : find (has_number k) old.transfers ≡ Some before
  pub is : find (has_number k) new.transfers ≡ Some after

-- a frame that a pending transfer or a pool holds before and after keeps its owner, or is nobody's; and no frame is lent
-- for a pending transfer later than at its call, unless that is ready now
pub record Kept (old new : Kernel) : Type 0 where
  pub lent : (k f : ℕ) (t u : Transfer) → StaysPending old new k t u → has_frame f t ≡ true → has_frame f u ≡ true → KeepsOwner (owner_at old.memory.frames f) (owner_at new.memory.frames f)
  pub pooled : (d f : ℕ) → 0 < pool_on f (entry old.pools d) → 0 < pool_on f (entry new.pools d) → KeepsOwner (owner_at old.memory.frames f) (owner_at new.memory.frames f)
  pub fresh : (k f : ℕ) (t u : Transfer) → StaysPending old new k t u → is_ready u.phase ≡ false → has_frame f u ≡ true → has_frame f t ≡ true
