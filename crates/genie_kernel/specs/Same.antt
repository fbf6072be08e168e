-- What of the frames the view hangs on.
use Rattle.std.specs.Prelude.{◌≡◌, ℕ, true, List, All, IfSome, Option}
use Rattle.genie_input.specs.Pools.{PoolState}
use Rattle.genie_plan.specs.Plans.{input_frames}
use Rattle.genie_region.specs.declared.region.Region.{Region}
use Rattle.genie_model.specs.Tables.{entry}
use Rattle.genie_kernel.specs.declared.transfer.Transfer.{Transfer}
use Rattle.genie_kernel.specs.Calls.{is_strong_call}
use Rattle.genie_kernel.specs.Loans.{frames_of}
use Rattle.genie_kernel.specs.Orphans.{is_orphan, orphan_byte}

-- these frames show the same
abbrev pub ShowSame : (ℕ → List ℕ) → (ℕ → List ℕ) → List ℕ → Type 0
ShowSame old new frames = All (λ (f : ℕ). new f ≡ old f) frames

-- so do the frames of all pools
abbrev pub PoolsShowSame : (ℕ → List ℕ) → (ℕ → List ℕ) → List (Option PoolState) → Type 0
PoolsShowSame old new pools = (d : ℕ) → IfSome (entry pools d) (λ (p : PoolState). ShowSame old new (input_frames p.loans))

-- the frames that a device may still need show the same
pub record SameFrames (transfers : List Transfer) (pools : List (Option PoolState)) (old new : ℕ → List ℕ) : Type 0 where
  pub lent : All (λ (t : Transfer). ShowSame old new (frames_of t.loans)) transfers
  pub pooled : PoolsShowSame old new pools

-- the frames under strong loans and those of pools show the same, and so do orphans
pub record SameNeeded (regions : List Region) (transfers : List Transfer) (pools : List (Option PoolState)) (old new : ℕ → List ℕ) : Type 0 where
  pub lent : All (λ (t : Transfer). is_strong_call t ≡ true → ShowSame old new (frames_of t.loans)) transfers
  pub pooled : PoolsShowSame old new pools
  pub orphans : (k x : ℕ) → is_orphan regions transfers k ≡ true → orphan_byte new transfers k x ≡ orphan_byte old transfers k x
