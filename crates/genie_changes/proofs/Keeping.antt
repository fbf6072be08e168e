-- Frames that show the same.
use Rattle.std.proofs.Common.{ℕ, List, refl}
use Rattle.std.specs.Prelude.{Option, Some, None, IfSome}
use Rattle.genie_input.specs.Pools.{PoolState}
use Rattle.genie_plan.specs.Plans.{input_frames}
use Rattle.genie_region.specs.declared.region.Region.{Region}
use Rattle.genie_model.specs.Tables.{entry}
use Rattle.genie_kernel.specs.declared.transfer.Transfer.{Transfer}
use Rattle.genie_kernel.specs.Same.{SameNeeded, ShowSame}

pool_same : (f : ℕ → List ℕ) (p : Option PoolState) → IfSome p (λ (q : PoolState). ShowSame f f (input_frames q.loans))
pool_same f None = tt
pool_same f (Some q) = λ k d l. refl

pub same_needed : (regions : List Region) (ts : List Transfer) (pools : List (Option PoolState)) (f : ℕ → List ℕ) → SameNeeded regions ts pools f f
same_needed regions ts pools f = record { lent = λ k d l strong j e m. refl; pooled = λ d. pool_same f (entry pools d); orphans = λ k x o. refl }
