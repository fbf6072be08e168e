-- What is kept where the bytes behind a state stay.
use Rattle.std.proofs.Common.{ℕ, List, refl}
use Rattle.std.specs.Prelude.{Option, Some, None, IfSome}
use Rattle.genie_input.specs.Pools.{PoolState}
use Rattle.genie_object.specs.Lemmas.Touching.{keeps_all}
use Rattle.genie_plan.specs.Plans.{input_frames}
use Rattle.genie_region.specs.declared.region.Region.{Region}
use Rattle.genie_kernel.specs.declared.kernel.Kernel.{Kernel}
use Rattle.genie_kernel.specs.declared.transfer.Transfer.{Transfer}
use Rattle.genie_kernel.specs.Good.{IsGood}
use Rattle.genie_kernel.specs.Kept.{Kept}
use Rattle.genie_kernel.specs.Regions.{owned_regions}
use Rattle.genie_kernel.specs.Same.{SameNeeded, ShowSame}
use Rattle.genie_kernel.specs.View.{Bytes}
use Rattle.genie_kernel.specs.Lemmas.Keeping.{calls_kept}
use Rattle.genie_model.specs.Tables.{entry}
use Rattle.genie_changes.specs.Regions.{KeepsBytes}

pub kept_all : (k : Kernel) → IsGood k → Kept k k
kept_all k g = calls_kept k k.memory g (keeps_all k.memory)

pool_same : (f : ℕ → List ℕ) (p : Option PoolState) → IfSome p (λ (q : PoolState). ShowSame f f (input_frames q.loans))
pool_same f None = tt
pool_same f (Some q) = λ k d l. refl

same_needed : (regions : List Region) (ts : List Transfer) (pools : List (Option PoolState)) (f : ℕ → List ℕ) → SameNeeded regions ts pools f f
same_needed regions ts pools f = record { lent = λ k d l strong j e m. refl; pooled = λ d. pool_same f (entry pools d); orphans = λ k x o. refl }

pub keeps_bytes : (k : Kernel) (b : Bytes) → KeepsBytes k b b
keeps_bytes k b = record { rests = refl; sents = refl; entries = λ j d l i. refl; frames = same_needed (owned_regions k.spaces.processes) k.transfers k.pools b.seen.kept_bytes }
