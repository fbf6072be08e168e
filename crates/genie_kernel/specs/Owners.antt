-- The frames of the system: those of a transfer's own buffer, and those of a pool.
use Rattle.std.specs.Prelude.{◌≡◌, ℕ, ◌<◌, List, [], ◌∷◌, map, filter, slice_index_or, Option}
use Rattle.genie_frame.specs.declared.frame.Owner.{Owner}
use Rattle.genie_frame.specs.declared.frame.Owner.TheVariants.{Free, System, Pool}
use Rattle.genie_input.specs.Pools.{PoolState}
use Rattle.genie_model.specs.Tables.{entry}
use Rattle.genie_kernel.specs.declared.transfer.Transfer.{Transfer}
use Rattle.genie_kernel.specs.Loans.{has_frame}
use Rattle.genie_kernel.specs.Calls.{number_of}
use Rattle.genie_kernel.specs.Counted.{pool_on}

-- the numbers of the transfers that have a loan on frame f
abbrev pub holders : List Transfer → ℕ → List ℕ
holders transfers f = map number_of (filter (has_frame f) transfers)

-- a system frame is lent to its own transfer alone, and a pool frame once and to its pool alone
pub record AreOwned (owners : List Owner) (transfers : List Transfer) (pools : List (Option PoolState)) : Type 0 where
  pub system : (f k : ℕ) → slice_index_or owners f Free ≡ System k → holders transfers f ≡ k ∷ []
  pub pooled : (f d : ℕ) → slice_index_or owners f Free ≡ Pool d → pool_on f (entry pools d) ≡ 1
  pub spare : (f d : ℕ) → slice_index_or owners f Free ≡ Pool d → holders transfers f ≡ []
  pub pool_frames : (f d : ℕ) → 0 < pool_on f (entry pools d) → slice_index_or owners f Free ≡ Pool d
