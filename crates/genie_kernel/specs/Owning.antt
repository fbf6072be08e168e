-- Whose the frames are, with one transfer less or more.
use Rattle.std.specs.Prelude.{◌≡◌, ◌≢◌, ◌⊎◌, ℕ, true, false, List, [], ◌∷◌, ◌++◌, find, Option, Some, slice_index_or}
use Rattle.genie_frame.specs.declared.frame.Owner.{Owner}
use Rattle.genie_frame.specs.declared.frame.Owner.TheVariants.{Free, System, Pool}
use Rattle.genie_input.specs.Pools.{PoolState}
use Rattle.genie_model.specs.Tables.{without}
use Rattle.genie_kernel.specs.declared.transfer.Transfer.{Transfer}
use Rattle.genie_kernel.specs.Calls.{has_number}
use Rattle.genie_kernel.specs.Loans.{has_frame}
use Rattle.genie_kernel.specs.Owners.{AreOwned, holders}

-- whose the frames are once transfer n is pending no more: its own ones aren't the system's, and no other changes
pub record LetsGo (n : ℕ) (old new : List Owner) : Type 0 where
  pub system : (f k : ℕ) → slice_index_or new f Free ≡ System k → (slice_index_or old f Free ≡ System k) × (k ≢ n)
  pub pool : (f d : ℕ) → slice_index_or new f Free ≡ Pool d → slice_index_or old f Free ≡ Pool d
  pub pool_kept : (f d : ℕ) → slice_index_or old f Free ≡ Pool d → slice_index_or new f Free ≡ Pool d

abbrev pub OwnedLess : Type 0
OwnedLess = (n : ℕ) (t : Transfer) (ts : List Transfer) (pools : List (Option PoolState)) (old new : List Owner) → find (has_number n) ts ≡ Some t → LetsGo n old new → AreOwned old ts pools → AreOwned new (without (has_number n) ts) pools

-- whose they are once frames are taken for transfer t, and lent for it alone
pub record TakesFor (t : Transfer) (old new : List Owner) : Type 0 where
  pub system : (f k : ℕ) → slice_index_or new f Free ≡ System k → ((slice_index_or old f Free ≡ System k) × (has_frame f t ≡ false)) ⊎ ((k ≡ t.id.0) × (has_frame f t ≡ true) × (slice_index_or old f Free ≡ Free))
  pub pool : (f d : ℕ) → slice_index_or new f Free ≡ Pool d → (slice_index_or old f Free ≡ Pool d) × (has_frame f t ≡ false)
  pub pool_kept : (f d : ℕ) → slice_index_or old f Free ≡ Pool d → slice_index_or new f Free ≡ Pool d

-- nothing is lent of a free frame
abbrev pub FreeAreUnlent : List Owner → List Transfer → Type 0
FreeAreUnlent owners transfers = (f : ℕ) → slice_index_or owners f Free ≡ Free → holders transfers f ≡ []

abbrev pub OwnedMore : Type 0
OwnedMore = (t : Transfer) (ts : List Transfer) (pools : List (Option PoolState)) (old new : List Owner) → TakesFor t old new → FreeAreUnlent old ts → AreOwned old ts pools → AreOwned new (ts ++ t ∷ []) pools
