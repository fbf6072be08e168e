-- A kernel that gives all its loans back.
use Rattle.std.specs.Prelude.{◌≡◌, ◌⊎◌, ℕ, ◌<◌, ◌≤◌, false, List, [], length, AllPairs, Option, None}
use Rattle.genie_frame.specs.declared.frame.Owner.{Owner}
use Rattle.genie_frame.specs.declared.frame.Owner.TheVariants.{Free, Page, Pool}
use Rattle.genie_frame.specs.FrameTable.{owner_at, counts_at, no_counts, is_system}
use Rattle.genie_input.specs.Buffers.{one_input}
use Rattle.genie_input.specs.Pools.{PoolState, AreFreed}
use Rattle.genie_object.specs.declared.memory.Memory.{Memory}
use Rattle.genie_object.specs.Memory.{seen}
use Rattle.genie_object.specs.Sound.{IsSound}
use Rattle.genie_model.specs.Tables.{entry}
use Rattle.genie_kernel.specs.declared.kernel.Kernel.{Kernel}
use Rattle.genie_kernel.specs.declared.transfer.Transfer.{Transfer}
use Rattle.genie_kernel.specs.Booting.{frames_of_pool}
use Rattle.genie_kernel.specs.Counted.{AreCounted, pool_on}
use Rattle.genie_kernel.specs.Matching.{ArePosted}
use Rattle.genie_kernel.specs.Owners.{AreOwned}
use Rattle.genie_kernel.specs.Planned.{ArePlanned}

-- the frame is free, or a page has it
abbrev pub IsFreeOrPaged : Owner → Type 0
IsFreeOrPaged owner = (owner ≡ Free) ⊎ ((p : ℕ) × (owner ≡ Page p))

-- no transfer is pending, no input is posted, and no device has a pool; no frame carries a loan or a wire, and each one is
-- free or has a page
pub record IsClosed (k : Kernel) : Type 0 where
  pub transfers : k.transfers ≡ []
  pub posted : k.posted ≡ []
  pub pools : (d : ℕ) → entry k.pools d ≡ None
  pub counts : (f : ℕ) → counts_at k.memory.frames f ≡ no_counts
  pub owners : (f : ℕ) → IsFreeOrPaged (owner_at k.memory.frames f)
  pub sound : IsSound k.memory

-- each page stays in its place and shows what it showed, and nothing is counted
pub record KeepsPages (old new : Memory) : Type 0 where
  pub only : new ≡ record old { frames = new.frames }
  pub entries : (slots : ℕ → List ℕ) → (seen new slots).entry_bytes ≡ (seen old slots).entry_bytes
  pub meters : new.frames.meters ≡ old.frames.meters
  pub landed : new.frames.landed ≡ old.frames.landed

-- so it is of the kernel's memory, and nothing else changes but what is pending
pub record KeepsRest (old new : Kernel) : Type 0 where
  pub only : new ≡ record old { memory = new.memory; transfers = new.transfers; posted = new.posted; pools = new.pools }
  pub pages : KeepsPages old.memory new.memory

-- what is lent in the memory of a kernel whose transfers are given up one after the other: just what is lent for those that
-- are left, and for the pools
pub record IsLent (k : Kernel) : Type 0 where
  pub sound : IsSound k.memory
  pub counted : AreCounted k.memory.frames.counts k.transfers k.pools
  pub owners : AreOwned k.memory.frames.owners k.transfers k.pools
  pub rising : AllPairs (λ (x y : Transfer). x.id.0 < y.id.0) k.transfers
  pub planned : ArePlanned k.config.page k.memory.frames.owners k.devices k.transfers
  pub posted : ArePosted k.posted k.transfers
  pub pool_places : length k.pools ≡ 8

-- the first n pools are given up, and nothing is lent but for the others: each of their frames once, and to its device
pub record LendsPools (n : ℕ) (m : Memory) (pools : List (Option PoolState)) : Type 0 where
  pub sound : IsSound m
  pub places : length pools ≡ 8
  pub ended : (d : ℕ) → d < n → entry pools d ≡ None
  pub owned : (f d : ℕ) → 0 < pool_on f (entry pools d) → owner_at m.frames f ≡ Pool d
  pub lent : (f d : ℕ) → 0 < pool_on f (entry pools d) → counts_at m.frames f ≡ one_input
  pub once : (f d : ℕ) → pool_on f (entry pools d) ≤ 1
  pub unlent : (f : ℕ) → ((d : ℕ) → pool_on f (entry pools d) ≡ 0) → counts_at m.frames f ≡ no_counts
  pub unowned : (f : ℕ) → ((d : ℕ) → pool_on f (entry pools d) ≡ 0) → is_system (owner_at m.frames f) ≡ false

-- the frames of a pool are free, and each page stays
pub record PoolEnds (pool : Option PoolState) (old new : Memory) : Type 0 where
  pub sound : IsSound new
  pub freed : AreFreed (frames_of_pool pool) old.frames new.frames
  pub keeps : KeepsPages old new
