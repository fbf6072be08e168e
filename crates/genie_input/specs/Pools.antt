-- The buffers that a pooled device holds.
use Rattle.std.specs.Prelude.{◌≡◌, ℕ, ◌*◌, ◌+◌, ◌<◌, ◌≤◌, Bool, true, false, List, [], length, take, drop, count_by, slice_index_or, slice_set}
use Rattle.genie_frame.specs.declared.frame.InLoan.{InLoan}
use Rattle.genie_frame.specs.declared.frame.Owner.TheVariants as owner
use Rattle.genie_frame.specs.FrameTable.{FrameTable, owner_at, counts_at, no_counts}
use Rattle.genie_object.specs.declared.memory.Memory.{Memory}
use Rattle.genie_object.specs.Memory.{seen}
use Rattle.genie_plan.specs.Plans.{times, AreApart}
use Rattle.genie_input.specs.Buffers.{one_input}
use Rattle.genie_input.specs.declared.pool.BufferState.{BufferState}
use Rattle.genie_input.specs.declared.pool.BufferState.TheVariants.{Free, Filling, Held}

-- what each buffer is doing, and the loans of all buffers, 17 of each
pub record PoolState : Type 0 where
  pub buffers : List BufferState
  pub loans : List InLoan

abbrev pub is_free : BufferState → Bool
is_free Free = true
is_free Filling = false
is_free Held = false

abbrev pub is_filling : BufferState → Bool
is_filling Free = false
is_filling Filling = true
is_filling Held = false

abbrev pub is_held : BufferState → Bool
is_held Free = false
is_held Filling = false
is_held Held = true

-- what every pool keeps: at most four buffers, and at most one of them is filling
pub record IsPool (buffers : List BufferState) (loans : List InLoan) : Type 0 where
  pub most : length buffers ≤ 4
  pub size : length loans ≡ 17 * length buffers
  pub one : count_by is_filling buffers ≤ 1

-- the loans of buffer b
abbrev pub buffer_loans : PoolState → ℕ → List InLoan
buffer_loans p b = take 17 (drop (17 * b) p.loans)

abbrev pub no_loan : InLoan
no_loan = record { frame = record { 0 = 0 } }

-- loan i of buffer b
abbrev pub loan_at : PoolState → ℕ → ℕ → InLoan
loan_at p b i = slice_index_or p.loans (17 * b + i) no_loan

abbrev pub set_buffer : PoolState → ℕ → BufferState → PoolState
set_buffer p b state = record p { buffers = slice_set p.buffers b state }

abbrev pub set_loan : PoolState → ℕ → ℕ → InLoan → PoolState
set_loan p b i loan = record p { loans = slice_set p.loans (17 * b + i) loan }

-- each of these frames is the device's, and carries the pool's one loan of it
pub record ArePooled (t : FrameTable) (dev : ℕ) (frames : List ℕ) : Type 0 where
  pub owned : (f : ℕ) → 0 < times frames f → owner_at t f ≡ owner.Pool dev
  pub counts : (f : ℕ) → 0 < times frames f → counts_at t f ≡ one_input
  pub apart : AreApart frames

-- these frames are free, and carry nothing; every other frame is as it was
pub record AreFreed (frames : List ℕ) (old new : FrameTable) : Type 0 where
  pub owned : (f : ℕ) → 0 < times frames f → owner_at new f ≡ owner.Free
  pub none : (f : ℕ) → 0 < times frames f → counts_at new f ≡ no_counts
  pub others : (f : ℕ) → times frames f ≡ 0 → owner_at new f ≡ owner_at old f
  pub counts : (f : ℕ) → times frames f ≡ 0 → counts_at new f ≡ counts_at old f
  pub page : new.page ≡ old.page
  pub bytes : new.bytes ≡ old.bytes
  pub meters : new.meters ≡ old.meters
  pub landed : new.landed ≡ old.landed
  pub size : length new.owners ≡ length old.owners

-- each entry shows what it showed, and so does each frame that is none of these, of which nothing is seen by itself
pub record ShowsFreed (frames : List ℕ) (old new : Memory) : Type 0 where
  pub entries : (slots : ℕ → List ℕ) → (seen new slots).entry_bytes ≡ (seen old slots).entry_bytes
  pub others : (slots : ℕ → List ℕ) (f : ℕ) → times frames f ≡ 0 → (seen new slots).kept_bytes f ≡ (seen old slots).kept_bytes f
  pub gone : (slots : ℕ → List ℕ) (f : ℕ) → 0 < times frames f → (seen new slots).kept_bytes f ≡ []
