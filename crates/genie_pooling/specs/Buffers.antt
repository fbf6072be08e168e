-- What a receive step does to the buffers of a pool.
use Rattle.std.specs.Prelude.{◌≡◌, ℕ, ◌<◌, List, length, Option, None, Some, IsSome, position, slice_index_or, slice_set}
use Rattle.genie_input.specs.Pools.{PoolState, is_filling, is_free, set_buffer}
use Rattle.genie_input.specs.declared.pool.BufferState.TheVariants.{Free, Filling, Held}
use Rattle.genie_model.specs.Tables.{entry}

-- a pool has a free buffer, and fills none
pub record MayBeginIn (p : PoolState) : Type 0 where
  pub free : IsSome (position is_free p.buffers)
  pub none : position is_filling p.buffers ≡ None

abbrev pub MayBegin : Option PoolState → Type 0
MayBegin None = ⊥
MayBegin (Some p) = MayBeginIn p

-- the pool of device d fills its first free buffer
pub record Begins (d : ℕ) (pools pools_now : List (Option PoolState)) : Type 0 where
  pub before : PoolState
  pub buffer : ℕ
  pub there : entry pools d ≡ Some before
  pub first : position is_free before.buffers ≡ Some buffer
  pub only : pools_now ≡ slice_set pools d (Some (set_buffer before buffer Filling))

-- a pool fills a buffer
abbrev pub HasFilling : Option PoolState → Type 0
HasFilling None = ⊥
HasFilling (Some p) = IsSome (position is_filling p.buffers)

-- the buffer that the pool of device d fills holds a datagram
pub record Arrives (d : ℕ) (pools pools_now : List (Option PoolState)) (buffer : ℕ) : Type 0 where
  pub before : PoolState
  pub there : entry pools d ≡ Some before
  pub filling : position is_filling before.buffers ≡ Some buffer
  pub only : pools_now ≡ slice_set pools d (Some (set_buffer before buffer Held))

-- a buffer of a pool holds a datagram
pub record IsHeldIn (buffer : ℕ) (p : PoolState) : Type 0 where
  pub there : buffer < length p.buffers
  pub held : slice_index_or p.buffers buffer Free ≡ Held

abbrev pub HoldsIn : ℕ → Option PoolState → Type 0
HoldsIn buffer None = ⊥
HoldsIn buffer (Some p) = IsHeldIn buffer p

-- it is free again
pub record Frees (d buffer : ℕ) (pools pools_now : List (Option PoolState)) : Type 0 where
  pub before : PoolState
  pub there : entry pools d ≡ Some before
  pub only : pools_now ≡ slice_set pools d (Some (set_buffer before buffer Free))
