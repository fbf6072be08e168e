-- The end of a datagram in a buffer of a pool.
use Rattle.std.specs.Prelude.{◌≡◌, ℕ, min, Bool, List, Option, None, Some, IfSome, IsSome, find, position, slice_set}
use Rattle.genie_base.specs.Posted.{first}
use Rattle.genie_base.specs.declared.reply.Reply.{Reply}
use Rattle.genie_base.specs.declared.reply.Reply.TheVariants as reply
use Rattle.genie_demux.specs.Posted.{address, without, number_of as posted_number}
use Rattle.genie_input.specs.Pools.{PoolState, is_filling, set_buffer}
use Rattle.genie_input.specs.declared.pool.BufferState.{BufferState}
use Rattle.genie_input.specs.declared.pool.BufferState.TheVariants.{Free, Held}
use Rattle.genie_wire.specs.declared.header.Header.{Header}
use Rattle.genie_model.specs.Receiving.{note_of}
use Rattle.genie_model.specs.Tables.{entry}
use Rattle.genie_model.specs.declared.phase.Phase.TheVariants.{Ready}
use Rattle.genie_kernel.specs.declared.kernel.Kernel.{Kernel}
use Rattle.genie_kernel.specs.declared.transfer.Transfer.{Transfer}
use Rattle.genie_kernel.specs.Calls.{has_number}
use Rattle.genie_changes.specs.Working.{Work, worked}

-- an input with the bytes that fit it, of so many in a buffer
abbrev pub ready_with : ℕ → ℕ → Bool → ℕ → Transfer → Work
ready_with buffer so_far truncated len t = record { phase = Ready; buffer = Some buffer; stored = min so_far t.len; note = note_of truncated len t.len }

-- the input that a datagram meets is pending
abbrev pub IsPending : Option ℕ → List Transfer → Type 0
IsPending met transfers = IfSome met (λ (id : ℕ). IsSome (find (has_number id) transfers))

-- the pools, where this buffer of device d's is so
abbrev pub buffer_so : List (Option PoolState) → ℕ → PoolState → ℕ → BufferState → List (Option PoolState)
buffer_so pools d p buffer state = slice_set pools d (Some (set_buffer p buffer state))

-- what becomes of the datagram in this buffer of device d's pool, which meets this input, or none
abbrev pub DeliversTo : Option ℕ → ℕ → Header → ℕ → Bool → ℕ → PoolState → ℕ → Kernel → Kernel → Reply → Type 0
DeliversTo None d h so_far truncated n p buffer before after r = (after ≡ record before { pools = buffer_so (buffer_so before.pools d p buffer Held) d (set_buffer p buffer Held) buffer Free }) × (r ≡ reply.Dropped h.port h.flow h.len)
DeliversTo (Some id) d h so_far truncated n p buffer before after r = ((t : Transfer) → find (has_number id) before.transfers ≡ Some t → after ≡ record before { pools = buffer_so before.pools d p buffer Held; transfers = worked (has_number id) (ready_with buffer so_far truncated h.len t) before.transfers; posted = without id before.posted }) × (r ≡ reply.Got n)

-- the datagram of device d, of which so many bytes have come, ends in a step that moved n bytes
pub record Delivers (d : ℕ) (h : Header) (so_far : ℕ) (truncated : Bool) (n : ℕ) (before after : Kernel) (r : Reply) : Type 0 where
  pub pool : PoolState
  pub buffer : ℕ
  pub there : entry before.pools d ≡ Some pool
  pub filling : position is_filling pool.buffers ≡ Some buffer
  pub delivers : DeliversTo (posted_number (first address d h.port h.flow before.posted)) d h so_far truncated n pool buffer before after r
