-- The ends of transfers: `done` and `cancel`.
use Rattle.std.specs.Prelude.{ℕ, List, length, replicate, Option, None, Some, option_and_then, if◌then◌else◌}
use Rattle.genie_base.specs.Bytes.{overlaid}
use Rattle.genie_base.specs.declared.region.RegionState.TheVariants.{Live}
use Rattle.genie_base.specs.declared.reply.Reply.TheVariants as reply
use Rattle.genie_base.specs.declared.semantics.Class.{Class}
use Rattle.genie_base.specs.declared.semantics.Class.TheVariants.{Copy, Share, Move, WeakMove}
use Rattle.genie_base.specs.declared.semantics.Direction.{Direction}
use Rattle.genie_base.specs.declared.semantics.Direction.TheVariants.{Outward, Inward}
use Rattle.genie_model.specs.State.{State, Region, Transfer}
use Rattle.genie_model.specs.Tables.{without}
use Rattle.genie_model.specs.Regions.{write_reach_of, address_of, region_numbered, change_region, with_state, put}
use Rattle.genie_model.specs.Pending.{is_early_at, is_numbered, pending}
use Rattle.genie_model.specs.Space.{Outcome, stored}
use Rattle.genie_model.specs.Outputs.{give_up}
use Rattle.genie_model.specs.Inputs.{address_or_zero}

abbrev pub without_transfer : State → ℕ → State
without_transfer s k = record s { transfers = without (is_numbered k) s.transfers }

-- the region that a transfer names, where it isn't an orphan
abbrev pub region_of : State → Transfer → Option Region
region_of s t = option_and_then (region_numbered s) t.region

-- a copy input's bytes are stored where a write of its whole range reaches
abbrev pub finish_copy : State → Transfer → Option Region → Outcome
finish_copy s t None = (s, reply.Lost)
finish_copy s t (Some r) = (stored s (Some r) (address_or_zero t.addr) t.payload, reply.Input None t.stored t.note)

-- Live, with these bytes and then zeros
abbrev pub filled : List ℕ → Region → Region
filled bytes r = record r { state = Live; bytes = overlaid 0 bytes (replicate (length r.bytes) 0) }

abbrev pub finish_move : State → Transfer → Option Region → Outcome
finish_move s t None = (s, reply.Lost)
finish_move s t (Some r) = (change_region s r.number (filled t.payload), reply.Input (Some (address_of s r)) t.stored t.note)

-- on an early device the bytes have landed, on another they land now
abbrev pub after_landing : State → Transfer → Region → State
after_landing s t r = if is_early_at s t.device then s else put s r.number t.offset t.payload

abbrev pub finish_share : State → Transfer → Option Region → Outcome
finish_share s t None = (s, reply.Lost)
finish_share s t (Some r) = (after_landing s t r, reply.Input None t.stored t.note)

abbrev pub finish_weak_move : State → Transfer → Option Region → Outcome
finish_weak_move s t None = (s, reply.Lost)
finish_weak_move s t (Some r) = (change_region (after_landing s t r) r.number (with_state Live), reply.Input (Some (address_of s r)) t.stored t.note)

abbrev pub finish_input : State → ℕ → Transfer → Class → Outcome
finish_input s p t Copy = finish_copy s t (write_reach_of s p (address_or_zero t.addr) t.len)
finish_input s p t Share = finish_share s t (region_of s t)
finish_input s p t Move = finish_move s t (region_of s t)
finish_input s p t WeakMove = finish_weak_move s t (region_of s t)

abbrev pub finish_owned : State → ℕ → Transfer → Direction → Outcome
finish_owned s p t Outward = (s, reply.Output t.len)
finish_owned s p t Inward = finish_input s p t t.class

abbrev pub finish_for : State → Transfer → Option ℕ → Outcome
finish_for s t None = (s, reply.Gone)
finish_for s t (Some p) = finish_owned s p t t.direction

abbrev pub finish_found : State → ℕ → Option Transfer → Outcome
finish_found s k None = (s, reply.Okay)
finish_found s k (Some t) = finish_for (without_transfer s k) t t.owner

-- A finished transfer is no longer pending.
abbrev pub finish : State → ℕ → Outcome
finish s k = finish_found s k (pending s k)

abbrev pub cancel_found : State → ℕ → Option Transfer → Outcome
cancel_found s k None = (s, reply.Okay)
cancel_found s k (Some t) = (give_up (without_transfer s k) t.class (region_of s t), reply.Okay)

abbrev pub cancel : State → ℕ → Outcome
cancel s k = cancel_found s k (pending s k)
