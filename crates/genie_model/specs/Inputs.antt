-- The input call.
use Rattle.std.specs.Prelude.{ℕ, ◌+◌, ◌-◌, ◌/◌, Bool, not, ◌&&◌, ◌==◌, [], find, filter, map, Option, None, Some}
use Rattle.std.specs.List.{list_any}
use Rattle.genie_base.specs.Posted.{Address}
use Rattle.genie_base.specs.declared.region.RegionState.TheVariants.{In, Held}
use Rattle.genie_base.specs.declared.reply.Note.TheVariants.{Whole}
use Rattle.genie_base.specs.declared.reply.Reply.TheVariants as reply
use Rattle.genie_base.specs.declared.semantics.Class.{Class}
use Rattle.genie_base.specs.declared.semantics.Class.TheVariants.{Copy, Share, Move, WeakMove}
use Rattle.genie_base.specs.declared.semantics.Direction.TheVariants.{Inward}
use Rattle.genie_model.specs.declared.phase.Phase.TheVariants.{Posted}
use Rattle.genie_model.specs.State.{State, Region, Process, Transfer}
use Rattle.genie_model.specs.Tables.{entry}
use Rattle.genie_model.specs.Regions.{regions_at, queue_of, is_region, reach_of, fresh, changed, change_process, with_state}
use Rattle.genie_model.specs.Pending.{names, add_transfer}
use Rattle.genie_model.specs.Space.{Outcome, add_region, zeros_at_place}
use Rattle.genie_model.specs.Outputs.{place_reached, number_of}

-- how many pages n bytes need
abbrev pub pages_for : State → ℕ → ℕ
pages_for s n = (n + s.config.page - 1) / s.config.page

-- an input with the address that it keeps, or with the region that it names and the place there
abbrev pub input_of : State → ℕ → Class → Address → ℕ → Option ℕ → Option ℕ → ℕ → Transfer
input_of s p class to n addr region offset = record {
  number = s.next;
  owner = Some p;
  direction = Inward;
  class = class;
  device = to.device;
  port = to.port;
  flow = to.flow;
  addr = addr;
  region = region;
  offset = offset;
  len = n;
  phase = Posted;
  payload = [];
  staged = 0;
  moved = 0;
  stored = 0;
  note = Whole;
}

abbrev pub has_pages : ℕ → ℕ → Region → Bool
has_pages k pages r = is_region k r && (r.pages == pages)

-- region k of process p has exactly so many pages, and no pending transfer names it
abbrev pub is_reusable : State → ℕ → ℕ → ℕ → Bool
is_reusable s p pages k = list_any (has_pages k pages) (regions_at s p) && not (list_any (names k) s.transfers)

-- the first such region of the weak queue, or none
abbrev pub reusable : State → ℕ → ℕ → Option ℕ
reusable s p pages = find (is_reusable s p pages) (queue_of (entry s.processes p))

-- the region k of a process leaves the weak queue, and is In
abbrev pub moved_in_of : ℕ → Process → Process
moved_in_of k p = record { queue = filter (λ n. not (n == k)) p.queue; regions = map (changed k (with_state In)) p.regions }

abbrev pub moved_in : State → ℕ → State
moved_in s k = record s { processes = map (change_process (moved_in_of k)) s.processes }

-- Region k becomes the buffer of a weak move input, or else one of zeros is made.
abbrev pub weak_buffer : State → ℕ → ℕ → Option ℕ → State
weak_buffer s p n None = add_region s p (zeros_at_place s In p (pages_for s n))
weak_buffer s p n (Some k) = moved_in s k

abbrev pub number_or_fresh : State → Option ℕ → Option ℕ
number_or_fresh s None = Some (fresh s)
number_or_fresh s (Some k) = Some k

-- the state with the input's buffer
abbrev pub with_buffer : State → ℕ → Class → ℕ → State
with_buffer s p Copy n = s
with_buffer s p Share n = s
with_buffer s p Move n = add_region s p (zeros_at_place s Held p (pages_for s n))
with_buffer s p WeakMove n = weak_buffer s p n (reusable s p (pages_for s n))

abbrev pub address_or_zero : Option ℕ → ℕ
address_or_zero None = 0
address_or_zero (Some a) = a

-- Copy keeps the address, share names the region that is reached, and the others name the region of their buffer.
abbrev pub posted : State → ℕ → Class → Address → Option ℕ → ℕ → Transfer
posted s p Copy to addr n = input_of s p Copy to n addr None 0
posted s p Share to addr n =
    let reached = reach_of s p (address_or_zero addr) n in
    input_of s p Share to n None (number_of reached) (place_reached s reached (address_or_zero addr))
posted s p Move to addr n = input_of s p Move to n None (Some (fresh s)) 0
posted s p WeakMove to addr n = input_of s p WeakMove to n None (number_or_fresh s (reusable s p (pages_for s n))) 0

abbrev pub input : State → ℕ → Class → Address → Option ℕ → ℕ → Outcome
input s p class to addr n = (add_transfer (with_buffer s p class n) (posted s p class to addr n), reply.Id s.next)
