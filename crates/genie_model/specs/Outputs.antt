-- The output call.
use Rattle.std.specs.Prelude.{ℕ, [], ◌∷◌, ◌++◌, map, Option, None, Some, if◌then◌else◌}
use Rattle.std.specs.Option.{option_map}
use Rattle.genie_base.specs.Posted.{Address}
use Rattle.genie_base.specs.Transfers.{is_strong}
use Rattle.genie_base.specs.declared.region.RegionState.TheVariants.{Out}
use Rattle.genie_base.specs.declared.reply.Note.TheVariants.{Whole}
use Rattle.genie_base.specs.declared.reply.Reply.TheVariants as reply
use Rattle.genie_base.specs.declared.semantics.Class.{Class}
use Rattle.genie_base.specs.declared.semantics.Class.TheVariants.{Copy, Share, Move, WeakMove}
use Rattle.genie_base.specs.declared.semantics.Direction.TheVariants.{Outward}
use Rattle.genie_model.specs.declared.phase.Phase.TheVariants.{Queued}
use Rattle.genie_model.specs.State.{State, Region, Process, Transfer}
use Rattle.genie_model.specs.Regions.{has_number, reach_of, place_in, changed, change_process, with_state}
use Rattle.genie_model.specs.Pending.{add_transfer}
use Rattle.genie_model.specs.Space.{Outcome, bytes_reached, remove}

-- where a range begins in the region that it reaches
abbrev pub place_reached : State → Option Region → ℕ → ℕ
place_reached s None a = 0
place_reached s (Some r) a = place_in s r a

abbrev pub number_of : Option Region → Option ℕ
number_of r = option_map (λ (q : Region). q.number) r

-- A strong output takes its bytes now, and a weak one names its region.
abbrev pub output_of : State → ℕ → Class → Address → ℕ → ℕ → Option Region → Transfer
output_of s p class to a n reached = record {
  number = s.next;
  owner = Some p;
  direction = Outward;
  class = class;
  device = to.device;
  port = to.port;
  flow = to.flow;
  addr = None;
  region = if is_strong class then None else number_of reached;
  offset = place_reached s reached a;
  len = n;
  phase = Queued;
  payload = if is_strong class then bytes_reached s reached a n else [];
  staged = 0;
  moved = 0;
  stored = 0;
  note = Whole;
}

-- the region k of a process is Out, at the end of the weak queue
abbrev pub moved_out_of : ℕ → Process → Process
moved_out_of k p = if has_number k (Some p) then record { queue = p.queue ++ k ∷ []; regions = map (changed k (with_state Out)) p.regions } else p

abbrev pub moved_out : State → ℕ → State
moved_out s k = record s { processes = map (change_process (moved_out_of k)) s.processes }

-- what becomes of a buffer that is given up: a move's goes, and a weak move's is moved out
abbrev pub give_up : State → Class → Option Region → State
give_up s class None = s
give_up s Copy (Some r) = s
give_up s Share (Some r) = s
give_up s Move (Some r) = remove s r
give_up s WeakMove (Some r) = moved_out s r.number

abbrev pub output : State → ℕ → Class → Address → ℕ → ℕ → Outcome
output s p class to a n = (give_up (add_transfer s (output_of s p class to a n (reach_of s p a n))) class (reach_of s p a n), reply.Id s.next)
