-- What each call does to the frames.
use Rattle.std.specs.Prelude.{ℕ, ◌+◌, ◌-◌, ◌≤◌, Bool, true, false, List, length, if◌then◌else◌}
use Rattle.genie_base.specs.FreeLists.{IsFreeList}
use Rattle.genie_base.specs.Bytes.{overlaid}
use Rattle.genie_frame.specs.declared.frame.Owner.{Owner}
use Rattle.genie_frame.specs.declared.frame.Owner.TheVariants.{Free, Page, System, Pool, Nobody}
use Rattle.genie_frame.specs.declared.frame.Counts.{Counts}
use Rattle.genie_frame.specs.FrameTable.{FrameTable, is_free, is_lent, owner_at, bytes_at, set_owner, set_counts, set_bytes, IsShaped, AreLoansOwned}

-- the frames after n more of one meter were counted
abbrev pub more_read : FrameTable → ℕ → FrameTable
more_read t n = record t { meters = record (t.meters) { read = t.meters.read + n } }

abbrev pub more_written : FrameTable → ℕ → FrameTable
more_written t n = record t { meters = record (t.meters) { written = t.meters.written + n } }

abbrev pub more_copied : FrameTable → ℕ → FrameTable
more_copied t n = record t { meters = record (t.meters) { copied = t.meters.copied + n } }

abbrev pub more_zeroed : FrameTable → ℕ → FrameTable
more_zeroed t n = record t { meters = record (t.meters) { zeroed = t.meters.zeroed + n } }

abbrev pub more_puts : FrameTable → FrameTable
more_puts t = record t { meters = record (t.meters) { puts = t.meters.puts + 1 } }

abbrev pub more_gets : FrameTable → FrameTable
more_gets t = record t { meters = record (t.meters) { gets = t.meters.gets + 1 } }

abbrev pub more_taken : FrameTable → FrameTable
more_taken t = record t { meters = record (t.meters) { taken = t.meters.taken + 1 } }

abbrev pub more_landed : FrameTable → ℕ → FrameTable
more_landed t n = record t { landed = t.landed + n }

-- the frames after new bytes were stored in frame f from place x of its page on
abbrev pub stored : FrameTable → ℕ → ℕ → List ℕ → FrameTable
stored t f x new = set_bytes t f (overlaid x new (bytes_at t f))

-- whose a frame with these counts is once its owner has left it
abbrev pub unowned : Counts → Owner
unowned c = if is_lent c then Nobody else Free

-- whose a frame is after a loan on it has ended and left these counts
abbrev pub left_to : Owner → Counts → Owner
left_to Free c = Free
left_to (Page p) c = Page p
left_to (System t) c = System t
left_to (Pool d) c = Pool d
left_to Nobody c = unowned c

abbrev pub one_strong_more : Counts → Counts
one_strong_more c = record c { strong = c.strong + 1 }

abbrev pub one_weak_more : Counts → Counts
one_weak_more c = record c { weak = c.weak + 1 }

abbrev pub one_input_more : Counts → Counts
one_input_more c = record c { input = c.input + 1 }

abbrev pub one_input_less : Counts → Counts
one_input_less c = record c { input = c.input - 1 }

abbrev pub one_wire_more : Counts → Counts
one_wire_more c = record c { wires = c.wires + 1 }

abbrev pub one_wire_less : Counts → Counts
one_wire_less c = record c { wires = c.wires - 1 }

-- the output loans of one kind, strong or weak
abbrev pub outputs : Bool → Counts → ℕ
outputs true c = c.strong
outputs false c = c.weak

abbrev pub one_output_less : Bool → Counts → Counts
one_output_less true c = record c { strong = c.strong - 1 }
one_output_less false c = record c { weak = c.weak - 1 }

-- the frames after a loan on frame f has ended and left these counts: a frame of nobody is free with its last loan
abbrev pub loan_ended : FrameTable → ℕ → Counts → FrameTable
loan_ended t f left = set_owner (set_counts t f left) f (left_to (owner_at t f) left)

-- what every value of `Frames` keeps
pub record IsKept (page : ℕ) (owners : List Owner) (counts : List Counts) (bytes : List (List ℕ)) (free : List ℕ) (room : ℕ) : Type 0 where
  pub shaped : IsShaped page owners counts bytes
  pub loans : AreLoansOwned owners counts
  pub list : IsFreeList is_free Nobody owners free
  pub spare : length owners ≤ room
