-- The frames of a buffer.
use Rattle.std.specs.Prelude.{◌≡◌, ℕ, ◌<◌, true, List, length, slice_index_or}
use Rattle.genie_frame.specs.declared.frame.Counts.{Counts}
use Rattle.genie_frame.specs.FrameTable.{FrameTable, owner_at, counts_at, is_system}
use Rattle.genie_object.specs.declared.memory.Memory.{Memory}
use Rattle.genie_object.specs.Touching.{KeepsLoans}
use Rattle.genie_plan.specs.Plans.{AreApart}

-- one input loan, and nothing else
abbrev pub one_input : Counts
one_input = record { strong = 0; weak = 0; input = 1; wires = 0 }

-- a frame of a transfer's own buffer, or of a device's, which carries one loan
pub record IsBuffer (t : FrameTable) (f : ℕ) : Type 0 where
  pub there : f < length t.owners
  pub own : is_system (owner_at t f) ≡ true
  pub lent : counts_at t f ≡ one_input

-- frames of a buffer, each another one
pub record AreBuffers (t : FrameTable) (frames : List ℕ) : Type 0 where
  pub each : (k : ℕ) → k < length frames → IsBuffer t (slice_index_or frames k 0)
  pub apart : AreApart frames

-- a buffer stays one under any call that keeps loans and changes no count
abbrev pub BuffersStay : Type 0
BuffersStay = (old new : Memory) (frames : List ℕ) → KeepsLoans old new → new.frames.counts ≡ old.frames.counts → AreBuffers old.frames frames → AreBuffers new.frames frames
