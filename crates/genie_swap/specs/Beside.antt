-- What a swapped page leaves as it was.
use Rattle.std.specs.Prelude.{◌≡◌, ℕ, true}
use Rattle.genie_frame.specs.FrameTable.{counts_at, is_lent}
use Rattle.genie_object.specs.declared.memory.Memory.{Memory}
use Rattle.genie_object.specs.Touching.{Touches, Lasts, is_entry}

-- every other entry, the pages that only others name, and the lent frames stay as they were
pub record LeavesOthers (o i : ℕ) (old new : Memory) : Type 0 where
  pub touches : Touches (is_entry o i) old new
  pub lent : (f : ℕ) → is_lent (counts_at old.frames f) ≡ true → Lasts old.frames new.frames f
