-- Where the clock stands after a round.
use Rattle.std.specs.Prelude.{◌≡◌, ℕ, ◌+◌, ◌-◌, ◌≤◌, ◌<◌, ◌⊎◌, Bool, false, nat_lt, nat_le, length, List, if◌then◌else◌}
use Rattle.genie_frame.specs.FrameTable.{owner_at, counts_at}
use Rattle.genie_object.specs.declared.memory.Memory.{Memory}
use Rattle.genie_hiding.specs.Rooms.{can_leave}
use Rattle.genie_pageout.specs.Going.{may_go_from}

-- where a round over n frames begins: at the clock's frame, or at the first one where there are fewer frames
abbrev pub start : ℕ → ℕ → ℕ
start n clock = if nat_lt clock n then clock else 0

-- the place of frame f in a round over n frames that begins at `from`
abbrev pub round_place : ℕ → ℕ → ℕ → ℕ
round_place n from f = if nat_le from f then f - from else f + n - from

-- the clock behind the last of so many frames of a round, or where it was if none was passed
abbrev pub stands : ℕ → ℕ → ℕ → ℕ
stands n clock passed = if nat_lt 0 passed then (if nat_le (start n clock + passed) n then start n clock + passed else start n clock + passed - n) else clock

-- a round passed some frames, in their order from the clock's on, and the clock stands behind the last of them: no frame
-- that was passed has a page that could go, and at most as many pages went as frames were passed
pub record GoesRound (goes : ℕ → Bool) (n : ℕ) (old new : Memory) (clock after : ℕ) : Type 0 where
  pub passed : ℕ
  pub most : passed ≤ n
  pub place : after ≡ stands n clock passed
  pub gone : (f : ℕ) → f < n → round_place n (start n clock) f < passed → goes f ≡ false
  pub puts : new.frames.meters.puts ≤ old.frames.meters.puts + passed

abbrev pub leaves_from : Memory → ℕ → Bool
leaves_from m f = can_leave (owner_at m.frames f) (counts_at m.frames f)

-- so it is with the pages that could leave their frames, and with those that may go to the store
abbrev pub MovesOn : Memory → Memory → ℕ → ℕ → Type 0
MovesOn old new clock after = GoesRound (leaves_from new) (length old.frames.owners) old new clock after

abbrev pub PutsOn : List ℕ → Memory → Memory → ℕ → ℕ → Type 0
PutsOn hidden old new clock after = GoesRound (may_go_from new hidden) (length old.frames.owners) old new clock after

-- the same of a range of frames: those before `at` were passed, none where enough was done before, and all unless enough
-- is done now
pub record Passes (goes : ℕ → Bool) (before now : Type 0) (old new : Memory) (from to clock after : ℕ) : Type 0 where
  pub at : ℕ
  pub order : from ≤ at
  pub within : at ≤ to
  pub place : after ≡ (if nat_lt from at then at else clock)
  pub gone : (f : ℕ) → from ≤ f → f < at → goes f ≡ false
  pub puts : new.frames.meters.puts + from ≤ old.frames.meters.puts + at
  pub idle : before → at ≡ from
  pub end : now ⊎ (at ≡ to)
