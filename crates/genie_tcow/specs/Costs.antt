-- What it costs to prepare output, by the place of each page before the call.
use Rattle.std.specs.Prelude.{◌≡◌, ℕ, suc, zero, ◌+◌, Bool, false, ◌||◌, Option, Some, None, if◌then◌else◌}
use Rattle.genie_frame.specs.FrameTable.{FrameTable, counts_at, is_held}
use Rattle.genie_object.specs.declared.memory.Memory.{Memory}
use Rattle.genie_object.specs.Memory.{entry_frame}
use Rattle.genie_object.specs.Touching.{is_entry}
use Rattle.genie_object.specs.Costs.{is_untouched, read_work}

abbrev pub is_held_in : FrameTable → Option ℕ → Bool
is_held_in t None = false
is_held_in t (Some f) = is_held (counts_at t f)

-- a page that a device reads or writes as it is at that moment
abbrev pub is_weakly_held : Memory → ℕ → ℕ → Bool
is_weakly_held m o i = is_held_in m.frames (entry_frame m o i)

-- a page that strong output moves bytes for: it is untouched, and is zeroed, or weakly held, and is copied
abbrev pub is_copied : Memory → ℕ → ℕ → Bool
is_copied m o i = is_untouched m o i || is_weakly_held m o i

abbrev pub send_work : Memory → ℕ → ℕ → ℕ
send_work m o i = if is_copied m o i then m.frames.page else 0

-- what n entries cost together
abbrev pub total_work : (ℕ → ℕ) → ℕ → ℕ
total_work cost zero = 0
total_work cost (suc n) = total_work cost n + cost n

-- what it costs to lend n entries strongly from the first one on
abbrev pub sends_work : Memory → ℕ → ℕ → ℕ → ℕ
sends_work m o first n = total_work (λ k. send_work m o (first + k)) n

-- what it costs to read n entries from the first one on
abbrev pub reads_work : Memory → ℕ → ℕ → ℕ → ℕ
reads_work m o first n = total_work (λ k. read_work m o (first + k)) n

-- no entry but this one has become dearer to lend strongly
abbrev pub OthersNoDearer : ℕ → ℕ → Memory → Memory → Type 0
OthersNoDearer o i old new = (a b : ℕ) → is_entry o i a b ≡ false → is_copied old a b ≡ false → is_copied new a b ≡ false
