-- What the end of an emulated copy input costs at most.
use Rattle.std.specs.Prelude.{◌≡◌, ℕ, zero, suc, ◌+◌, ◌*◌, ◌≤◌, nat_lt, if◌then◌else◌}
use Rattle.genie_object.specs.declared.memory.Memory.{Memory}
use Rattle.genie_finish.specs.Storing.{is_held_at}
use Rattle.genie_finish.specs.Ranges.{piece_len, stored_works}
use Rattle.genie_finish.specs.Ready.{parts_work}

-- two pages for each page of which the range has a part alone, and one for each page that a device holds
abbrev pub end_work : Memory → ℕ → ℕ → ℕ → ℕ → ℕ → ℕ
end_work m o i first len zero = 0
end_work m o i first len (suc k) = end_work m o i first len k + (if nat_lt (piece_len m.frames.page first len k) m.frames.page then 2 * m.frames.page else 0) + (if is_held_at m o (i + k) then m.frames.page else 0)

-- making a range's pages ready and storing it costs no more
abbrev pub EndsCostLittle : Type 0
EndsCostLittle = (old now : Memory) (o i first len few n : ℕ) → now.frames.page ≡ old.frames.page → parts_work old o i first len n + stored_works now o i first len few n ≤ end_work now o i first len n
