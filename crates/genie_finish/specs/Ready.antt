-- The pages of a range are made ready for what is to be stored there.
use Rattle.std.specs.Prelude.{ℕ, zero, suc, ◌+◌, nat_lt, if◌then◌else◌}
use Rattle.genie_store.specs.StoreView.{StoreView}
use Rattle.genie_object.specs.declared.memory.Memory.{Memory}
use Rattle.genie_object.specs.Touching.{is_in_range}
use Rattle.genie_object.specs.Calls.{OnlyMoves, TakesAtMost}
use Rattle.genie_object.specs.Costs.{Spends, write_work}
use Rattle.genie_finish.specs.Ranges.{piece_len}

-- what it costs to make a page ready for n bytes: a page of which they are a part is made writable
abbrev pub part_work : Memory → ℕ → ℕ → ℕ → ℕ
part_work m o i n = if nat_lt n m.frames.page then write_work m o i else 0

-- the same for n pages of a range
abbrev pub parts_work : Memory → ℕ → ℕ → ℕ → ℕ → ℕ → ℕ
parts_work m o i first len zero = 0
parts_work m o i first len (suc k) = parts_work m o i first len k + part_work m o (i + k) (piece_len m.frames.page first len k)

-- n entries of object o from entry i on were made ready, at this cost, or some of them before the store failed
pub record MakesReady (old new : Memory) (before now : StoreView) (o i n work : ℕ) : Type 0 where
  pub moves : OnlyMoves (is_in_range o i n) old new before now
  pub takes : TakesAtMost n n old new
  pub spends : Spends work n 0 n old.frames.meters new.frames.meters
