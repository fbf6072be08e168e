-- What the end of an input costs on an early device.
use Rattle.std.specs.Prelude.{◌≡◌, ℕ, ◌/◌, ◌%◌, false, if◌then◌else◌}
use Rattle.genie_base.specs.declared.config.Config.{Config}
use Rattle.genie_base.specs.declared.semantics.Semantics.{Semantics}
use Rattle.genie_base.specs.Counts.{span}
use Rattle.genie_base.specs.Transfers.{is_emulated}
use Rattle.genie_finish.specs.Ranges.{stored_works}
use Rattle.genie_finish.specs.Ready.{parts_work}
use Rattle.genie_object.specs.declared.memory.Memory.{Memory}
use Rattle.genie_copying.specs.Kinds.{is_weakly_held}

-- to make the pages ready in which len bytes lie from place off of the object on
abbrev pub ready_work : Memory → ℕ → ℕ → ℕ → ℕ
ready_work m o off len = parts_work m o (off / m.frames.page) (off % m.frames.page) len (span m.frames.page off len)

-- and to store the bytes there
abbrev pub store_work : Memory → ℕ → ℕ → ℕ → ℕ → ℕ
store_work m o off len few = stored_works m o (off / m.frames.page) (off % m.frames.page) len few (span m.frames.page off len)

-- at most so many bytes of a page are copied out
abbrev pub few_of : Config → Semantics → ℕ
few_of config sem = if is_emulated sem then config.rcout else config.page

-- no device holds a page that none held
abbrev pub HoldsNoMore : Memory → Memory → Type 0
HoldsNoMore old new = (o i : ℕ) → is_weakly_held old o i ≡ false → is_weakly_held new o i ≡ false
